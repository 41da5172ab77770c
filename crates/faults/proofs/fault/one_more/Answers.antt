-- The least of the contexts that are left, or none is.
use Prim.Native.Nat.{◌<◌}
use mathlib.Core.Logic.{⊎_elim}
use native.Mathlib.Omega.{arith}
use lib.ListN.{get_or}
use Rattle.faults.specs.Grows.{growth}
use Rattle.faults.specs.Gives.{given}
use Rattle.faults.proofs.Serving.{none_left, one-given, rows_in}
use Rattle.faults.proofs.fault.one_more.Goals as goal

pub returns-then-c-rows : goal.returns-then-c-rows
returns-then-c-rows c = let a = c.args in
    let g = c.grown-count in
    let b = c.least-c in record {
      contexts-room = c.requires.4;
      done-room = c.requires.5;
      at = λ S F q held t o. c.part-cut.ensures a.chains.now S F q held.link-count held.atom-rows t o (rows_in F a.rows held.choice-count)
          (none_left S F a.laid.now a.atoms a.links (λ i. get_or a.numbers.now i 0) a.rows held q a.root (growth g.new.order g.result g.new.way) g.new.seen g.new.cuts (g.ensures.1 S F q held.atom-rows t o)
          (⊎_elim (λ d. let h : b.result < a.rows = d.0 in let e = c.if-c-rows.true in absurd (omega arith)) (λ d. d.1) b.ensures.1));
    }

pub returns : goal.returns
returns c = let a = c.args in
    let g = c.grown-count in
    let b = c.least-c in
    let v = c.give.ensures g.new.way in record {
      contexts-room = v.contexts-room;
      done-room = v.done-room;
      at = λ S F q held t o. ⊎_elim
          (λ d. one-given S F a.laid.now a.atoms a.links (λ i. get_or a.numbers.now i 0) a.rows held q a.root (growth g.new.order g.result g.new.way) g.new.seen g.new.cuts (g.ensures.1 S F q held.atom-rows t o)
          b.result d.0 d.1 d.2 g.ensures.0 (given a.contexts.now a.done.now) (given c.give.new.contexts c.give.new.done) v)
          (λ d. absurd (c.if-c-rows.false d.0)) b.ensures.1;
    }
