use Prim.Native.Nat.{suc}
use mathlib.Core.Path.{refl}
use mathlib.Core.List.{[], ◌∷◌}
use native.Mathlib.Omega.{arith}
use lib.ListN.{length-set, replicate, set}
use Rattle.rows.specs.Limits.{sheet_atom_limit, sheet_link_limit}
use Rattle.faults.specs.Parts.{Cut}
use Rattle.stepping.proofs.Tables.{below_next}
use Rattle.faults.proofs.Whole.{holds-start}
use Rattle.faults.proofs.Parting.{stepped_same, stepped_then, cut-kept, part-cuts}
use Rattle.faults.proofs.part.part.Goals as goal

pub loop-c-init : goal.loop-c-init
loop-c-init c = let a = c.args in
    (stepped_same a.laid.now a.atoms a.links a.used.now (set (replicate sheet_atom_limit 0) a.root 1) (replicate sheet_link_limit 0) (simp length-set) refl, λ i h. absurd (omega arith))

pub loop-c-preserved : goal.loop-c-preserved
loop-c-preserved c = let a = c.args in
    let l = c.loop-c in
    let w = c.with_cut in (
      stepped_then a.laid.now a.atoms a.links a.used.now (set (replicate sheet_atom_limit 0) a.root 1) (replicate sheet_link_limit 0) l.members l.seen w.new.members w.new.seen l.invariant.0 w.ensures.0,
      below_next (Cut w.new.seen a.used.now a.ports.now a.links) l.c (λ i h. cut-kept l.seen w.new.seen a.used.now a.ports.now a.links i w.ensures.0.kept (l.invariant.1 i h)) (w.ensures.1 c.if-not-with_cut.false),
    )

pub returns : goal.returns
returns c = let a = c.args in
    let l = c.loop-c in
    λ chains S F q e on t o rows all.
    part-cuts S F q chains a.used.now a.ports.now a.atoms a.contexts (suc a.root) a.links l.members l.seen e t rows
    (l.invariant.0.holds S F q (suc a.root) e on t.around t.used-flag (suc a.root ∷ [], [], holds-start a.atoms a.root c.requires.2 c.requires.0.few S F q o)) (λ i h. l.invariant.1 i (omega arith))
