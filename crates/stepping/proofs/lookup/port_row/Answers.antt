use mathlib.Core.Path.{sym, ◌∙◌}
use native.Mathlib.Omega.{arith}
use lib.ListN.{length-set}
use Rattle.candidates.proofs.Halves.{without-smaller}
use Rattle.stepping.proofs.Ports.{noted-all, noted-skip, noted-put}
use Rattle.stepping.proofs.lookup.port_row.Goals as goal

pub loop-rest-smaller-then-y-none : goal.loop-rest-smaller-then-y-none
loop-rest-smaller-then-y-none c = let f = c.first_link-x.ensures in without-smaller _ _ f.0 _ c.without_link-less.ensures f.1

pub loop-rest-preserved-then-y-none : goal.loop-rest-preserved-then-y-none
loop-rest-preserved-then-y-none c = let f = c.first_link-x in
    let r = c.requires.2 f.result f.ensures.0 (c.loop-rest.invariant.1.part f.result f.ensures.0 f.ensures.1) in
    let a = c.args in
    let l = c.loop-rest in
    let n = c.if-y-none.true in
    (simp length-set l.invariant.0, noted-put a.to.now a.none a.set a.c a.table.now l.rest l.table l.invariant.1 f.result f.ensures.0 f.ensures.1 c.without_link-less.result c.without_link-less.ensures n (omega (arith, r.1.0, r.1.1, c.requires.0, c.requires.1, l.invariant.0)))

pub loop-rest-smaller : goal.loop-rest-smaller
loop-rest-smaller c = let f = c.first_link-x.ensures in without-smaller _ _ f.0 _ c.without_link-less.ensures f.1

pub loop-rest-preserved : goal.loop-rest-preserved
loop-rest-preserved c = let f = c.first_link-x in
    let a = c.args in
    let l = c.loop-rest in
    (l.invariant.0, noted-skip a.to.now a.none a.set a.c a.table.now l.rest l.table l.invariant.1 f.result f.ensures.0 f.ensures.1 c.without_link-less.result c.without_link-less.ensures c.if-y-none.false)

pub returns : goal.returns
returns c = let a = c.args in
    let l = c.loop-rest in
    (l.invariant.0, noted-all a.to.now a.none a.set a.c a.table.now l.rest l.table (sym c.is_empty.ensures ∙ c.loop-rest-test.false) l.invariant.1)
