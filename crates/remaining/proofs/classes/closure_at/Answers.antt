-- `classes::closure_at` meets its contract. Assumes nothing.
use native.Mathlib.Omega.{arith}
use lib.ListN.{get_or}
use Rattle.candidates.proofs.Digits.{alone-in}
use Rattle.remaining.proofs.JoinLaws.{rest-less, head-less, head-or-rest, closure-both}
use Rattle.remaining.proofs.classes.closure_at.Goals as goal

pub offset_bounds-table-head : goal.offset_bounds-table-head
offset_bounds-table-head c = let a = c.args in
    let l = rest-less a.w c.minus-rest.result c.requires.2 c.one.result c.first.result c.first.ensures.1 (alone-in c.first.result c.one.result c.one.ensures) c.minus-rest.ensures in
    let h = head-less a.w c.minus-rest.result c.requires.2 c.one.result c.minus-head.result c.minus-rest.ensures c.minus-head.ensures c.if-rest-eq0.false l in
    omega (arith, h, c.requires.2)

pub bounds-table-head : goal.bounds-table-head
bounds-table-head c = let a = c.args in
    let l = rest-less a.w c.minus-rest.result c.requires.2 c.one.result c.first.result c.first.ensures.1 (alone-in c.first.result c.one.result c.one.ensures) c.minus-rest.ensures in
    let h = head-less a.w c.minus-rest.result c.requires.2 c.one.result c.minus-head.result c.minus-rest.ensures c.minus-head.ensures c.if-rest-eq0.false l in
    omega (arith, h, c.requires.2)

pub offset_bounds-table-rest : goal.offset_bounds-table-rest
offset_bounds-table-rest c = let a = c.args in
    let l = rest-less a.w c.minus-rest.result c.requires.2 c.one.result c.first.result c.first.ensures.1 (alone-in c.first.result c.one.result c.one.ensures) c.minus-rest.ensures in
    omega (arith, l, c.requires.2)

pub bounds-table-rest : goal.bounds-table-rest
bounds-table-rest c = let a = c.args in
    let l = rest-less a.w c.minus-rest.result c.requires.2 c.one.result c.first.result c.first.ensures.1 (alone-in c.first.result c.one.result c.one.ensures) c.minus-rest.ensures in
    omega (arith, l, c.requires.2)

pub returns : goal.returns
returns c = let a = c.args in
    let l = rest-less a.w c.minus-rest.result c.requires.2 c.one.result c.first.result c.first.ensures.1 (alone-in c.first.result c.one.result c.one.ensures) c.minus-rest.ensures in
    let h = head-less a.w c.minus-rest.result c.requires.2 c.one.result c.minus-head.result c.minus-rest.ensures c.minus-head.ensures c.if-rest-eq0.false l in
    closure-both a.standing.now a.flags.now a.to.now a.count 0 c.minus-head.result c.minus-rest.result a.w (get_or a.table.now c.minus-head.result 0) (get_or a.table.now c.minus-rest.result 0)
    (head-or-rest a.w c.minus-rest.result c.requires.2 c.one.result c.minus-head.result c.minus-rest.ensures c.minus-head.ensures) (c.requires.3 c.minus-head.result h) (c.requires.3 c.minus-rest.result l)
