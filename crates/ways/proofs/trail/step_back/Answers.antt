-- What was tested of the atom and its places.
use Rattle.std.proofs.Common.{ℕ, suc, ◌-◌, ◌/◌, ◌%◌, ◌<◌, subst, arith}
use Rattle.rows.specs.Format.{most_links}
use Rattle.rows.specs.Limits.{sheet_link_limit}
use Rattle.ways.specs.Trails.{LaidStep}
use Rattle.ways.proofs.Steps.{from-range, step-tested}
use Rattle.ways.proofs.trail.step_back.Goals as goal

pub overflow_sub-result : goal.overflow_sub-result
overflow_sub-result c =
    let r = from-range c.args.net.now.laid.now c.args.net.now.atoms c.row_of-j.result c.args.net.now.rowed (let h = c.if-net-j.false in omega arith) (c.wide.result / most_links % most_links) c.wide-3.result
    (let h = c.if-width-from.false in let e = c.wide-width.ensures.0 in omega arith) c.wide-3.ensures.0 in
    omega (arith, r.0)

pub returns : goal.returns
returns c = let a = c.args in
    let y = c.wide-3.result - 1 in
    subst (λ (i : ℕ). (y < sheet_link_limit) × LaidStep a.net.now.laid.now a.net.now.taken.now a.net.now.atoms (suc y) (suc i) (suc a.z)) c.row_of-j.ensures
    (step-tested a.net.now.laid.now a.net.now.atoms c.row_of-j.result c.args.net.now.rowed (let h = c.if-net-j.false in omega arith) (c.wide.result / most_links % most_links) c.wide-3.result
    (let h = c.if-width-from.false in let e = c.wide-width.ensures.0 in omega arith)
    c.wide-3.ensures.0 a.net.now.taken.now (c.wide-into.result % most_links) a.z c.if-net-j-eq1.false
    (let h = c.if-width-into.false in let e = c.wide-width.ensures.0 in omega arith)
    (let e = c.wide-2.ensures.0 in let f = c.if-wide-z.false in omega arith))
