use native.Mathlib.Omega.{arith}
use Rattle.remaining.proofs.JoinLaws.{table-start, table-next, table-end}
use Rattle.remaining.proofs.classes.closures.Goals as goal

pub loop-w-init : goal.loop-w-init
loop-w-init c = let s = c in (omega arith, omega arith, table-start s.args.standing.now s.args.flags.now s.args.to.now s.args.count s.args.table.now s.requires.1)

pub loop-w-preserved : goal.loop-w-preserved
loop-w-preserved c = let s = c in
    let l = c.loop-w in
    (omega arith, omega (arith, c.loop-w-test.true), table-next s.args.standing.now s.args.flags.now s.args.to.now s.args.count l.w l.table c.loop-w-test.true l.invariant.2 c.closure_at-closed.result c.closure_at-closed.ensures)

pub returns : goal.returns
returns c = let s = c in
    let l = c.loop-w in
    table-end s.args.standing.now s.args.flags.now s.args.to.now s.args.count l.w l.table (omega (arith, c.loop-w-test.false)) l.invariant.2
