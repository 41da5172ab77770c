use native.Mathlib.Omega.{arith}
use Rattle.remaining.proofs.JoinLaws.{spread-next}
use Rattle.remaining.proofs.joins.spread.Goals as goal

pub loop-x-preserved : goal.loop-x-preserved
loop-x-preserved c = let s = c in
    let l = c.loop-x in
    (omega (arith, c.loop-x-test.true), spread-next s.args.standing.now s.args.flags.now s.args.to.now s.args.y s.args.word l.x l.next c.joined-next.result l.invariant.1 c.joined-next.ensures)
