use mathlib.Core.Path.{subst}
use Rattle.remaining.specs.Joining.{Spread}
use Rattle.remaining.proofs.JoinLaws.{closure-still, closure-all}
use Rattle.remaining.proofs.joins.closure.Goals as goal

pub returns-then-next-closed : goal.returns-then-next-closed
returns-then-next-closed c = let s = c in
    let l = c.loop-n in
    closure-still s.args.standing.now s.args.flags.now s.args.to.now s.args.y s.args.word s.args.count l.closed l.invariant.1
    (subst (Spread s.args.standing.now s.args.flags.now s.args.to.now s.args.count s.args.y l.closed) c.if-next-closed.true c.spread-next.ensures)

pub returns : goal.returns
returns c = let s = c in closure-all s.args.standing.now s.args.flags.now s.args.to.now s.args.y s.args.word s.args.count
