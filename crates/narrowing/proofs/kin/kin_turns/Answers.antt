use Rattle.narrowing.proofs.Turns.{narrows_then}
use Rattle.narrowing.proofs.kin.kin_turns.Goals as goal

pub loop-x-preserved : goal.loop-x-preserved
loop-x-preserved c =
    let a = c.args in
    let k = c.kin_turn.new.links in
    λ sheet n figure m atoms users. narrows_then a.kin.now sheet n figure m atoms a.links.now atoms c.loop-x.links atoms k (c.loop-x.invariant sheet n figure m atoms users) (c.kin_turn.ensures sheet n figure m atoms users)
