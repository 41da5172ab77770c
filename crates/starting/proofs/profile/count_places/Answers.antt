-- One more place is counted.
use Rattle.std.proofs.Common.{get_or, arith}
use Rattle.starting.specs.Count.{count as times}
use Rattle.starting.proofs.Tallies.{counted_next, tally-next}
use Rattle.starting.proofs.profile.count_places.Goals as goal

pub loop-k-init : goal.loop-k-init
unfolding times
loop-k-init c = (record { width = c.requires.2.width; most = λ q. omega (arith, c.requires.2.most q) }, λ x h. omega arith)

pub loop-k-preserved : goal.loop-k-preserved
loop-k-preserved c = let l = c.loop-k in
    let links = c.args.atom.links in
    let r = c.requires.0.numbered l.k c.loop-k-test.true in (
      tally-next l.counts (get_or links l.k 0) c.args.n l.k r l.invariant.0,
      counted_next l.counts c.args.counts.now links l.k l.invariant.0.width (omega (arith, c.loop-k-test.true, c.requires.0.few, c.requires.0.width)) r l.invariant.1,
    )
