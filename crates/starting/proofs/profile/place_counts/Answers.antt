-- One more atom is counted.
use Rattle.std.proofs.Common.{arith}
use Rattle.starting.specs.Count.{count}
use Rattle.starting.proofs.Tallies.{rows-counted}
use Rattle.starting.proofs.profile.place_counts.Goals as goal

pub loop-i-init : goal.loop-i-init
unfolding count
loop-i-init c = (c.requires.1, λ net o x h. omega (arith, c.requires.1.most x))

pub loop-i-preserved : goal.loop-i-preserved
loop-i-preserved c = let l = c.loop-i in
    let a = c.laid_atom-atom in
    let f = c.count_places.ensures in (
      record { width = f.0.width; most = λ q. omega (arith, f.0.most q) },
      λ net o. rows-counted net c.args.laid.now c.args.n o l.counts c.count_places.new.counts l.i a.result c.loop-i-test.true a.ensures (l.invariant.1 net o) f.1,
    )
