-- Each step leads one link further back; a start makes it a way.
use Rattle.std.proofs.Common.{arith, length-set}
use Rattle.ways.proofs.Trails.{laid_end, laid-found, laid-again}
use Rattle.ways.proofs.trail.follow.Goals as goal

pub loop-at-init : goal.loop-at-init
loop-at-init c = (omega arith, c.requires.1, c.requires.2, laid_end c.args.net.now.laid.now c.args.net.now.taken.now c.args.net.now.atoms c.args.guards.now c.args.net.now.links c.args.net.now.sorted.now c.args.seen.now c.args.passed.now c.args.end c.requires.0 c.requires.3)

pub returns-then-net-z-eq1-2-clause-follows : goal.returns-then-net-z-eq1-2-clause-follows
returns-then-net-z-eq1-2-clause-follows c = let l = c.loop-at in
    laid-found c.args.net.now.laid.now c.args.net.now.taken.now c.args.net.now.atoms c.args.guards.now c.args.net.now.links c.args.net.now.sorted.now c.args.seen.now c.args.passed.now l.seen l.passed l.invariant.1 l.z c.args.net.now.few_links c.if-net-z.false l.invariant.3 c.if-seen-z-eq1.false c.if-net-z-eq1.false l.at (let h = c.loop-at-test.true in omega arith) l.invariant.2 c.if-net-z-eq1-2.true

pub loop-at-preserved : goal.loop-at-preserved
loop-at-preserved c = let l = c.loop-at in
    let e = c.in_ok-z.ensures in (
      let h = e.few in omega arith,
      simp length-set l.invariant.1,
      e.room,
      laid-again c.args.net.now.laid.now c.args.net.now.taken.now c.args.net.now.atoms c.args.guards.now c.args.net.now.links c.args.net.now.sorted.now c.args.seen.now c.args.passed.now l.seen l.passed l.invariant.1 l.z c.args.net.now.few_links c.if-net-z.false l.invariant.3 c.if-seen-z-eq1.false c.if-net-z-eq1.false _ c.in_ok-z.z e,
    )
