use Prim.Native.Nat.{ℕ, ◌-◌, ◌≤◌}
use mathlib.Core.Path.{◌≡◌, subst}
use mathlib.Core.List.{List}
use native.Mathlib.Omega.{arith}
use lib.ListN.{get_or}
use Rattle.candidates.specs.Laid.{laid_atom}
use Rattle.faults.specs.Grows.{growth, WithLink, WithLinks}
use Rattle.faults.proofs.AtomRows.{laid-count, laid-link, laid-few, laid-range}
use Rattle.faults.proofs.Growing.{longer-then, links-next}
use Rattle.faults.proofs.growth.with_links.Goals as goal

pub bounds-laid-at-in-loop-k : goal.bounds-laid-at-in-loop-k
bounds-laid-at-in-loop-k c = omega (arith, laid-few c.args.laid.now c.args.atoms c.args.from c.requires.0 c.requires.1, c.requires.0.few, c.requires.1, c.loop-k-test.true)

pub overflow_sub-y : goal.overflow_sub-y
overflow_sub-y c = let r = laid-range c.args.laid.now c.args.atoms c.args.from c.requires.0 c.requires.1 c.loop-k.k c.loop-k-test.true in omega (arith, r.0, r.1)

pub with_link-next-requires : goal.with_link-next-requires
with_link-next-requires c = let l = c.loop-k in let r = laid-range c.args.laid.now c.args.atoms c.args.from c.requires.0 c.requires.1 c.loop-k.k c.loop-k-test.true in (omega (arith, r.0, r.1), c.requires.0.few, c.requires.2, l.invariant.0.sized, l.invariant.0.flags-room, l.invariant.0.cuts-room, omega (arith, c.requires.0.few, c.requires.1), c.requires.6)

pub loop-k-preserved : goal.loop-k-preserved
loop-k-preserved c = let l = c.loop-k in
    let a = c.args in
    let v = c.with_link-next.ensures in
    let r = laid-range c.args.laid.now c.args.atoms c.args.from c.requires.0 c.requires.1 c.loop-k.k c.loop-k-test.true in
    let g₀ = growth a.order.now a.count a.way.now in
    let g = growth l.order l.next l.way in
    let e = c.with_link-next.new in
    let n = growth e.order c.with_link-next.result e.way in
    let f = laid-link a.laid.now a.from l.k (omega (arith, laid-few c.args.laid.now c.args.atoms c.args.from c.requires.0 c.requires.1, c.loop-k-test.true)) in
    let now : List ℕ = e.seen in
    let w = subst (λ (z : ℕ). (1 ≤ z) × (get_or now (z - 1) 0 ≡ 1) × WithLink a.chains.now a.used.now a.ports.now (z - 1) a.atoms a.contexts g l.seen l.cuts n now e.cuts) f (r.0, v.1, v.2) in (
      record { sized = v.0.sized; longer = longer-then g₀ g n l.invariant.0.longer v.0.longer; flags-room = v.0.flags-room; flags-kept = λ z i. v.0.flags-kept z (l.invariant.0.flags-kept z i); cuts-room = v.0.cuts-room },
      links-next a.chains.now a.used.now a.ports.now (laid_atom a.laid.now a.from).links a.atoms a.contexts g₀ a.seen.now a.cuts.now l.k g l.seen l.cuts n now e.cuts w.0 l.invariant.0.longer l.invariant.0.sized v.0.flags-kept l.invariant.1 w.1 w.2,
    )

pub returns : goal.returns
returns c = let l = c.loop-k in
    let a = c.args in
    let e : l.k ≡ (laid_atom a.laid.now a.from).count = omega (arith, laid-count a.laid.now a.from) in
    (l.invariant.0, subst (λ n. WithLinks a.chains.now a.used.now a.ports.now (laid_atom a.laid.now a.from).links n a.atoms a.contexts (growth a.order.now a.count a.way.now) a.seen.now a.cuts.now (growth l.order l.next l.way) l.seen l.cuts) e l.invariant.1)
