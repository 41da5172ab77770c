use Prim.Native.Nat.{◌-◌, ◌/◌, ◌%◌, ◌<◌}
use mathlib.Core.Path.{◌≡◌, sym, subst}
use native.Mathlib.Nat.{div-add-mod', mod-lt}
use native.Mathlib.Omega.{arith}
use lib.ListN.{get_or}
use Rattle.rows.specs.Format.{most_links}
use Rattle.rows.specs.Limits.{sheet_link_limit}
use Rattle.stepping.specs.Chains.{node_of}
use Rattle.faults.specs.Grows.{Growth, growth, Sized, Longer, WithAtoms, added}
use Rattle.faults.proofs.Growing.{added-room, longer-same, longer-then, sized-added, longer-added, joins, stays, atoms-start, atoms-next}
use Rattle.faults.proofs.growth.with_atoms.Goals as goal
use Rattle.faults.proofs.growth.with_atoms.Goals.{then-way-i-eq0, else-way-i-eq0}

pub loop-v-init : goal.loop-v-init
loop-v-init c = let a = c.args in
    let g = growth a.order.now a.count a.way.now in
    (c.requires.4.within a.y, c.requires.4.above a.y, c.requires.2, longer-same g, atoms-start a.chains.now a.y a.atoms c.requires.0 g)

pub bounds-order-next : goal.bounds-order-next
bounds-order-next c = let l = c.loop-v in let low = l.invariant.1 c.loop-v-test.true in let d = div-add-mod' (l.v - sheet_link_limit) most_links in let few = c.requires.1 in added-room c.args.atoms (growth l.order l.next l.way) ((l.v - sheet_link_limit) / most_links) c.args.mark c.requires.1 l.invariant.2 (omega arith) c.if-way-i-eq0.true c.requires.3

pub loop-v-preserved : goal.loop-v-preserved
loop-v-preserved c = let l = c.loop-v in
    let a = c.args in
    let low = l.invariant.1 c.loop-v-test.true in
    let d = div-add-mod' (l.v - sheet_link_limit) most_links in
    let i = (l.v - sheet_link_limit) / most_links in
    let k = (l.v - sheet_link_limit) % most_links in
    let rest : k < most_links = mod-lt (l.v - sheet_link_limit) (omega arith) in
    let e : l.v ≡ node_of i k = omega arith in
    let h : i < a.atoms = omega arith in
    let g₀ = growth a.order.now a.count a.way.now in
    let g = growth l.order l.next l.way in
    let P : Growth → Type 0 = λ m. Sized a.atoms m × Longer g₀ m × WithAtoms a.chains.now a.y a.atoms (get_or a.chains.now l.v 0) g₀ m in
    let w : P (growth c.if-way-i-eq0.order c.if-way-i-eq0.next c.if-way-i-eq0.way') = elim c.if-way-i-eq0.branch [
      | then-way-i-eq0 w ↦
          let f : growth c.if-way-i-eq0.order c.if-way-i-eq0.next c.if-way-i-eq0.way' ≡ added g i a.mark = cc in
          subst P (sym f) (
            sized-added a.atoms g i a.mark c.requires.1 l.invariant.2 h w.if-way-i-eq0.true c.requires.3,
            longer-then g₀ g (added g i a.mark) l.invariant.3 (longer-added a.atoms g i a.mark c.requires.1 l.invariant.2 h w.if-way-i-eq0.true c.requires.3),
            atoms-next a.chains.now a.y a.atoms c.requires.0 l.v i k g₀ g (added g i a.mark) rest e (joins a.atoms g i a.mark c.requires.1 l.invariant.2 h w.if-way-i-eq0.true c.requires.3) l.invariant.4,
          )
      | else-way-i-eq0 w ↦
          let f : growth c.if-way-i-eq0.order c.if-way-i-eq0.next c.if-way-i-eq0.way' ≡ g = cc in
          subst P (sym f) (l.invariant.2, l.invariant.3, atoms-next a.chains.now a.y a.atoms c.requires.0 l.v i k g₀ g g rest e (stays a.atoms i g w.if-way-i-eq0.false) l.invariant.4)
    ] in
    (c.requires.4.within l.v, c.requires.4.above l.v, w.0, w.1, w.2)

pub returns : goal.returns
returns c = let l = c.loop-v in
    let a = c.args in
    let e : l.v ≡ 0 = omega arith in
    (l.invariant.2, l.invariant.3, subst (λ n. WithAtoms a.chains.now a.y a.atoms n (growth a.order.now a.count a.way.now) (growth l.order l.next l.way)) e l.invariant.4)
