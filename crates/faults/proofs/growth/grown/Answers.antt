use Prim.Native.Nat.{ℕ, suc, ◌<◌}
use mathlib.Core.Path.{◌≡◌, refl, sym, subst}
use mathlib.Core.List.{List}
use native.Mathlib.Omega.{arith}
use lib.ListN.{length, set, replicate}
use Rattle.rows.specs.Limits.{sheet_atom_limit, sheet_link_limit, context_room}
use Rattle.placing.specs.Net.{Net}
use Rattle.placing.specs.Placing.{Placing}
use Rattle.completing.specs.Fault.{Other}
use Rattle.faults.specs.Grows.{growth, Sized, Tables, Grows, RowsIn}
use Rattle.faults.proofs.Whole.{sized-start, grows_start, seen_next, grows-next, whole-at}
use Rattle.faults.proofs.growth.grown.Goals as goal

pub loop-head-init : goal.loop-head-init
loop-head-init c = let a = c.args in
    let n = a.atoms in
    let o = set a.order.now 0 a.root in
    let P : List ℕ → List ℕ → List ℕ → Type 0 = λ m v b. Sized n (growth o 1 (set m a.root 1)) × (length v ≡ sheet_link_limit) × (length b ≡ context_room) × ((S F : Net) (q : Placing) → RowsIn S a.laid.now n → Tables S F q a.chains.now a.used.now a.ports.now n a.contexts → Other S F q (suc a.root) → Grows S F q (suc a.root) a.contexts (growth o 1 (set m a.root 1)) v b) in
    let w : P a.way.now a.seen.now a.cuts.now = subst (λ m. P m a.seen.now a.cuts.now) (sym c.requires.4) (subst (λ v. P (replicate sheet_atom_limit 0) v a.cuts.now) (sym c.requires.5) (subst (P (replicate sheet_atom_limit 0) (replicate sheet_link_limit 0)) (sym c.requires.6) (
      sized-start n a.root c.requires.1 c.requires.0.few a.order.now c.requires.3,
      refl,
      refl,
      λ S F q rows t k. grows_start n a.root c.requires.1 c.requires.0.few a.order.now c.requires.3 S F q a.contexts (let h = c.requires.2 in omega arith) k,
    ))) in
    (omega arith, w.0, w.1, w.2, (λ h k i. absurd (omega arith)), w.3)

pub loop-head-preserved : goal.loop-head-preserved
loop-head-preserved c = let l = c.loop-head in
    let a = c.args in
    let v = c.with_links-count.ensures in
    let e = c.with_links-count.new in
    let g = growth l.order l.count l.way in
    let n = growth e.order c.with_links-count.result e.way in
    let h : l.head < l.count = omega (arith, c.loop-head-test.true) in (
      omega (arith, v.0.longer.count_kept),
      v.0.sized,
      v.0.flags-room,
      v.0.cuts-room,
      seen_next a.laid.now a.atoms a.chains.now a.used.now a.ports.now a.contexts g l.seen l.cuts n e.seen e.cuts l.head h l.invariant.1 v.0 v.1 l.invariant.4,
      λ S F q rows t o. grows-next a.laid.now a.atoms a.chains.now a.used.now a.ports.now a.contexts g l.seen l.cuts n e.seen e.cuts l.head h l.invariant.1 v.0 v.1 S F q (suc a.root) rows t (l.invariant.5 S F q rows t o),
    )

pub returns : goal.returns
returns c = let l = c.loop-head in
    let a = c.args in
    let e : l.head ≡ l.count = omega arith in
    (l.invariant.1, λ S F q rows t o. whole-at a.laid.now a.atoms a.chains.now a.used.now a.ports.now a.contexts (growth l.order l.count l.way) l.seen l.cuts S F q (suc a.root) rows t l.invariant.1 (λ h k i. l.invariant.4 h k (omega arith)) (l.invariant.5 S F q rows t o))
