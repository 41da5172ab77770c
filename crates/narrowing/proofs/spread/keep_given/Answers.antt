use Prim.Native.Nat.{ℕ, ◌-◌}
use mathlib.Core.Path.{sym, subst}
use mathlib.Core.List.{List}
use native.Mathlib.Omega.{arith}
use Rattle.candidates.specs.Laid.{link_of}
use Rattle.candidates.specs.Words.{InPair}
use Rattle.candidates.proofs.Halves.{pair-in, in-common}
use Rattle.candidates.proofs.Staying.{links-put}
use Rattle.narrowing.specs.Steps.{TableRow}
use Rattle.narrowing.proofs.spread.keep_given.Goals as goal

pub loop-k-preserved : goal.loop-k-preserved
loop-k-preserved c =
    let s = c.args in
    let k = c.loop-k.k in
    let x = link_of s.here k - 1 in
    let r = c.requires.numbered k c.loop-k-test.true in
    rw c.set_pair.ensures (links-put s.links.now c.loop-k.links (TableRow s.table.now s.here) c.loop-k.invariant x c.common.result
    (λ y h g m. in-common _ _ _ y h c.common.ensures (subst (λ (w : List ℕ). InPair w y) (sym c.pair_at-before.ensures) (pair-in c.loop-k.links x y h m)) (pair-in s.table.now k y h (g k c.loop-k-test.true (omega (arith, r.0))))))
