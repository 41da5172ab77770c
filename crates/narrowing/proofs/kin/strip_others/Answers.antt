use Prim.Native.Nat.{ℕ}
use mathlib.Core.Path.{◌≡◌, sym, subst}
use mathlib.Core.List.{List}
use lib.ListN.{get_or}
use Rattle.candidates.specs.Words.{InPair}
use Rattle.candidates.proofs.Halves.{pair-in, in-fewer-pair}
use Rattle.candidates.proofs.Staying.{links-put}
use Rattle.narrowing.proofs.kin.strip_others.Goals as goal
use Rattle.narrowing.proofs.kin.strip_others.Goals.{then-label-own, else-label-own}

pub loop-z-preserved : goal.loop-z-preserved
loop-z-preserved c =
    let a = c.args in
    let z = c.loop-z.z in
    elim c.if-label-own.branch [
      | then-label-own w ↦ rw w.links-is (rw w.set_pair.ensures (links-put a.links.now c.loop-z.links (λ v y. InPair a.set y → get_or a.kin.now v 0 ≡ get_or a.kin.now a.x 0) c.loop-z.invariant z w.without.result
          (λ y h p m. in-fewer-pair w.pair_at-before.result a.set w.without.result y h w.without.ensures (subst (λ (v : List ℕ). InPair v y) (sym w.pair_at-before.ensures) (pair-in c.loop-z.links z y h m)) (λ i. w.if-label-own.true (p i)))))
      | else-label-own w ↦ rw w.links-is c.loop-z.invariant
    ]
