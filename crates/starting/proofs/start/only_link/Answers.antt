-- What is common to the set and link y alone.
use Rattle.std.proofs.Common.{◌≡◌, ℕ, ◌+◌, ◌-◌, List, refl, sym, subst, arith}
use Rattle.candidates.specs.Words.{InPair}
use Rattle.candidates.proofs.Staying.{links-put}
use Rattle.candidates.proofs.Halves.{pair-in, in-common, with-there}
use Rattle.starting.proofs.start.only_link.Goals as goal
use Rattle.starting.proofs.start.only_link.Goals.{then-y-ne0, else-y-ne0}

pub returns : goal.returns
returns c = let a = c.args in
    rw c.set_pair.ensures (links-put a.links.now a.links.now (λ z v. z ≡ a.x - 1 → v + 1 ≡ a.y) (λ z v h m p. m) (a.x - 1) c.common.result
    (λ v h p m. in-common _ _ _ v h c.common.ensures (subst (λ (l : List ℕ). InPair l v) (sym c.pair_at-before.ensures) (pair-in a.links.now (a.x - 1) v h m))
    (elim c.if-y-ne0.branch [
      | then-y-ne0 w ↦ rw w.only-is (subst (InPair w.with-more.result) (let q : a.y - 1 ≡ v = omega (arith, p refl) in q) (with-there _ _ (omega (arith, c.requires.1, w.if-y-ne0.true)) _ w.with-more.ensures))
      | else-y-ne0 w ↦ absurd (omega (arith, p refl, w.if-y-ne0.false))
    ])))
