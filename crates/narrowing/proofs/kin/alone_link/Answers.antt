-- The set that the others lose has one link.
use Prim.Native.Nat.{ℕ, ◌<◌}
use mathlib.Core.Path.{◌≡◌, sym, ◌∙◌, subst}
use mathlib.Core.Bool.{true}
use mathlib.Core.List.{List}
use native.Mathlib.Decide.{ℕ_discrete}
use lib.ListN.{get_or}
use Rattle.rows.specs.Limits.{sheet_link_limit}
use Rattle.candidates.specs.Words.{pair_digits, InPair, empty_pair, without_link}
use Rattle.candidates.proofs.Halves.{in_pair, pair-in, in_without, none-in-pair}
use Rattle.candidates.proofs.Staying.{links-more}
use Rattle.narrowing.specs.Steps.{AloneLink}
use Rattle.narrowing.proofs.kin.alone_link.Goals as goal

-- a set with nothing in it but r
only-there : (set less : List ℕ) (r : ℕ) → r < pair_digits → less ≡ without_link set r → empty_pair less ≡ true → (v : ℕ) → v < pair_digits → InPair set v → v ≡ r
only-there set less r small e none v h i = go (ℕ_discrete v r)
  where
    go : Dec (v ≡ r) → v ≡ r
    go (yes q) = q
    go (no d) = absurd (none-in-pair less none v h (in_without set r small less e v h i d))

pub returns-then-is_empty-2 : goal.returns-then-is_empty-2
returns-then-is_empty-2 c =
    let f = c.first_link in
    let a = c.args in
    let set = c.pair_at-set in
    let only : (v : ℕ) → v < sheet_link_limit → InPair set.result v → v ≡ f.result = λ v h i. only-there set.result c.without_link-more.result f.result f.ensures.0 c.without_link-more.ensures (sym c.is_empty-2.ensures ∙ c.if-is_empty-2.true) v (in_pair h) i in
    links-more a.links.now c.strip_others.new.links (λ z y. InPair set.result y → get_or a.kin.now z 0 ≡ get_or a.kin.now a.x 0) (AloneLink a.kin.now a.links.now a.x) c.strip_others.ensures
    (λ z y h q i. q (λ v r m. only v r (subst (λ (w : List ℕ). InPair w v) (sym set.ensures) (pair-in a.links.now a.x v r m)) ∙ sym (only y h i)))
