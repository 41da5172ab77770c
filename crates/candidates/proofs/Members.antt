-- A loop that takes the links of a set out one by one: what is not left was seen.
use Prim.Native.Nat.{ℕ, ◌<◌}
use mathlib.Core.Path.{◌≡◌, sym, subst}
use mathlib.Core.Logic.{◌⊎◌, inl, inr, ⊎_elim}
use mathlib.Core.Bool.{true}
use mathlib.Core.List.{List}
use native.Mathlib.Decide.{ℕ_discrete}
use Rattle.candidates.specs.Words.{pair_digits, InPair, PartOf, empty_pair, without_link}
use Rattle.candidates.proofs.Halves.{none-in-pair, without_in, in_without}

abbrev pub Seen : (ℕ → Type 0) → List ℕ → List ℕ → Type 0
Seen P set rest = (x : ℕ) → x < pair_digits → InPair set x → InPair rest x ⊎ P x

pub part-self : (set : List ℕ) → PartOf set set
part-self set x h i = i

pub seen_none : (P : ℕ → Type 0) (set : List ℕ) → Seen P set set
seen_none P set x h i = inl i

pub seen_all : (P : ℕ → Type 0) (set rest : List ℕ) → empty_pair rest ≡ true → Seen P set rest → (x : ℕ) → x < pair_digits → InPair set x → P x
seen_all P set rest e f x h i = ⊎_elim (λ j. absurd (none-in-pair rest e x h j)) (λ p. p) (f x h i)

-- link b is taken out
module _ (set rest : List ℕ) (b : ℕ) (small : b < pair_digits) (less : List ℕ) (e : less ≡ without_link rest b) where
  pub part-less : PartOf rest set → PartOf less set
  part-less f x h i = f x h (without_in rest b small less e x h i).0

  pub seen_more : (P Q : ℕ → Type 0) → Seen P set rest → ((x : ℕ) → x < pair_digits → InPair set x → P x → Q x) → Q b → Seen Q set less
  seen_more P Q f g q x h i = ⊎_elim (λ j. go j (ℕ_discrete x b)) (λ p. inr (g x h i p)) (f x h i)
    where
      go : InPair rest x → Dec (x ≡ b) → InPair less x ⊎ Q x
      go j (yes w) = inr (subst Q (sym w) q)
      go j (no d) = inl (in_without rest b small less e x h j d)
