-- Where links surely go, told link by link.
use Rattle.std.proofs.Common.{◌≡◌, ℕ, suc, ◌+◌, ◌*◌, ◌<◌, ◌≤◌, true, List, [], ◌∷◌, get_or, replicate, sym, refl, subst, inl, arith}
use native.Mathlib.Decide.{ℕ_discrete}
use lib.ListN.{get_or-replicate}
use Rattle.rows.specs.Limits.{sheet_link_limit}
use Rattle.placing.specs.Net.{Range}
use Rattle.candidates.specs.Words.{pair_digits, InPair, empty_pair, without_link}
use Rattle.candidates.proofs.Halves.{in_pair, pair-in, in_without, none-in-pair}
use Rattle.ways.specs.Nodes.{OnlyLink, Tells}

-- Nothing is left of a set without y.
pub only-without : (sets : List ℕ) (x : ℕ) (pair : List ℕ) → pair ≡ get_or sets (x * 2) 0 ∷ get_or sets (x * 2 + 1) 0 ∷ [] → (y : ℕ) → y < pair_digits
    → (rest : List ℕ) → rest ≡ without_link pair y → empty_pair rest ≡ true → OnlyLink sets x (suc y)
only-without sets x pair e y small rest f none z h i = go (ℕ_discrete z y)
  where
    go : Dec (z ≡ y) → suc z ≡ suc y
    go (yes q) = omega arith
    go (no n) = absurd (none-in-pair rest none z (in_pair h) (in_without pair y small rest f z (in_pair h) (subst (λ (l : List ℕ). InPair l z) (sym e) (pair-in sets x z h i)) n))

-- Nothing is told at first.
pub tells_none : (parts : List ℕ) (n : ℕ) (marked : List ℕ) (m : ℕ) (sets : List ℕ) (none : ℕ) → 1 ≤ none → Tells parts n marked m sets none (replicate sheet_link_limit none) (replicate sheet_link_limit 1) (replicate sheet_link_limit 1)
tells_none parts n marked m sets none h = record {
  room = refl;
  flag-room = refl;
  open-room = refl;
  within = λ x l. subst (Range none) (sym (get_or-replicate sheet_link_limit x none 0 l)) (h, omega arith);
  told = λ x l. inl (get_or-replicate sheet_link_limit x none 0 l, get_or-replicate {A = ℕ} sheet_link_limit x 1 0 l);
  decided = λ x l n. absurd (n (get_or-replicate {A = ℕ} sheet_link_limit x 1 0 l));
}
