-- How often a link stands in a list of links.
use Rattle.std.specs.Prelude.{ℕ, ◌+◌, List, [], ◌∷◌}
use Rattle.std.proofs.Math.Decide.{ℕ_discrete}

abbrev pub one : {A : Type 0} → Dec A → ℕ
one (yes a) = 1
one (no n) = 0

unfoldable pub count : ℕ → List ℕ → ℕ
count x [] = 0
count x (y ∷ l) = one (ℕ_discrete x y) + count x l
