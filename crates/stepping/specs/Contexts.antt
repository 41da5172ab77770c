-- Which context is taken of those that may hold a component.
use Rattle.std.specs.Prelude.{ℕ, ◌≤◌, ◌<◌, ◌≡◌, ◌⊎◌, ◌≢◌, List, get_or}
use Rattle.candidates.specs.PortSets.{set_at}
use Rattle.candidates.specs.declared.ports.PortSet.{PortSet}

-- the number of the context in row c
abbrev pub number_of : List PortSet → ℕ → ℕ
number_of sets c = (set_at sets c).number

-- Among the first n of `count` contexts: the best is left and has the least number of those left, or none is left. A 0 says that
-- a context is left.
abbrev pub Least : List ℕ → ℕ → List ℕ → ℕ → ℕ → Type 0
Least numbers count cuts n best =
    ((best < n) × (get_or cuts best 0 ≡ 0) × ((c : ℕ) → c < n → get_or cuts c 0 ≡ 0 → get_or numbers best 0 ≤ get_or numbers c 0))
    ⊎ ((best ≡ count) × ((c : ℕ) → c < n → get_or cuts c 0 ≢ 0))
