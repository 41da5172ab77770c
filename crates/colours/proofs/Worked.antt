-- Two atoms in a chain, and two whose second joints meet: their first colours have one sum, and a round tells them apart. Any
-- mixing may be taken, so it is one with small numbers: a place counts as often as it is far, and sums are squared.
use Rattle.std.proofs.Common.{◌≡◌, ℕ, ◌+◌, ◌*◌, List, [], ◌∷◌, refl}
use native.Mathlib.Decide.{ℕ_discrete}
use Rattle.placing.specs.Net.{Net}
use Rattle.network.specs.Sums.{sum_to}
use Rattle.colours.specs.Colours.{Mixing, first_at, marks_at, places_at, first, next, total}

abbrev small : Mixing
small = record {
  atom_first = λ name size shape. name + size;
  link_first = λ marks. 0;
  atom_next = λ c links. c;
  at_place = λ c k. c * (k + 1);
  link_next = λ c s. c + s * s;
}

abbrev two-atoms : List ℕ → List ℕ → Net
two-atoms a b = record { atoms = (7, a) ∷ (7, b) ∷ []; contexts = []; marks = []; links = 3 }

abbrev chain : Net
chain = two-atoms (1 ∷ 2 ∷ []) (2 ∷ 3 ∷ [])

abbrev meeting : Net
meeting = two-atoms (1 ∷ 2 ∷ []) (3 ∷ 2 ∷ [])

-- both are one piece
abbrev size : ℕ → ℕ
size i = 2

first-chain : total chain (first small chain size) ≡ 18
unfolding sum_to first_at marks_at ℕ_discrete
first-chain = refl

first-meeting : total meeting (first small meeting size) ≡ 18
unfolding sum_to first_at marks_at ℕ_discrete
first-meeting = refl

-- the links get 9, 18 + 9 and 18
next-chain : total chain (next small chain (first small chain size)) ≡ 18 + 1134
unfolding sum_to first_at marks_at places_at ℕ_discrete
next-chain = refl

-- and 9, 18 + 18 and 9
next-meeting : total meeting (next small meeting (first small meeting size)) ≡ 18 + 1458
unfolding sum_to first_at marks_at places_at ℕ_discrete
next-meeting = refl
