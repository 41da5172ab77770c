-- A search places the figure atoms in order; what it has to know is whether a good placing begins as chosen so far.
use Rattle.std.specs.Prelude.{ℕ, ◌≡◌, List, ◌++◌, Bool, length, drop}
use Rattle.std.proofs.Math.Option.{Option}
use Rattle.placing.specs.Net.{Net}
use Rattle.placing.specs.Placing.{Placing, Good}
use Rattle.placing.specs.First.{first_list}
use Rattle.placing.specs.Smallest.{bounds_of, good_list}

-- the placing sends the first figure atoms to these sheet atoms
abbrev pub Begins : List ℕ → Placing → Type 0
Begins pre p = (rest : List ℕ) × (p.atoms_to ≡ pre ++ rest)

-- some good placing begins so
abbrev pub Begun : Net → Net → List ℕ → Type 0
Begun S F pre = (p : Placing) × Good S F p × Begins pre p

module _ (S F : Net) where
  -- the test and the bounds for what follows pre
  abbrev pub test_after : List ℕ → List ℕ → Bool
  test_after pre l = good_list S F (pre ++ l)

  abbrev pub bounds_after : ℕ → List ℕ
  bounds_after k = drop k (bounds_of S F)

  -- the rest of the least good placing that begins so
  abbrev pub least_after : List ℕ → Option (List ℕ)
  least_after pre = first_list (test_after pre) (bounds_after (length pre))
