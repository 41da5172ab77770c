-- A search for the smallest good placing that does not look into beginnings which cannot be those of a good placing: an atom with
-- another name or other links, or a mark elsewhere.
use Rattle.std.specs.Prelude.{ℕ, suc, ◌+◌, List, [], ◌∷◌, Bool, true, false, eqb, leb, length}
use Rattle.std.proofs.Math.Option.{Option, none, some}
use Rattle.rows.specs.Pick.{pick, and}
use Rattle.placing.specs.Net.{Net}
use Rattle.placing.specs.Placing.{Placing, number_at, cell_at}
use Rattle.placing.specs.First.{after, first_from}
use Rattle.placing.specs.Smallest.{numbers_to, all_of, some_of, implies, in_range, bounds_of, good_list, placing_in}

-- the least list within bounds that passes, looked for without what begins with a list that `may` turns down
unfoldable pub first_may : (may test : List ℕ → Bool) → List ℕ → Option (List ℕ)
first_may may test [] = pick (may []) (pick (test []) (some []) none) none
first_may may test (b ∷ bs) = pick (may []) (first_from (λ v. first_may (after v may) (after v test) bs) 0 (suc b)) none

module _ (S F : Net) where
  -- k gives a place to figure link x
  abbrev pub sent : List ℕ → ℕ → Bool
  sent k x = and (in_range F.links x) (leb (length F.atoms + x) (length k))

  abbrev pub may_links : List ℕ → List ℕ → List ℕ → Bool
  may_links k [] [] = true
  may_links k [] (y ∷ m) = false
  may_links k (x ∷ l) [] = false
  may_links k (x ∷ l) (y ∷ m) = and (implies (sent k x) (eqb (number_at k (length F.atoms + x)) y)) (may_links k l m)

  abbrev pub may_atom : List ℕ → ℕ → Bool
  may_atom k i = implies (leb i (length k))
      (and (eqb (cell_at F.atoms i).0 (cell_at S.atoms (number_at k i)).0) (may_links k (cell_at F.atoms i).1 (cell_at S.atoms (number_at k i)).1))

  abbrev pub may_mark : List ℕ → ℕ × ℕ → Bool
  may_mark k e = implies (sent k e.0) (some_of (λ (d : ℕ × ℕ). and (eqb (number_at k (length F.atoms + e.0)) d.0) (eqb e.1 d.1)) S.marks)

  -- k may be the beginning of a good placing
  abbrev pub may_place : List ℕ → Bool
  may_place k = and (all_of (may_atom k) (numbers_to (length F.atoms))) (all_of (may_mark k) F.marks)

  unfoldable pub narrowed : Option Placing
  narrowed = placing_in S F (first_may may_place (good_list S F) (bounds_of S F))
