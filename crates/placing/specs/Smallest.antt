-- Document 01, 'A placing': a test for good placings that computes, the order of placings, and the smallest good placing.
use Rattle.std.specs.Prelude.{ℕ, zero, suc, ◌≡◌, ◌⊎◌, List, [], ◌∷◌, ◌++◌, map, Bool, true, false, eqb, leb, length, take, drop, replicate}
use Rattle.std.proofs.Math.Option.{Option, none, some}
use Rattle.rows.specs.Pick.{pick, not, and, or}
use Rattle.rows.specs.Held.{relabelled}
use Rattle.placing.specs.Net.{NetCell, Net, greatest}
use Rattle.placing.specs.Placing.{Placing, number_at, cell_at, atom_target, link_target, given_to}
use Rattle.placing.specs.First.{Before, first_list}

-- the numbers from s on, n of them
abbrev pub numbers_from : ℕ → ℕ → List ℕ
numbers_from s zero = []
numbers_from s (suc n) = s ∷ numbers_from (suc s) n

-- the numbers from 1 to n
abbrev pub numbers_to : ℕ → List ℕ
numbers_to n = numbers_from 1 n

-- the values of a function at the numbers from s on, n of them
abbrev pub table : {A : Type 0} → (ℕ → A) → ℕ → ℕ → List A
table g s zero = []
table g s (suc n) = g s ∷ table g (suc s) n

-- all, or some, of a list pass a test
abbrev pub all_of : {A : Type 0} → (A → Bool) → List A → Bool
all_of test [] = true
all_of test (a ∷ l) = and (test a) (all_of test l)

abbrev pub some_of : {A : Type 0} → (A → Bool) → List A → Bool
some_of test [] = false
some_of test (a ∷ l) = or (test a) (some_of test l)

-- where the first passes, so does the second
abbrev pub implies : Bool → Bool → Bool
implies a b = pick a b true

abbrev pub in_range : ℕ → ℕ → Bool
in_range n i = and (leb 1 i) (leb i n)

abbrev pub is_among : ℕ → List ℕ → Bool
is_among x l = some_of (eqb x) l

abbrev pub same_list : List ℕ → List ℕ → Bool
same_list [] [] = true
same_list [] (y ∷ m) = false
same_list (x ∷ l) [] = false
same_list (x ∷ l) (y ∷ m) = and (eqb x y) (same_list l m)

-- Labels of the links 1..n: at first each link has its own; a pair gives the label of its first link to all links that have
-- the label of its second.
abbrev pub joined_by : ℕ × ℕ → List ℕ → List ℕ
joined_by e labels = map (relabelled (number_at labels e.1) (number_at labels e.0)) labels

unfoldable pub labels_by : ℕ → List (ℕ × ℕ) → List ℕ
labels_by n [] = numbers_to n
labels_by n (e ∷ pairs) = joined_by e (labels_by n pairs)

-- the pairs of x with the links of a list that pass a test, put in front of others
abbrev pub pairs_with : (ℕ → Bool) → ℕ → List ℕ → List (ℕ × ℕ) → List (ℕ × ℕ)
pairs_with test x [] rest = rest
pairs_with test x (z ∷ l) rest = pick (test z) ((x, z) ∷ pairs_with test x l rest) (pairs_with test x l rest)

module _ (S F : Net) (p : Placing) where
  abbrev pub is_taken : ℕ → Bool
  is_taken j = some_of (λ i. eqb (atom_target p i) j) (numbers_to (length F.atoms))

  -- the context that sheet atom j is given to is one of the figure's, or 0 where a figure atom goes
  abbrev pub given_right : ℕ → Bool
  given_right j = pick (is_taken j) (eqb (given_to p j) 0) (some_of (λ (row : NetCell). eqb row.0 (given_to p j)) F.contexts)

  abbrev pub is_different : ℕ → ℕ → Bool
  is_different i j = implies (eqb (atom_target p i) (atom_target p j)) (eqb i j)

  abbrev pub sending_test : Bool
  sending_test =
      and (eqb (length p.atoms_to) (length F.atoms))
      (and (all_of (λ i. in_range (length S.atoms) (atom_target p i)) (numbers_to (length F.atoms)))
      (and (all_of (λ i. all_of (is_different i) (numbers_to (length F.atoms))) (numbers_to (length F.atoms)))
      (and (eqb (length p.links_to) F.links)
      (and (all_of (λ x. in_range (suc S.links) (link_target p x)) (numbers_to F.links))
      (and (eqb (length p.given) (length S.atoms)) (all_of given_right (numbers_to (length S.atoms))))))))

  abbrev pub across_test : ℕ → Bool
  across_test i =
      and (eqb (cell_at F.atoms i).0 (cell_at S.atoms (atom_target p i)).0)
      (same_list (map (link_target p) (cell_at F.atoms i).1) (cell_at S.atoms (atom_target p i)).1)

  -- a figure mark is a sheet mark where its link goes; a sheet mark is a figure mark
  abbrev pub mark_onward : ℕ × ℕ → Bool
  mark_onward e = some_of (λ (d : ℕ × ℕ). and (eqb (link_target p e.0) d.0) (eqb e.1 d.1)) S.marks

  abbrev pub mark_backward : ℕ × ℕ → Bool
  mark_backward d = some_of (λ (e : ℕ × ℕ). eqb e.1 d.1) F.marks

  abbrev pub marks_test : Bool
  marks_test = and (all_of mark_onward F.marks) (all_of mark_backward S.marks)

  -- figure link x goes to a sheet link, and x and z go to one
  abbrev pub is_at : ℕ → Bool
  is_at x = and (in_range F.links x) (in_range S.links (link_target p x))

  abbrev pub together : ℕ → ℕ → Bool
  together x z = and (eqb (link_target p x) (link_target p z)) (and (is_at x) (is_at z))

  -- the steps: pairs of links of one B row that go to one sheet link
  abbrev pub steps_in : List ℕ → List ℕ → List (ℕ × ℕ) → List (ℕ × ℕ)
  steps_in [] l rest = rest
  steps_in (x ∷ k) l rest = pairs_with (together x) x l (steps_in k l rest)

  abbrev pub steps_of : List NetCell → List (ℕ × ℕ)
  steps_of [] = []
  steps_of (row ∷ l) = steps_in row.1 row.1 (steps_of l)

  -- by labels that the steps join
  abbrev pub same_label : List ℕ → ℕ → ℕ → Bool
  same_label labels x z = implies (together x z) (eqb (number_at labels x) (number_at labels z))

  abbrev pub linked_by : List ℕ → Bool
  linked_by labels = all_of (λ x. all_of (same_label labels x) (numbers_to F.links)) (numbers_to F.links)

  abbrev pub linked_test : Bool
  linked_test = linked_by (labels_by F.links (steps_of F.contexts))

  abbrev pub port_test : ℕ → ℕ → Bool
  port_test k y = some_of (λ (row : NetCell). and (eqb row.0 k) (some_of (λ x. eqb (link_target p x) y) row.1)) F.contexts

  -- sheet atom j does not touch y, or it is given to context k
  abbrev pub only_there : ℕ → ℕ → ℕ → Bool
  only_there k y j = implies (is_among y (cell_at S.atoms j).1) (and (not (is_taken j)) (eqb (given_to p j) k))

  abbrev pub inside_test : ℕ → ℕ → Bool
  inside_test k y =
      and (all_of (λ x. not (eqb (link_target p x) y)) (numbers_to F.links))
      (and (all_of (λ (e : ℕ × ℕ). not (eqb e.0 y)) S.marks) (all_of (only_there k y) (numbers_to (length S.atoms))))

  abbrev pub own_links : ℕ → Bool
  own_links j = or (is_taken j) (all_of (λ y. or (port_test (given_to p j) y) (inside_test (given_to p j) y)) (cell_at S.atoms j).1)

  -- whether the placing is good, condition by condition
  abbrev pub good_test : Bool
  good_test =
      and sending_test
      (and (all_of across_test (numbers_to (length F.atoms))) (and marks_test (and linked_test (all_of own_links (numbers_to (length S.atoms))))))

-- 'compare first where the figure symbols go in order, then where the joints go (none is last), then the blank numbers of the
-- other symbols in sheet order'
abbrev pub Earlier : Placing → Placing → Type 0
Earlier q p = Before q.atoms_to p.atoms_to ⊎ ((q.atoms_to ≡ p.atoms_to) × (Before q.links_to p.links_to ⊎ ((q.links_to ≡ p.links_to) × Before q.given p.given)))

-- a placing as one list, and back, by the number of figure atoms and of figure links
abbrev pub list_of : Placing → List ℕ
list_of p = p.atoms_to ++ (p.links_to ++ p.given)

abbrev pub placing_of : ℕ → ℕ → List ℕ → Placing
placing_of n m l = record { atoms_to = take n l; links_to = take m (drop n l); given = drop m (drop n l) }

-- sheet atoms, sheet links and one more for none, and the contexts' numbers
abbrev pub bounds_of : Net → Net → List ℕ
bounds_of S F =
    replicate (length F.atoms) (length S.atoms)
    ++ (replicate F.links (suc S.links) ++ replicate (length S.atoms) (greatest (map (λ (row : NetCell). row.0) F.contexts)))

module _ (S F : Net) where
  abbrev pub placing_from : List ℕ → Placing
  placing_from l = placing_of (length F.atoms) F.links l

  abbrev pub good_list : List ℕ → Bool
  good_list l = good_test S F (placing_from l)

  abbrev pub placing_in : Option (List ℕ) → Option Placing
  placing_in none = none
  placing_in (some l) = some (placing_from l)

  -- 'Of several good placings the smallest is taken'
  unfoldable pub smallest : Option Placing
  smallest = placing_in (first_list good_list (bounds_of S F))
