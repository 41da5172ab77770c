-- What is read of a sheet atom that may be given to a context.
use Prim.Native.Nat.{ℕ, zero, suc, ◌+◌, ◌-◌, ◌*◌, ◌<◌, ◌≤◌}
use mathlib.Core.Path.{◌≡◌, refl, ap, sym, ◌∙◌, subst}
use mathlib.Core.List.Memᴰ
use mathlib.Core.List.{List, [], ◌∷◌, ◌++◌, map, append-nil, append_assoc}
use mathlib.Core.Bool.{Bool, true, false}
use mathlib.Core.Logic.{◌⊎◌, inl, inr}
use native.Mathlib.Omega.{arith}
use lib.Dec.{eqb}
use lib.ListN.{length, get_or, take, length-append, length-map, length-take}
use lib.Seq.{length-take-le}
use Rattle.hyperlmntal.specs.Link.{◌∈◌}
use Rattle.rows.specs.Format.{most_links, field_count, most_number}
use Rattle.rows.specs.Packed.{padded}
use Rattle.writing.specs.RowText.{row_bytes}
use Rattle.rows.proofs.Padding.{take-padded, get_d-padding}
use Rattle.numbering.specs.Numbering.{number_room}
use Rattle.rows.specs.declared.Atom.{Atom}
use Rattle.rows.specs.declared.Sheet as form
use Rattle.placing.specs.Net.{NetCell, Range, cell_links}
use Rattle.network.specs.NetIn.{atom_at, Fit}
use Rattle.network.proofs.NetIn.{used-range}
use Rattle.listing.specs.Writing.{cell_if, given_at, given_below, symbols_bytes}

pub cell-links-append : (a b : List NetCell) → cell_links (a ++ b) ≡ cell_links a ++ cell_links b
cell-links-append [] b = refl
cell-links-append (c ∷ a) b = rw (cell-links-append a b) (sym (append_assoc c.1 (cell_links a) (cell_links b)))

-- An atom that is given.
module _ (t : Bool) (a : Atom) (e : t ≡ true) where
  pub given-one : length (cell_if t a) ≡ 1
  given-one = rw e

  pub given-links : cell_links (cell_if t a) ≡ take a.count a.links
  given-links = rw e (append-nil (take a.count a.links))

  pub given-symbol : (f : ℕ → ℕ) → a.count ≤ length a.links → symbols_bytes f (cell_if t a) ≡ row_bytes 83 (a.name ∷ a.count ∷ map f (take a.count a.links))
  unfolding symbols_bytes
  given-symbol f h =
      rw e (append-nil (row_bytes 83 (a.name ∷ length (take a.count a.links) ∷ map f (take a.count a.links)))
      ∙ ap (λ n. row_bytes 83 (a.name ∷ n ∷ map f (take a.count a.links))) (length-take-le a.count a.links h))

-- More places, no fewer atoms.
module _ (sheet : form.Sheet) (given : List ℕ) (k : ℕ) where
  later : (i d : ℕ) → length (given_below sheet given k i) ≤ length (given_below sheet given k (d + i))
  unfolding given_below
  later i zero = let e : 0 + i ≡ i = omega arith in rw e (omega arith)
  later i (suc d) =
      let e : suc d + i ≡ suc (d + i) = omega arith in
      rw e (omega (arith, later i d, length-append (given_below sheet given k (d + i)) (given_at sheet given k (d + i))))

  pub below-grows : (i n : ℕ) → i ≤ n → length (given_below sheet given k i) ≤ length (given_below sheet given k n)
  below-grows i n h = let e : n - i + i ≡ n = omega arith in subst (λ m. length (given_below sheet given k i) ≤ length (given_below sheet given k m)) e (later i (n - i))

module _ (sheet : form.Sheet) (fit : Fit sheet) (given : List ℕ) (k : ℕ) where
  -- Few links, and each has a place in the table.
  pub atom-low : (i : ℕ) → i < sheet.atom_count → (j : ℕ) → j < (atom_at sheet i).count → get_or (atom_at sheet i).links j 0 < number_room
  atom-low i h j q = let u = (fit.atoms i h).numbered j q in omega (arith, u.1, fit.class-count)

  few-links : (i : ℕ) → i < sheet.atom_count → (t : Bool) → length (cell_links (cell_if t (atom_at sheet i))) ≤ most_links
  few-links i h true =
      let u = fit.atoms i h in
      let a = take (atom_at sheet i).count (atom_at sheet i).links in
      omega (arith, ap length (append-nil a), length-take (atom_at sheet i).count (atom_at sheet i).links, u.few)
  few-links i h false = omega arith

  pub given-few : (i : ℕ) → i < sheet.atom_count → length (cell_links (given_at sheet given k i)) ≤ most_links
  given-few i h = few-links i h (eqb (get_or given i 0) k)

  pub below-few : (i : ℕ) → i ≤ sheet.atom_count → length (cell_links (given_below sheet given k i)) ≤ most_links * i
  unfolding given_below
  below-few zero h = omega arith
  below-few (suc i) h =
      omega (
        arith,
        ap length (cell-links-append (given_below sheet given k i) (given_at sheet given k i)),
        length-append (cell_links (given_below sheet given k i)) (cell_links (given_at sheet given k i)),
        below-few i (omega arith),
        given-few i (omega arith),
      )

  -- Every link is one of the sheet's.
  cell-range : (i : ℕ) → i < sheet.atom_count → (t : Bool) → (x : ℕ) → x ∈ cell_links (cell_if t (atom_at sheet i)) → Range sheet.class_count x
  cell-range i h true x m =
      used-range sheet.class_count (atom_at sheet i).count (atom_at sheet i).links (fit.atoms i h) x (subst (λ l. x ∈ l) (append-nil (take (atom_at sheet i).count (atom_at sheet i).links)) m)
  cell-range i h false x m = absurd (Memᴰ.not-nil m)

  pub below-range : (i : ℕ) → i ≤ sheet.atom_count → (x : ℕ) → x ∈ cell_links (given_below sheet given k i) → Range sheet.class_count x
  unfolding given_below
  below-range zero h x m = absurd (Memᴰ.not-nil m)
  below-range (suc i) h x m =
      at (Memᴰ.append_cases (cell_links (given_below sheet given k i)) (subst (λ l. x ∈ l) (cell-links-append (given_below sheet given k i) (given_at sheet given k i)) m)) (below-range i (omega arith) x)
    where
      at : (x ∈ cell_links (given_below sheet given k i)) ⊎ (x ∈ cell_links (given_at sheet given k i)) → (x ∈ cell_links (given_below sheet given k i) → Range sheet.class_count x) → Range sheet.class_count x
      at (inl p) f = f p
      at (inr p) f = cell-range i (omega arith) (eqb (get_or given i 0) k) x p

  pub below-low : (i : ℕ) → i ≤ sheet.atom_count → (x : ℕ) → x ∈ cell_links (given_below sheet given k i) → x < number_room
  below-low i h x m = let r = below-range i h x m in omega (arith, r.1, fit.class-count)

-- Numbers that are not above a bound.
pub mapped-low : (b : ℕ) (f : ℕ → ℕ) (l : List ℕ) → ((x : ℕ) → f x ≤ b) → (k : ℕ) → get_or (map f l) k 0 ≤ b
mapped-low b f [] h k = omega arith
mapped-low b f (x ∷ l) h zero = h x
mapped-low b f (x ∷ l) h (suc k) = mapped-low b f l h k

-- The numbers of an S row.
module _ (f : ℕ → ℕ) (a b : ℕ) (l nums : List ℕ) (e : nums ≡ padded field_count 0 (a ∷ b ∷ map f (take b l))) where
  first-low : a ≤ most_number → b ≤ most_number → ((x : ℕ) → f x ≤ most_number) → (k : ℕ) → get_or (a ∷ b ∷ map f (take b l)) k 0 ≤ most_number
  first-low p q h zero = p
  first-low p q h (suc zero) = q
  first-low p q h (suc (suc k)) = mapped-low most_number f (take b l) h k

  pub row_low : a ≤ most_number → b ≤ most_number → ((x : ℕ) → f x ≤ most_number) → (k : ℕ) → get_or nums k 0 ≤ most_number
  row_low p q h k = rw (e, get_d-padding field_count 0 (a ∷ b ∷ map f (take b l)) k) (first-low p q h k)

  pub row-taken : b ≤ length l → take (b + 2) nums ≡ a ∷ b ∷ map f (take b l)
  row-taken h =
      let w : length (a ∷ b ∷ map f (take b l)) ≡ b + 2 = omega (arith, length-map (take b l) f, length-take-le b l h) in
      rw (e, ← w) (take-padded field_count 0 (a ∷ b ∷ map f (take b l)))
