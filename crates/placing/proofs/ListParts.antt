-- The part of the text of a list that is one blank's filling: its H row and its rows, no more and no less.
use Prim.Native.Nat.{ℕ, zero, suc, ◌+◌, ◌-◌, ◌<◌, ◌≤◌}
use mathlib.Core.Path.{◌≡◌, refl, sym, ap, ◌∙◌, subst}
use mathlib.Core.List.Memᴰ
use mathlib.Core.List.{List, [], ◌∷◌, ◌++◌, map, append-nil, append_assoc}
use mathlib.Core.Bool.{Bool, true, false}
use mathlib.Core.Logic.{◌⊎◌, inl, inr, ◌≢◌}
use native.Mathlib.Omega.{arith}
use borrow.Author.Tests.{le-ltb, eq-eqb, ne_eqb}
use lib.Dec.{eqb, ltb}
use lib.ListN.{length, get_or, take, length-append}
use Rattle.hyperlmntal.specs.Link.{◌∈◌}
use Rattle.rows.specs.Pick.{pick}
use Rattle.rows.specs.Format.{row_width}
use Rattle.rows.specs.Row.{row_of}
use Rattle.writing.specs.RowText.{row_bytes}
use Rattle.writing.proofs.RowBytes.{row-width}
use Rattle.sheet.specs.Filling.{from_head, before_head, first_filling, is_passed, filling_of}
use Rattle.sheet.specs.Reading.{outcome_of, no_ports}
use Rattle.sheet.specs.declared.kind.Kind.TheVariants.{Fillings}
use Rattle.sheet.specs.declared.answer.Answer.TheVariants.{Passed}
use Rattle.texts.proofs.BuiltRows.{held_atom}
use Rattle.texts.proofs.RowBack.{row_first, row-after, row-byte, head-back}
use Rattle.placing.specs.Fillings.{Row, symbol_row, point_row, edge_row, Filling}
use Rattle.placing.specs.ListText.{row_text, rows_text, head_text, list_text}
use Rattle.placing.specs.ListFits.{symbols_in, points_in, edges_in, list_atoms, list_rows, Ascends, FillingFits, ListFits, part_of}
use Rattle.placing.proofs.ListBack.{list-passes, list-atoms, list-points, list-edges}
use Rattle.sheet.proofs.part.FillingLaws.{before-nil}

-- A text that begins with a row.
module _ (b : ℕ) (nums rest : List ℕ) where
  row-long : ltb (length (row_bytes b nums ++ rest)) row_width ≡ false
  row-long = le-ltb (length (row_bytes b nums ++ rest)) row_width (omega (arith, length-append (row_bytes b nums) rest, row-width b nums))

  from_row : (n k : ℕ) → 1 ≤ n → b ≢ 72 → from_head n k (row_bytes b nums ++ rest) ≡ from_head (n - 1) k rest
  unfolding from_head
  from_row zero k h o = absurd (omega arith)
  from_row (suc n) k h o = let q : suc n - 1 ≡ n = omega arith in rw (q, row-long, row-byte b nums rest, ne_eqb b 72 o, row-after b nums rest)

  before-row : (n : ℕ) → 1 ≤ n → b ≢ 72 → before_head n (row_bytes b nums ++ rest) ≡ row_bytes b nums ++ before_head (n - 1) rest
  unfolding before_head
  before-row zero h o = absurd (omega arith)
  before-row (suc n) h o = let q : suc n - 1 ≡ n = omega arith in rw (q, row-long, row-byte b nums rest, ne_eqb b 72 o, row_first b nums rest, row-after b nums rest)

  before_head_lem : (n : ℕ) → b ≡ 72 → before_head n (row_bytes b nums ++ rest) ≡ []
  unfolding before_head
  before_head_lem zero e = refl
  before_head_lem (suc n) e = rw (row-long, row-byte b nums rest, eq-eqb b 72 e)

-- An S, F or E row is no head.
from_one : (r : Row) (rest : List ℕ) (n k : ℕ) → 1 ≤ n → from_head n k (row_text r ++ rest) ≡ from_head (n - 1) k rest
from_one (symbol_row a l) rest n k h = from_row 83 (a ∷ length l ∷ l) rest n k h (λ e. omega arith)
from_one (point_row x y) rest n k h = from_row 70 (x ∷ y ∷ []) rest n k h (λ e. omega arith)
from_one (edge_row x m) rest n k h = from_row 69 (x ∷ m ∷ []) rest n k h (λ e. omega arith)

before-one : (r : Row) (rest : List ℕ) (n : ℕ) → 1 ≤ n → before_head n (row_text r ++ rest) ≡ row_text r ++ before_head (n - 1) rest
before-one (symbol_row a l) rest n h = before-row 83 (a ∷ length l ∷ l) rest n h (λ e. omega arith)
before-one (point_row x y) rest n h = before-row 70 (x ∷ y ∷ []) rest n h (λ e. omega arith)
before-one (edge_row x m) rest n h = before-row 69 (x ∷ m ∷ []) rest n h (λ e. omega arith)

from-rows : (l : List Row) (rest : List ℕ) (n k : ℕ) → length l ≤ n → from_head n k (rows_text l ++ rest) ≡ from_head (n - length l) k rest
unfolding rows_text
from-rows [] rest n k h = let q : n - 0 ≡ n = omega arith in rw q
from-rows (r ∷ l) rest n k h =
    let q : n - 1 - length l ≡ n - suc (length l) = omega arith in
    ap (from_head n k) (append_assoc (row_text r) (rows_text l) rest) ∙ from_one r (rows_text l ++ rest) n k (omega arith)
    ∙ from-rows l rest (n - 1) k (omega arith) ∙ ap (λ i. from_head i k rest) q

before-rows : (l : List Row) (rest : List ℕ) (n : ℕ) → length l ≤ n → before_head n (rows_text l ++ rest) ≡ rows_text l ++ before_head (n - length l) rest
unfolding rows_text
before-rows [] rest n h = let q : n - 0 ≡ n = omega arith in rw q
before-rows (r ∷ l) rest n h =
    let q : n - 1 - length l ≡ n - suc (length l) = omega arith in
    ap (before_head n) (append_assoc (row_text r) (rows_text l) rest) ∙ before-one r (rows_text l ++ rest) n (omega arith)
    ∙ ap (λ t. row_text r ++ t) (before-rows l rest (n - 1) (omega arith) ∙ ap (λ i. rows_text l ++ before_head i rest) q)
    ∙ sym (append_assoc (row_text r) (rows_text l) (before_head (n - suc (length l)) rest))

before-list : (θ : List Filling) (n : ℕ) → before_head n (list_text θ) ≡ []
unfolding list_text
before-list [] n = before-nil n
before-list (f ∷ θ) n = before_head_lem 72 (f.number ∷ f.ports ∷ []) (rows_text f.rows ++ list_text θ) n refl

-- An H row, by its number.
module _ (f : Filling) (fits : FillingFits f) (rest : List ℕ) where
  number_read : get_or (row_of (take row_width (head_text f ++ rest))).nums 0 0 ≡ f.number
  number_read = rw (row_first 72 (f.number ∷ f.ports ∷ []) rest, head-back f.number f.ports fits.number fits.ports)

  from-head : (n k : ℕ) (same : Bool) → 1 ≤ n → eqb f.number k ≡ same → from_head n k (head_text f ++ rest) ≡ pick same (head_text f ++ rest) (from_head (n - 1) k rest)
  unfolding from_head
  from-head zero k same h e = absurd (omega arith)
  from-head (suc n) k same h e = let q : suc n - 1 ≡ n = omega arith in rw (q, row-long 72 (f.number ∷ f.ports ∷ []) rest, row-byte 72 (f.number ∷ f.ports ∷ []) rest, number_read, e, row-after 72 (f.number ∷ f.ports ∷ []) rest)

-- A filling's number is above that of those before it.
pub ascends-above : (n : ℕ) (θ : List Filling) → Ascends n θ → (f : Filling) → f ∈ θ → n < f.number
ascends-above n [] up f m = absurd (Memᴰ.not-nil m)
ascends-above n (g ∷ θ) up f m = at (Memᴰ.cases_cons m) (ascends-above g.number θ up.1 f)
  where
    at : (f ≡ g) ⊎ (f ∈ θ) → (f ∈ θ → g.number < f.number) → n < f.number
    at (inl e) h = subst (λ z. n < z.number) (sym e) up.0
    at (inr k) h = let b = h k in omega (arith, up.0)

-- The text from the filling's H row on.
abbrev From : ℕ → Filling → List Filling → Type 0
From n f θ = (post : List Filling) × (from_head n f.number (list_text θ) ≡ list_text (f ∷ post)) × (list_rows (f ∷ post) ≤ list_rows θ)

from_list : (θ : List Filling) (n i : ℕ) → Ascends i θ → ((f : Filling) → f ∈ θ → FillingFits f) → list_rows θ ≤ n → (f : Filling) → f ∈ θ → From n f θ
unfolding list_text
from_list [] n i up p h f m = absurd (Memᴰ.not-nil m)
from_list (g ∷ θ) n i up p h f m =
    at (Memᴰ.cases_cons m) (from_list θ (n - 1 - length g.rows) g.number up.1 (λ z k. p z (Memᴰ.tail k)) (omega arith) f)
  where
    at : (f ≡ g) ⊎ (f ∈ θ) → (f ∈ θ → From (n - 1 - length g.rows) f θ) → From n f (g ∷ θ)
    at (inl e) ih = (
      θ,
      from-head g (p g (Memᴰ.head refl)) (rows_text g.rows ++ list_text θ) n f.number true (omega arith) (eq-eqb g.number f.number (ap (λ z. z.number) (sym e))) ∙ ap (λ z. list_text (z ∷ θ)) (sym e),
      subst (λ z. list_rows (z ∷ θ) ≤ list_rows (g ∷ θ)) (sym e) (omega arith),
    )
    at (inr k) ih =
        let t = ih k in
        let b : g.number < f.number = ascends-above g.number θ up.1 f k in
        let c : list_rows (f ∷ t.0) ≤ list_rows θ = t.2 in (
          t.0,
          from-head g (p g (Memᴰ.head refl)) (rows_text g.rows ++ list_text θ) n f.number false (omega arith) (ne_eqb g.number f.number (λ e. omega arith))
              ∙ from-rows g.rows (list_text θ) (n - 1) f.number (omega arith) ∙ t.1,
          omega arith,
        )

-- The bytes are no fewer than the rows.
rows-bytes : (l : List Row) → length l ≤ length (rows_text l)
unfolding rows_text
rows-bytes [] = omega arith
rows-bytes (r ∷ l) = let h = rows-bytes l in omega (arith, length-append (row_text r) (rows_text l), one r)
  where
    one : (q : Row) → length (row_text q) ≡ row_width
    one (symbol_row a k) = row-width 83 (a ∷ length k ∷ k)
    one (point_row x y) = row-width 70 (x ∷ y ∷ [])
    one (edge_row x m) = row-width 69 (x ∷ m ∷ [])

list-bytes : (θ : List Filling) → list_rows θ ≤ length (list_text θ)
unfolding list_text
list-bytes [] = omega arith
list-bytes (f ∷ θ) =
    let h = list-bytes θ in
    omega (arith, length-append (head_text f) (rows_text f.rows ++ list_text θ), length-append (rows_text f.rows) (list_text θ), row-width 72 (f.number ∷ f.ports ∷ []), rows-bytes f.rows)

-- The filling of a blank of the list is handed back as that filling's rows, its H row first.
pub list-part : (θ : List Filling) → ListFits θ → (f : Filling) → f ∈ θ → filling_of (list_text θ) f.number ≡ head_text f ++ rows_text f.rows
unfolding filling_of list_text
list-part θ fits f m =
    let n = length (list_text θ) in
    let b = list-bytes θ in
    let t : From n f θ = from_list θ n 0 fits.ascends fits.fillings b f m in
    ap (λ a. pick (is_passed a) (first_filling n (from_head n f.number (list_text θ))) []) (list-passes θ fits) ∙ part n t b
  where
    part : (n : ℕ) → From n f θ → list_rows θ ≤ n → first_filling n (from_head n f.number (list_text θ)) ≡ head_text f ++ rows_text f.rows
    part n t b =
        let nums = f.number ∷ f.ports ∷ [] in
        let rest = rows_text f.rows ++ list_text t.0 in
        let c : list_rows (f ∷ t.0) ≤ list_rows θ = t.2 in
        ap (first_filling n) t.1
        ∙ rw (row_first 72 nums rest, row-after 72 nums rest, before-rows f.rows (list_text t.0) n (omega arith), before-list t.0 (n - length f.rows), append-nil (rows_text f.rows))

member-atoms : (θ : List Filling) (f : Filling) → f ∈ θ → length (symbols_in f.rows) ≤ length (list_atoms θ)
member-atoms [] f m = absurd (Memᴰ.not-nil m)
member-atoms (g ∷ θ) f m = at (Memᴰ.cases_cons m) (member-atoms θ f)
  where
    at : (f ≡ g) ⊎ (f ∈ θ) → (f ∈ θ → length (symbols_in f.rows) ≤ length (list_atoms θ)) → length (symbols_in f.rows) ≤ length (list_atoms (g ∷ θ))
    at (inl e) h = subst (λ z. length (symbols_in z.rows) ≤ length (list_atoms (g ∷ θ))) (sym e) (omega (arith, length-append (symbols_in g.rows) (list_atoms θ)))
    at (inr k) h = omega (arith, h k, length-append (symbols_in g.rows) (list_atoms θ))

member-rows : (θ : List Filling) (f : Filling) → f ∈ θ → 1 + length f.rows ≤ list_rows θ
member-rows [] f m = absurd (Memᴰ.not-nil m)
member-rows (g ∷ θ) f m = at (Memᴰ.cases_cons m) (member-rows θ f)
  where
    at : (f ≡ g) ⊎ (f ∈ θ) → (f ∈ θ → 1 + length f.rows ≤ list_rows θ) → 1 + length f.rows ≤ list_rows (g ∷ θ)
    at (inl e) h = subst (λ z. 1 + length z.rows ≤ list_rows (g ∷ θ)) (sym e) (omega arith)
    at (inr k) h = omega (arith, h k)

-- That part is a list of its own: it passes, and holds this filling alone.
module _ (θ : List Filling) (fits : ListFits θ) (f : Filling) (m : f ∈ θ) where
  alone : ListFits (f ∷ [])
  alone =
      record {
        ascends = ((fits.fillings f m).number.0, tt);
        fillings = λ g k. at g (Memᴰ.cases_cons k);
        few-atoms = omega (arith, member-atoms θ f m, ap length (append-nil (symbols_in f.rows)), fits.few-atoms);
        few-rows = omega (arith, member-rows θ f m, fits.few-rows);
      }
    where
      at : (g : Filling) → (g ≡ f) ⊎ (g ∈ []) → FillingFits g
      at g (inl e) = subst FillingFits (sym e) (fits.fillings f m)
      at g (inr k) = absurd (Memᴰ.not-nil k)

  part-alone : outcome_of Fillings no_ports (list_text (f ∷ [])) ≡ part_of θ f
  unfolding list_text
  part-alone = ap (outcome_of Fillings no_ports) (ap (λ t. head_text f ++ t) (append-nil (rows_text f.rows)) ∙ sym (list-part θ fits f m))

  pub part-passes : (part_of θ f).answer ≡ Passed
  part-passes = sym (ap (λ o. o.answer) part-alone) ∙ list-passes (f ∷ []) alone

  pub part-atoms : (part_of θ f).held.atoms ≡ map held_atom (symbols_in f.rows)
  part-atoms = sym (ap (λ o. o.held.atoms) part-alone) ∙ list-atoms (f ∷ []) alone ∙ ap (map held_atom) (append-nil (symbols_in f.rows))

  pub part-points : (part_of θ f).held.fusions ≡ points_in f.rows
  part-points = sym (ap (λ o. o.held.fusions) part-alone) ∙ list-points (f ∷ []) alone

  pub part-edges : (part_of θ f).held.edges ≡ edges_in f.rows
  part-edges = sym (ap (λ o. o.held.edges) part-alone) ∙ list-edges (f ∷ []) alone
