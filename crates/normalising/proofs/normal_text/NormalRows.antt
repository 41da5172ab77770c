-- The rows of a normal form: how many bytes they are, and one row more.
use Prim.Native.Nat.{ℕ, zero, suc, ◌+◌, ◌*◌, ◌<◌, ◌≤◌}
use mathlib.Core.Path.{◌≡◌, refl, ap, ◌∙◌, sym}
use mathlib.Core.List.{List, [], ◌∷◌, ◌++◌, map, append_assoc, append-nil}
use native.Mathlib.Nat.{zero-add}
use native.Mathlib.Numerals.{add-one, add-two}
use native.Mathlib.Omega.{arith}
use lib.ListN.{length, get_or, set, take, drop, length-append}
use lib.Seq.{take-suc, take-suc-set, take_all}
use Rattle.rows.specs.Format.{row_width, most_number}
use Rattle.writing.proofs.RowBytes.{row-width, over, over-more}
use Rattle.rows.specs.declared.Atom.{Atom}
use Rattle.rows.specs.declared.Context.{Context}
use Rattle.normalising.specs.NormalText.{joined}
use Rattle.normalising.specs.NormalRows.{rows_to, atom_row_in, context_row_in, mark_row_in, atom_row, context_row, mark_row, normal_rows, Narrow}
use Rattle.rows.specs.declared.Sheet.{Sheet as Normal}

-- one turn of copying links after two numbers
pub numbers-next : (nums links : List ℕ) (a b k : ℕ) → k + 2 < length nums → k < length links → take (k + 2) nums ≡ a ∷ b ∷ take k links
    → take (k + 1 + 2) (set nums (k + 2) (get_or links k 0)) ≡ a ∷ b ∷ take (k + 1) links
numbers-next nums links a b k h hl e =
    let z : k + 1 + 2 ≡ suc (k + 2) = omega arith in
    rw z (rw (take-suc-set nums (k + 2) (get_or links k 0) h) (rw e (rw (add-one k) (rw (take-suc links k 0 hl)))))

pub numbers-all : (nums links : List ℕ) (a b n : ℕ) → length nums ≡ n + 2 → length links ≡ n → take (n + 2) nums ≡ a ∷ b ∷ take n links → nums ≡ a ∷ b ∷ links
numbers-all nums links a b n h hl e = sym (take_all (n + 2) nums (omega arith)) ∙ e ∙ rw (take_all n links (omega arith))

-- the first numbers of a row with links
pub linked-taken : (a b count : ℕ) (links : List ℕ) → take (count + 2) (a ∷ b ∷ links) ≡ a ∷ b ∷ take count links
linked-taken a b count links = rw (add-two count)

-- the numbers of a row have four digits at most
pub two-narrow : (a b : ℕ) (l : List ℕ) → a ≤ most_number → b ≤ most_number → (k : ℕ) → k < 2 → get_or (a ∷ b ∷ l) k 0 ≤ most_number
two-narrow a b l p q zero h = p
two-narrow a b l p q (suc zero) h = q
two-narrow a b l p q (suc (suc k)) h = absurd (omega arith)

pub linked-narrow : (a b : ℕ) (links : List ℕ) → Narrow a b links → (k : ℕ) → k < b + 2 → get_or (a ∷ b ∷ links) k 0 ≤ most_number
linked-narrow a b links n zero h = n.named
linked-narrow a b links n (suc zero) h = omega arith
linked-narrow a b links n (suc (suc k)) h = n.linked k (omega arith)

-- rows of one width
module _ (row : ℕ → List ℕ) (w : (k : ℕ) → length (row k) ≡ row_width) where
  pub rows-length : (n : ℕ) → length (rows_to row n) ≡ n * row_width
  unfolding rows_to
  rows-length zero = refl
  rows-length (suc n) = rw (length-append (rows_to row n) (row n)) (omega (arith, rows-length n, w n))

  -- One row more is written: `new` is what stands there then.
  pub rows-put : (l new : List ℕ) (at k : ℕ) → at + (k + 1) * row_width ≤ length l
      → new ≡ over (over l at (rows_to row k) (k * row_width)) (at + k * row_width) (row k) row_width
      → new ≡ over l at (rows_to row (k + 1)) ((k + 1) * row_width)
  unfolding rows_to
  rows-put l new at k h e =
      let z : (k + 1) * row_width ≡ k * row_width + row_width = omega arith in
      let m : rows_to row (k + 1) ≡ rows_to row k ++ row k = rw (add-one k) in
      e ∙ over-more l at (rows_to row k) (k * row_width) (rows-length k) (omega arith) (row k) row_width ∙ rw (z, m)

-- by place or by element: rows that a list's elements give
module _ {A : Type 0} (d : A) (form : A → List ℕ) where
  rows-front : (row : ℕ → List ℕ) (n : ℕ) → rows_to row (suc n) ≡ row 0 ++ rows_to (λ k. row (suc k)) n
  unfolding rows_to
  rows-front row zero = sym (append-nil (row 0))
  rows-front row (suc n) = ap (λ (t : List ℕ). t ++ row (suc n)) (rows-front row n) ∙ append_assoc (row 0) (rows_to (λ k. row (suc k)) n) (row (suc n))

  pub rows-joined : (row : ℕ → List ℕ) (l : List A) → ((k : ℕ) → k < length l → row k ≡ form (get_or l k d)) → rows_to row (length l) ≡ joined (map form l)
  unfolding rows_to joined
  rows-joined row [] e = refl
  rows-joined row (x ∷ l) e =
      rows-front row (length l) ∙ rw (e 0 (omega arith)) (ap (λ (t : List ℕ). form x ++ t) (rows-joined (λ k. row (suc k)) l (λ k h. e (suc k) (omega arith))))

pub joined-append : (a b : List (List ℕ)) → joined (a ++ b) ≡ joined a ++ joined b
unfolding joined
joined-append [] b = refl
joined-append (r ∷ a) b = rw (joined-append a b) (sym (append_assoc r (joined a) (joined b)))

pub atom-width : (atoms : List Atom) (k : ℕ) → length (atom_row_in atoms k) ≡ row_width
atom-width atoms k = row-width _ _

pub context-width : (contexts : List Context) (k : ℕ) → length (context_row_in contexts k) ≡ row_width
context-width contexts k = row-width _ _

pub mark-width : (marked marks : List ℕ) (k : ℕ) → length (mark_row_in marked marks k) ≡ row_width
mark-width marked marks k = row-width _ _

module _ (n : Normal) where
  atoms-length : length (rows_to (atom_row n) n.atom_count) ≡ n.atom_count * row_width
  atoms-length = rows-length (atom_row n) (atom-width n.atoms) n.atom_count

  contexts-length : length (rows_to (context_row n) n.context_count) ≡ n.context_count * row_width
  contexts-length = rows-length (context_row n) (context-width n.contexts) n.context_count

  marks-length : length (rows_to (mark_row n) n.mark_count) ≡ n.mark_count * row_width
  marks-length = rows-length (mark_row n) (mark-width n.marked n.marks) n.mark_count

  pub normal-length : length (normal_rows n) ≡ (n.atom_count + n.context_count + n.mark_count) * row_width
  unfolding normal_rows
  normal-length =
      simp length-append (omega (arith, atoms-length, contexts-length, marks-length))

  -- the three parts, each written after the one before
  pub normal-put : (l one two new : List ℕ) → (n.atom_count + n.context_count + n.mark_count) * row_width ≤ length l
      → one ≡ over l 0 (rows_to (atom_row n) n.atom_count) (n.atom_count * row_width)
      → two ≡ over one (0 + n.atom_count * row_width) (rows_to (context_row n) n.context_count) (n.context_count * row_width)
      → new ≡ over two (0 + n.atom_count * row_width + n.context_count * row_width) (rows_to (mark_row n) n.mark_count) (n.mark_count * row_width)
      → new ≡ normal_rows n ++ drop (length (normal_rows n)) l
  unfolding normal_rows
  normal-put l one two new h e f g =
      let i = n.atom_count * row_width in
      let j = n.context_count * row_width in
      let k = n.mark_count * row_width in
      let a = rows_to (atom_row n) n.atom_count in
      let b = rows_to (context_row n) n.context_count in
      let c = rows_to (mark_row n) n.mark_count in
      let first : two ≡ over l 0 (a ++ b) (i + j)
      = (rw e at f) ∙ over-more l 0 a i atoms-length (omega arith) b j in
      let m : length (a ++ b) ≡ i + j = simp length-append (omega (arith, atoms-length, contexts-length)) in
      let z : 0 + i + j ≡ 0 + (i + j) = omega arith in
      let q : length (a ++ b ++ c) ≡ i + j + k = simp length-append (omega (arith, atoms-length, contexts-length, marks-length)) in
      rw q ((rw (z, first) at g) ∙ over-more l 0 (a ++ b) (i + j) m (omega arith) c k ∙ rw (zero-add (i + j + k)))
