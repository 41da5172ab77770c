-- The bytes of a row: how many they are, one field more, and how they are written over a list.
use Prim.Native.Nat.{ℕ, zero, suc, ◌+◌, ◌-◌, ◌*◌, ◌<◌, ◌≤◌}
use mathlib.Core.Path.{◌≡◌, refl, ap, ◌∙◌, sym}
use mathlib.Core.List.{List, [], ◌∷◌, ◌++◌, append_assoc, append-nil}
use mathlib.Core.Bool.{Bool, true, false}
use native.Mathlib.Nat.{add-zero, add_assoc}
use native.Mathlib.Numerals.{add-one, add-two, add-three}
use native.Mathlib.Omega.{arith}
use borrow.Author.Tests.{lt-ltb, le-ltb, ltb-true}
use lib.Dec.{ltb, leb-suc-suc}
use lib.ListN.{length, get_or, set, take, drop, length-append, length-drop, take-append-drop}
use lib.Seq.{sets-eq, take_at, drop-append-add, drop-drop, length-take-le, get_or-take}
use Rattle.rows.specs.Pick.{pick}
use Rattle.rows.specs.Format.{field_count, row_width, field_width, newline}
use Rattle.writing.specs.RowText.{field_bytes, empty_field, fields_bytes, row_bytes}

-- A field: a number's where it is filled, else an empty one.
abbrev pub field_text : Bool → ℕ → List ℕ
field_text filled n = pick filled (field_bytes n) empty_field

-- Field f of a row with these numbers.
abbrev pub field_at : List ℕ → ℕ → List ℕ
field_at nums f = field_text (ltb f (length nums)) (get_or nums f 0)

pub fields-length : (f : ℕ) (nums : List ℕ) → length (fields_bytes f nums) ≡ f * field_width
unfolding fields_bytes field_bytes
fields-length zero nums = refl
fields-length (suc f) [] = omega (arith, fields-length f [])
fields-length (suc f) (n ∷ nums) = omega (arith, fields-length f nums)

pub row-width : (letter : ℕ) (nums : List ℕ) → length (row_bytes letter nums) ≡ row_width
unfolding row_bytes
row-width letter nums = simp (length-append, fields-length)

-- One field more.
pub fields-more : (f : ℕ) (nums : List ℕ) → fields_bytes (suc f) nums ≡ fields_bytes f nums ++ field_at nums f
unfolding fields_bytes field_bytes
fields-more zero [] = refl
fields-more zero (n ∷ nums) = rw (lt-ltb 0 (suc (length nums)) (omega arith))
fields-more (suc f) [] = rw (le-ltb (suc f) 0 (omega arith)) (ap (λ (t : List ℕ). empty_field ++ t) (fields-more f [] ∙ rw (le-ltb f 0 (omega arith))))
fields-more (suc f) (n ∷ nums) = rw (leb-suc-suc (suc f) (length nums)) (ap (λ (t : List ℕ). field_bytes n ++ t) (fields-more f nums))

-- Field f of the first numbers of a longer list.
pub taken-field : (nums : List ℕ) (count f : ℕ) → count ≤ length nums → field_text (ltb f count) (get_or nums f 0) ≡ field_at (take count nums) f
taken-field nums count f h = rw (length-take-le count nums h) (go (ltb f count) refl)
  where
    go : (b : Bool) → ltb f count ≡ b → field_text b (get_or nums f 0) ≡ field_text b (get_or (take count nums) f 0)
    go true e = rw (get_or-take count nums f 0 (ltb-true _ _ e))
    go false e = refl

-- A list with k bytes of it, from byte `at` on, written over.
abbrev pub over : List ℕ → ℕ → List ℕ → ℕ → List ℕ
over l at bytes k = take at l ++ bytes ++ drop (at + k) l

pub over_none : (l : List ℕ) (at : ℕ) → l ≡ over l at [] 0
over_none l at = sym (rw (append-nil (take at l)) (rw (add-zero at) (take-append-drop at l)))

module _ (l : List ℕ) (at : ℕ) (a : List ℕ) (j : ℕ) (n : length a ≡ j) (h : at + j ≤ length l) where
  over-head : length (take at l ++ a) ≡ at + j
  over-head = length-append (take at l) a ∙ rw (length-take-le at l (omega arith)) (rw n)

  pub over-length : length (over l at a j) ≡ length l
  over-length = length-append (take at l ++ a) (drop (at + j) l) ∙ rw over-head (rw (length-drop (at + j) l) (omega arith))

  -- The bytes that stand next are written over too.
  pub over-more : (b : List ℕ) (k : ℕ) → over (over l at a j) (at + j) b k ≡ over l at (a ++ b) (j + k)
  over-more b k =
      rw (take_at (take at l ++ a) (drop (at + j) l) (at + j) over-head)
      (rw past (rw (add_assoc at j k) (ap (λ (t : List ℕ). t ++ drop (at + (j + k)) l) (append_assoc (take at l) a b))))
    where
      past : drop (at + j + k) (over l at a j) ≡ drop (at + j + k) l
      past = rw (← over-head) (drop-append-add (take at l ++ a) (drop (length (take at l ++ a)) l) k ∙ drop-drop k (length (take at l ++ a)) l)

-- Stores, one after the other.
pub one-stored : (l : List ℕ) (i a : ℕ) → i + 1 ≤ length l → set l i a ≡ over l i (a ∷ []) 1
one-stored l i a h = sets-eq (a ∷ []) l i h

pub four-stored : (l : List ℕ) (i a b c d : ℕ) → i + 4 ≤ length l
    → set (set (set (set l i a) (i + 1) b) (i + 2) c) (i + 3) d ≡ over l i (a ∷ b ∷ c ∷ d ∷ []) 4
four-stored l i a b c d h = rw (add-one i) (rw (add-two i) (rw (add-three i) (sets-eq (a ∷ b ∷ c ∷ d ∷ []) l i h)))

-- One field more is written: `new` is what stands there then.
pub fields-put : (l new : List ℕ) (at : ℕ) (nums : List ℕ) (count f : ℕ) → count ≤ length nums → f < field_count → at + field_count * field_width ≤ length l
    → new ≡ over (over l at (fields_bytes f (take count nums)) (f * field_width)) (at + f * field_width) (field_text (ltb f count) (get_or nums f 0)) 4
    → new ≡ over l at (fields_bytes (f + 1) (take count nums)) ((f + 1) * field_width)
fields-put l new at nums count f h k room e =
    let z : (f + 1) * field_width ≡ f * field_width + field_width = omega arith in
    let m : fields_bytes (f + 1) (take count nums) ≡ fields_bytes f (take count nums) ++ field_text (ltb f count) (get_or nums f 0)
    = rw (add-one f, taken-field nums count f h) (fields-more f (take count nums)) in
    e ∙ over-more l at (fields_bytes f (take count nums)) (f * field_width) (fields-length f (take count nums)) (omega arith) (field_text (ltb f count) (get_or nums f 0)) 4
    ∙ rw (z, m)

-- A row is written: the letter, every field, the newline.
pub row_put : (l fields : List ℕ) (at letter : ℕ) (nums : List ℕ) → at + row_width ≤ length l
    → fields ≡ over (set l at letter) (at + 1) (fields_bytes field_count nums) (field_count * field_width)
    → set fields (at + row_width - 1) newline ≡ over l at (row_bytes letter nums) row_width
unfolding row_bytes
row_put l fields at letter nums room e =
    let k = 1 + field_count * field_width in
    let body = letter ∷ fields_bytes field_count nums in
    let n : length body ≡ k = ap suc (fields-length field_count nums) in
    let b : fields ≡ over l at body k
    = (rw (one-stored l at letter (omega arith)) at e) ∙ over-more l at (letter ∷ []) 1 refl (omega arith) (fields_bytes field_count nums) (field_count * field_width) in
    let z : at + row_width - 1 ≡ at + k = omega arith in
    rw (z, b) (one-stored (over l at body k) (at + k) newline (rw (over-length l at body k n (omega arith)) (omega arith))
    ∙ over-more l at body k n (omega arith) (newline ∷ []) 1)
