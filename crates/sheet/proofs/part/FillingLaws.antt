-- The steps of a walk over the rows of a list of fillings, over plain variables: to a blank's H row, and on to the next H row.
use Prim.Native.Nat.{ℕ, zero, suc, ◌+◌, ◌-◌, ◌<◌, ◌≤◌}
use mathlib.Core.Path.{◌≡◌, refl, ◌∙◌, sym, ap}
use mathlib.Core.List.{List, [], ◌++◌, append_assoc, append-nil}
use mathlib.Core.Bool.{Bool, true, false}
use mathlib.Core.Logic.{◌⊎◌, inl, inr, ⊎_elim}
use native.Mathlib.Omega.{arith}
use native.Mathlib.Nat.{add-zero}
use lib.Dec.{ltb, eqb}
use lib.ListN.{length, get_or, drop, take, length-drop}
use lib.Seq.{drop-drop, drop-length, get_or-drop, take-add}
use borrow.Author.Tests.{lt-ltb, le-ltb, ltb-false, ne_eqb}
use Rattle.rows.specs.Pick.{pick, and}
use Rattle.rows.specs.Format.{row_width}
use Rattle.rows.specs.Row.{row_of}
use Rattle.sheet.specs.Filling.{head_byte, head_first, from_head, before_head, first_filling, is_passed, filling_of}
use Rattle.sheet.specs.Reading.{outcome_of, no_ports}
use Rattle.sheet.specs.declared.kind.Kind.TheVariants.{Fillings}

-- A count of rows that is at least the text's length leaves no row out: one more changes nothing.
head-count : (n number : ℕ) (text : List ℕ) → length text ≤ n → from_head n number text ≡ from_head (suc n) number text
unfolding from_head
head-count zero number text h = let q : length text < row_width = omega arith in rw (lt-ltb _ _ q)
head-count (suc n) number text h = rw (head-count n number (drop row_width text) (simp length-drop (omega arith)))

before-count : (n : ℕ) (text : List ℕ) → length text ≤ n → before_head n text ≡ before_head (suc n) text
unfolding before_head
before-count zero text h = let q : length text < row_width = omega arith in rw (lt-ltb _ _ q)
before-count (suc n) text h = rw (before-count n (drop row_width text) (simp length-drop (omega arith)))

-- The rows from place `at` on, where there are fewer bytes than a row, and where there is one. The Bools are what its two tests say.
module _ (s : List ℕ) (at : ℕ) where
  counted : length (drop at s) ≤ length s
  counted = simp length-drop (omega arith)

  first : get_or (drop at s) 0 0 ≡ get_or s at 0
  first = simp (get_or-drop, add-zero)

  module _ (h : length s - at < row_width) where
    short : ltb (length (drop at s)) row_width ≡ true
    short = rw (length-drop at s) (lt-ltb _ _ h)

    pub head-none : (number : ℕ) → from_head (length s) number (drop at s) ≡ drop (length s) s
    unfolding from_head
    head-none number = head-count (length s) number (drop at s) counted ∙ rw (short, drop-length)

    pub before-short : before_head (length s) (drop at s) ≡ []
    unfolding before_head
    before-short = before-count (length s) (drop at s) counted ∙ rw short

  module _ (h : row_width ≤ length s - at) where
    long : ltb (length (drop at s)) row_width ≡ false
    long = rw (length-drop at s) (le-ltb _ _ h)

    pub head-row : (number : ℕ) (head same : Bool) → eqb (get_or s at 0) head_byte ≡ head → eqb (get_or (row_of (take row_width (drop at s))).nums 0 0) number ≡ same
        → from_head (length s) number (drop at s) ≡ pick (and head same) (drop at s) (from_head (length s) number (drop (at + row_width) s))
    unfolding from_head
    head-row number head same e f = head-count (length s) number (drop at s) counted ∙ rw (long, first, e, f, drop-drop)

    pub head-other : (number : ℕ) → (get_or s at 0 ≡ head_byte → ⊥) → from_head (length s) number (drop at s) ≡ from_head (length s) number (drop (at + row_width) s)
    head-other number n = head-row number false _ (ne_eqb _ _ n) refl

    pub before-row : (head : Bool) → eqb (get_or s at 0) head_byte ≡ head
        → before_head (length s) (drop at s) ≡ pick head [] (take row_width (drop at s) ++ before_head (length s) (drop (at + row_width) s))
    unfolding before_head
    before-row head e = before-count (length s) (drop at s) counted ∙ rw (long, first, e, drop-drop)

-- The rows before the next H row, from place `from` on: those up to place `at`, and those that are left there.
abbrev pub Parted : List ℕ → ℕ → ℕ → Type 0
Parted s from at = (from ≤ at) × (at ≤ length s) × (before_head (length s) (drop from s) ≡ take (at - from) (drop from s) ++ before_head (length s) (drop at s))

pub parted-start : (s : List ℕ) (from : ℕ) → from ≤ length s → Parted s from from
parted-start s from h = let z : from - from ≡ 0 = omega arith in (omega arith, h, rw z)

module _ (s : List ℕ) (from at : ℕ) (p : Parted s from at) where
  pub parted-row : row_width ≤ length s - at → (get_or s at 0 ≡ head_byte → ⊥) → Parted s from (at + row_width)
  parted-row h n =
      let y : at + row_width - from ≡ (at - from) + row_width = omega arith in
      let z : from + (at - from) ≡ at = omega arith in
      (omega arith, omega arith, p.2 ∙ rw (before-row s at h false (ne_eqb _ _ n), y, take-add (at - from) row_width, drop-drop, z, append_assoc))

  pub parted-end : before_head (length s) (drop at s) ≡ []
      → (from ≤ at) × (at ≤ length s) × (take (at - from) (drop from s) ≡ before_head (length s) (drop from s))
  parted-end e = (p.0, p.1, sym (p.2 ∙ rw (e, append-nil)))

-- A text from an H row on is empty or has at least that row.
abbrev Whole : List ℕ → Type 0
Whole text = (text ≡ []) ⊎ (row_width ≤ length text)

head-whole : (n number : ℕ) (text : List ℕ) → Whole (from_head n number text)
unfolding from_head
head-whole zero number text = inl refl
head-whole (suc n) number text = go (ltb (length text) row_width) (and (head_first text) (eqb (get_or (row_of (take row_width text)).nums 0 0) number)) (from_head n number (drop row_width text)) refl (head-whole n number (drop row_width text))
  where
    go : (few found : Bool) (rest : List ℕ) → ltb (length text) row_width ≡ few → Whole rest → Whole (pick few [] (pick found text rest))
    go true found rest e w = inl refl
    go false true rest e w = inr (ltb-false _ _ e)
    go false false rest e w = w

pub before-nil : (n : ℕ) → before_head n [] ≡ []
unfolding before_head
before-nil zero = refl
before-nil (suc n) = refl

-- The filling of blank k, by the place r where its H row starts.
module _ (s : List ℕ) (k r : ℕ) (from : drop r s ≡ from_head (length s) k s) where
  pub filling-part : (e : ℕ) → r + row_width ≤ e → take (e - (r + row_width)) (drop (r + row_width) s) ≡ before_head (length s) (drop (r + row_width) s)
      → take (e - r) (drop r s) ≡ first_filling (length s) (from_head (length s) k s)
  filling-part e h p =
      let z : e - r ≡ row_width + (e - (r + row_width)) = omega arith in
      rw (← from, z, take-add row_width (e - (r + row_width)), drop-drop, p)

  pub filling-none : length s - r < row_width → first_filling (length s) (from_head (length s) k s) ≡ []
  filling-none h = ⊎_elim
      (λ w. rw w (before-nil (length s)))
      (λ w. absurd (let e : length s - r ≡ length (from_head (length s) k s) = sym (length-drop r s) ∙ ap length from in omega arith))
      (head-whole (length s) k s)

-- the filling by whether the list passes
pub filling-by : (list : List ℕ) (number : ℕ) (b : Bool) → is_passed (outcome_of Fillings no_ports list).answer ≡ b → filling_of list number ≡ pick b (first_filling (length list) (from_head (length list) number list)) []
unfolding filling_of
filling-by list number b q = rw q
