-- What all kinds of text have in common, which letters each has, and when a row is strange.
use Prim.Native.Nat.{ℕ, ◌≤◌}
use mathlib.Core.Path.{◌≡◌, refl, sym}
use mathlib.Core.Bool.{Bool, true, false}
use lib.Dec.{eqb}
use lib.ListN.{length, get_or-eq_default}
use borrow.Author.Tests.{eq-eqb, ne_eqb}
use Rattle.rows.specs.Pick.{and}
use Rattle.rows.specs.Format.{atom_letter, fusion_letter, edge_letter, head_letter, no_letter}
use Rattle.rows.specs.Limits.{row_limit, figure_contexts, sheet_marks}
use Rattle.sheet.specs.Kinds.{limits_of, allowed, is_list}
use Rattle.sheet.specs.Reading.{strange_by}
use Rattle.sheet.specs.declared.kind.Kind.{Kind}
use Rattle.sheet.specs.declared.kind.Kind.TheVariants.{Plain, Pattern, Figure, Replacement, Fillings}

-- The limits that are the same for every kind.
pub rows-limit : (kind : Kind) → (limits_of kind).rows ≡ row_limit
rows-limit Plain = refl
rows-limit Pattern = refl
rows-limit Figure = refl
rows-limit Replacement = refl
rows-limit Fillings = refl

pub contexts-limit : (kind : Kind) → (limits_of kind).contexts ≡ figure_contexts
contexts-limit Plain = refl
contexts-limit Pattern = refl
contexts-limit Figure = refl
contexts-limit Replacement = refl
contexts-limit Fillings = refl

pub marks-limit : (kind : Kind) → (limits_of kind).marks ≡ sheet_marks
marks-limit Plain = refl
marks-limit Pattern = refl
marks-limit Figure = refl
marks-limit Replacement = refl
marks-limit Fillings = refl

-- Each kind says of every letter whether it has it, and S, F and E are in all.
pub letters-count : (kind : Kind) → length (limits_of kind).letters ≡ no_letter
letters-count Plain = refl
letters-count Pattern = refl
letters-count Figure = refl
letters-count Replacement = refl
letters-count Fillings = refl

pub no-letter : (kind : Kind) (letter : ℕ) → no_letter ≤ letter → false ≡ allowed kind letter
no-letter kind letter h = sym (get_or-eq_default (limits_of kind).letters false (rw (letters-count kind) h))

pub common-letters : (kind : Kind) → (allowed kind atom_letter ≡ true) × (allowed kind fusion_letter ≡ true) × (allowed kind edge_letter ≡ true)
common-letters Plain = (refl, refl, refl)
common-letters Pattern = (refl, refl, refl)
common-letters Figure = (refl, refl, refl)
common-letters Replacement = (refl, refl, refl)
common-letters Fillings = (refl, refl, refl)

module _ (kind : Kind) (letter heads : ℕ) where
  pub strange-letter : allowed kind letter ≡ false → true ≡ strange_by kind letter heads
  strange-letter e = rw e

  module _ (a : allowed kind letter ≡ true) where
    pub strange-head : letter ≡ head_letter → false ≡ strange_by kind letter heads
    strange-head e = rw a (rw (eq-eqb letter head_letter e) (go (is_list kind)))
      where
        go : (b : Bool) → false ≡ and b false
        go true = refl
        go false = refl

    pub strange-none : is_list kind ≡ false → false ≡ strange_by kind letter heads
    strange-none e = rw a (rw e)

    pub strange-first : is_list kind ≡ true → (letter ≡ head_letter → ⊥) → eqb heads 0 ≡ strange_by kind letter heads
    strange-first e n = rw a (rw e (rw (ne_eqb letter head_letter n)))
