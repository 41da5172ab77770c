-- A field that is to hold nothing: the row goes on after it where its columns are spaces, and ends at it elsewhere.
use Prim.Native.Nat.{ℕ, zero, suc, ◌+◌, ◌-◌, ◌*◌, ◌<◌, ◌≤◌}
use mathlib.Core.Path.{◌≡◌, refl, ◌∙◌, sym, ap}
use mathlib.Core.List.{List, [], ◌∷◌}
use mathlib.Core.Bool.{Bool, true, false, true≢false}
use native.Mathlib.Omega.{arith}
use borrow.Author.Tests.{eqb-true}
use lib.Dec.{eqb}
use lib.ListN.{length, get_or, set}
use lib.Seq.{set-get_or}
use Rattle.rows.specs.Pick.{pick, not}
use Rattle.rows.specs.Format.{field_count, row_width, rule_of}
use Rattle.rows.specs.Row.{Field, malformed, holds, misplaced_in, is_nil, field_of, needed, suits, Blank, row_with, fields_of}
use Rattle.rows.proofs.RowLaws.{columns, columns-length, column-byte, suits-by, fields-malformed, fields-held}
use Rattle.rows.proofs.RowRange.{nothing_read}

-- Columns hold nothing exactly where they are spaces.
spaces-nothing : (l : List ℕ) → ((i : ℕ) → i < length l → get_or l i 0 ≡ 32) → field_of false 0 l ≡ holds false 0
unfolding field_of misplaced_in
spaces-nothing [] h = refl
spaces-nothing (b ∷ t) h = let e : b ≡ 32 = h 0 (omega arith) in
    rw e (spaces-nothing t (λ i k. h (suc i) (omega arith)))

nothing-spaces : (n : ℕ) (l : List ℕ) (m : ℕ) → field_of false n l ≡ holds false m → (i : ℕ) → i < length l → get_or l i 0 ≡ 32
unfolding field_of
nothing-spaces n [] m e i k = absurd (omega arith)
nothing-spaces n (b ∷ t) m e i k = go (misplaced_in b false (is_nil t)) (eqb b 32) refl e (nothing-spaces n t m) i k
  where
    go : (bad space : Bool) → eqb b 32 ≡ space → pick bad malformed (pick space (field_of false n t) (field_of true (n * 10 + (b - 48)) t)) ≡ holds false m
        → (field_of false n t ≡ holds false m → (i : ℕ) → i < length t → get_or t i 0 ≡ 32) → (i : ℕ) → i < length (b ∷ t) → get_or (b ∷ t) i 0 ≡ 32
    go true space f q rest i k = absurd (let z : ◌≡◌ {A = ℕ} 0 1 = cc in omega arith)
    go false true f q rest zero k = eqb-true b 32 f
    go false true f q rest (suc i) k = rest q i (omega arith)
    go false false f q rest i k = absurd (true≢false (nothing_read true (n * 10 + (b - 48)) t m q).0)

module _ (s : List ℕ) (wide : length s ≡ row_width) (letter f : ℕ) (h : f < field_count) (nums : List ℕ) (none : needed (rule_of letter f) f (get_or nums 1 0) ≡ false) where
  room : f * 4 + 1 + 4 ≤ length s
  room = omega arith

  blank-nothing : Blank s (f * 4 + 1) → field_of false 0 (columns s (f * 4 + 1)) ≡ holds false 0
  blank-nothing r = spaces-nothing (columns s (f * 4 + 1)) (λ i k. let l : i < 4 = omega (arith, columns-length s (f * 4 + 1) 0 room (omega arith)) in column-byte s (f * 4 + 1) i room l ∙ r i l)

  unsuited : (filled : Bool) (n : ℕ) → suits (rule_of letter f) f (get_or nums 1 0) filled n ≡ not filled
  unsuited filled n = suits-by (rule_of letter f) f (get_or nums 1 0) filled n false none

  -- 0 stands in its place before it is read.
  pub field-blank : get_or nums f 0 ≡ 0 → Blank s (f * 4 + 1) → fields_of s letter f nums (field_count - f) ≡ fields_of s letter (f + 1) nums (field_count - (f + 1))
  field-blank z r = fields-held s letter f nums h false 0 true (blank-nothing r) (unsuited false 0)
      ∙ ap (λ (l : List ℕ). fields_of s letter (f + 1) l (field_count - (f + 1))) (ap (λ (n : ℕ). set nums f n) (sym z) ∙ set-get_or nums f 0)

  pub field-unblank : (Blank s (f * 4 + 1) → ⊥) → fields_of s letter f nums (field_count - f) ≡ row_with letter false nums
  field-unblank n = go (field_of false 0 (columns s (f * 4 + 1))) refl
    where
      go : (c : Field) → field_of false 0 (columns s (f * 4 + 1)) ≡ c → fields_of s letter f nums (field_count - f) ≡ row_with letter false nums
      go malformed q = fields-malformed s letter f nums h q
      go (holds true m) q = fields-held s letter f nums h true m false q (unsuited true m)
      go (holds false m) q = absurd (n (λ k l. sym (column-byte s (f * 4 + 1) k room l) ∙ nothing-spaces 0 (columns s (f * 4 + 1)) m q k (omega (arith, columns-length s (f * 4 + 1) k room l))))
