-- Laws of the reading of a whole text: an empty text passes, and the answer depends on as many rows
-- as the limit allows and one byte more.
use Prim.Native.Nat.{ℕ, zero, suc, ◌+◌, ◌-◌, ◌*◌, ◌<◌, ◌≤◌}
use mathlib.Core.Path.{◌≡◌, refl, ◌∙◌, sym, ap}
use mathlib.Core.List.{List, [], ◌∷◌}
use mathlib.Core.Bool.{Bool, true, false}
use native.Mathlib.Nat.{zero-add, suc-add}
use native.Mathlib.Omega.{arith}
use borrow.Author.Tests.{ltb-true, ltb-false, lt-ltb, le-ltb, le-leb, eqb-true, eqb-false, eq-eqb, ne_eqb}
use lib.Dec.{eqb, ltb}
use lib.ListN.{length, take, drop, length-take}
use lib.Seq.{take-take, get_or-take, take-nil}
use Rattle.rows.specs.Pick.{pick}
use Rattle.rows.specs.Format.{row_width}
use Rattle.rows.specs.Limits.{row_limit}
use Rattle.rows.specs.Row.{row_of}
use Rattle.rows.specs.Held.{Held, nothing, with_atom, with_context, with_fusion_row, with_edge_row, with_head, with_row}
use Rattle.rows.specs.declared.row.Row.{Row}
use Rattle.linking.proofs.Wired.{row_by}
use Rattle.sheet.specs.Kinds.{limits_of}
use Rattle.sheet.specs.Reading.{ragged, first_of, passed, refused_after, read_from, outcome_of}
use Rattle.sheet.specs.declared.kind.Kind.{Kind}
use Rattle.sheet.specs.declared.answer.Refusal.TheVariants.{Long}
use Rattle.sheet.proofs.kind.KindLaws.{rows-limit}

-- Nothing left to read.
pub read_none : (n : ℕ) (kind : Kind) (pattern : List ℕ) (h : Held) → read_from n kind pattern h [] ≡ passed h
unfolding read_from
read_none zero kind pattern h = refl
read_none (suc n) kind pattern h = refl

-- An empty text passes, and holds nothing.
pub empty-passes : (kind : Kind) (pattern : List ℕ) → outcome_of kind pattern [] ≡ passed nothing
unfolding outcome_of
empty-passes kind pattern = read_none ((limits_of kind).rows + 1) kind pattern nothing

-- A row more is counted.
module _ (h : Held) (r : Row) where
  pub row-counted : (with_row h r).rows ≡ h.rows + 1
  unfolding with_atom with_context with_fusion_row with_edge_row with_head
  row-counted = row_by h r (λ g. g.rows ≡ h.rows + 1) (λ z. refl) (λ z. refl) (λ z. refl) (λ z. refl) (λ z. refl)

-- The first m bytes after the first n.
pub drop_of_take : (n m : ℕ) (l : List ℕ) → drop n (take (n + m) l) ≡ take m (drop n l)
drop_of_take zero m l = rw zero-add
drop_of_take (suc n) m [] = rw suc-add (sym (take-nil m))
drop_of_take (suc n) m (x ∷ l) = rw suc-add (drop_of_take n m l)

-- The first m bytes of a text, where these are as many as are asked for, are as empty, as short and
-- as ragged as the text.
module _ (text : List ℕ) (m : ℕ) where
  pub same_width : (n : ℕ) → n ≤ m → ltb (length (take m text)) n ≡ ltb (length text) n
  same_width n h = go (ltb (length text) n) refl
    where
      go : (b : Bool) → ltb (length text) n ≡ b → ltb (length (take m text)) n ≡ b
      go true e = lt-ltb (length (take m text)) n (simp length-take (omega (arith, ltb-true (length text) n e)))
      go false e = le-ltb (length (take m text)) n (simp length-take (omega (arith, ltb-false (length text) n e)))

  pub same-empty : 0 < m → eqb (length (take m text)) 0 ≡ eqb (length text) 0
  same-empty h = go (eqb (length text) 0) refl
    where
      go : (b : Bool) → eqb (length text) 0 ≡ b → eqb (length (take m text)) 0 ≡ b
      go true e = eq-eqb (length (take m text)) 0 (simp length-take (omega (arith, eqb-true (length text) 0 e)))
      go false e = ne_eqb (length (take m text)) 0 (simp length-take (omega (arith, eqb-false (length text) 0 e)))

  pub same-ragged : row_width ≤ m → ragged (take m text) ≡ ragged text
  same-ragged h = rw (same_width row_width h, get_or-take m text (row_width - 1) 0 (omega arith))

module _ (kind : Kind) (pattern : List ℕ) where
  -- After as many rows as the limit allows, a text is turned down where there is more of it.
  pub read-long : (n : ℕ) (h : Held) (text : List ℕ) → row_limit ≤ h.rows
      → read_from (suc n) kind pattern h text ≡ pick (eqb (length text) 0) (passed h) (refused_after h Long)
  unfolding read_from first_of
  read-long n h text l = rw (le-leb (limits_of kind).rows h.rows (rw (rows-limit kind) l))

  -- Where a part decides what comes after a row, the row and that part decide.
  pub read-part : (n m : ℕ) (h : Held) (text : List ℕ)
      → read_from n kind pattern (with_row h (row_of (take row_width text))) (take m (drop row_width text)) ≡ read_from n kind pattern (with_row h (row_of (take row_width text))) (drop row_width text)
      → read_from (suc n) kind pattern h (take (row_width + m) text) ≡ read_from (suc n) kind pattern h text
  unfolding read_from
  read-part n m h text e =
      rw (same-empty text (row_width + m) (omega arith), same-ragged text (row_width + m) (omega arith), take-take row_width (row_width + m) text (omega arith), drop_of_take row_width m text, e)

  -- With n rows still allowed, n rows and a byte decide.
  pub rest-decides : (n : ℕ) (h : Held) (text : List ℕ) → h.rows + n ≡ row_limit
      → read_from (suc n) kind pattern h (take (n * row_width + 1) text) ≡ read_from (suc n) kind pattern h text
  rest-decides zero h text e = rw (read-long 0 h (take 1 text) (omega arith), read-long 0 h text (omega arith), same-empty text 1 (omega arith))
  rest-decides (suc n) h text e =
      let k : suc n * row_width + 1 ≡ row_width + (n * row_width + 1) = omega arith in
      let r = row_of (take row_width text) in
      rw k (read-part (suc n) (n * row_width + 1) h text (rest-decides n (with_row h r) (drop row_width text) (omega (arith, row-counted h r))))

  -- The answer, and what is held, depend on the first bytes alone: all rows up to the limit, and one byte.
  pub prefix-decides : (text : List ℕ) → outcome_of kind pattern (take (row_limit * row_width + 1) text) ≡ outcome_of kind pattern text
  unfolding outcome_of
  prefix-decides text = rw (rows-limit kind) (rest-decides row_limit nothing text refl)

  pub same-prefix : (text other : List ℕ) → take (row_limit * row_width + 1) text ≡ take (row_limit * row_width + 1) other
      → outcome_of kind pattern text ≡ outcome_of kind pattern other
  same-prefix text other e = sym (prefix-decides text) ∙ ap (outcome_of kind pattern) e ∙ prefix-decides other
