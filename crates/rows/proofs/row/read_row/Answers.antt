-- A field's columns and a row's fields, step by step.
use Prim.Native.Nat.{ℕ, ◌≤◌, ◌+◌, ◌*◌, ◌-◌}
use mathlib.Core.Path.{◌≡◌, ◌∙◌, sym, refl, ap}
use mathlib.Core.Bool.{Bool, true, false, true≢false}
use mathlib.Core.List.{List, []}
use mathlib.Core.Logic.{⊎_elim}
use native.Mathlib.Omega.{arith}
use borrow.Author.Tests.{eq-eqb, ne_eqb}
use lib.Dec.{eqb}
use lib.ListN.{length, get_or, length-set}
use lib.Seq.{get_or-set_other}
use Rattle.rows.specs.Format.{field_count, blank, rules, rule_of}
use Rattle.rows.specs.Row.{needed, suits}
use Rattle.rows.specs.declared.row.Rule.{Rule}
use Rattle.rows.proofs.Padding.{get_d-filled}
use Rattle.rows.proofs.RowLaws.{digit-more, digit-none, letter-small, misplaced-digit, field_end, field-column, fields-end, fields-malformed, fields-held, row-strange, row-fields}
use Rattle.rows.proofs.BlankField.{field-blank, field-unblank}
use Rattle.rows.proofs.row.read_row.Goals as goal

-- What was asked of the field's rule in the letter's own rules is asked of the table's.
module _ (letter f : ℕ) (own : List Rule) (taken : own ≡ get_or rules letter []) (nums : List ℕ) (a b : Bool) (e : a ≡ b) where
  rule-taken : get_or own f blank ≡ rule_of letter f
  unfolding rule_of
  rule-taken = ap (λ (l : List Rule). get_or l f blank) taken

  needed-is : a ≡ needed (get_or own f blank) f (get_or nums 1 0) → needed (rule_of letter f) f (get_or nums 1 0) ≡ b
  needed-is q = ap (λ (r : Rule). needed r f (get_or nums 1 0)) (sym rule-taken) ∙ sym q ∙ e

  suits-is : (filled : Bool) (n : ℕ) → a ≡ suits (get_or own f blank) f (get_or nums 1 0) filled n → suits (rule_of letter f) f (get_or nums 1 0) filled n ≡ b
  suits-is filled n q = ap (λ (r : Rule). suits r f (get_or nums 1 0) filled n) (sym rule-taken) ∙ sym q ∙ e

pub returns-then-letter-eq-NO_LETTER : goal.returns-then-letter-eq-NO_LETTER
returns-then-letter-eq-NO_LETTER c = let k = c.letter_of-letter in
    c.none.ensures ∙ sym (row-strange c.args.row.now k.result k.ensures c.if-letter-eq-NO_LETTER.true)

pub rules_of-own-requires : goal.rules_of-own-requires
rules_of-own-requires c = let k = c.letter_of-letter.ensures in
    rw k (letter-small _ (λ e. c.if-letter-eq-NO_LETTER.false (k ∙ e)))

pub row-init : goal.row-init
row-init c = let k = c.letter_of-letter in
    (refl, refl, λ i h. get_d-filled 0 field_count i, row-fields c.args.row.now k.result k.ensures c.if-letter-eq-NO_LETTER.false)

pub overflow_sub-n : goal.overflow_sub-n
overflow_sub-n c = (misplaced-digit _ _ _ (sym c.misplaced.ensures ∙ c.if-misplaced.false) c.if-b-ne32.true).0

pub loop-col-preserved : goal.loop-col-preserved
loop-col-preserved c = let s = c.args.row.now in
    let v = c.loop-col in
    let at = c.row.f * 4 + 1 in
    let b = get_or s (at + v.col) 0 in
    let room : at + 4 ≤ length s = omega (arith, c.requires) in
    let placed = sym c.misplaced.ensures ∙ c.if-misplaced.false in
    ⊎_elim
    (λ w. (
      v.invariant.0,
      rw w.n-is (digit-more v.n v.col v.invariant.1 (b - 48) (omega (arith, (misplaced-digit _ _ _ placed w.if-b-ne32.true).1))),
      rw (w.n-is, w.filled-is) (v.invariant.2 ∙ field-column s at v.col room c.loop-col-test.true v.filled v.n false false placed (ne_eqb _ _ w.if-b-ne32.true)),
    ))
    (λ w. (
      v.invariant.0,
      rw w.n-is (digit-none v.n v.col v.invariant.1),
      rw (w.n-is, w.filled-is) (v.invariant.2 ∙ field-column s at v.col room c.loop-col-test.true v.filled v.n false true placed (eq-eqb _ _ w.if-b-ne32.false)),
    ))
    c.if-b-ne32.branch-raw

pub row-preserved : goal.row-preserved
row-preserved c = let s = c.args.row.now in
    let r = c.row in
    let v = c.loop-col in
    let k = c.letter_of-letter.result in
    let held = v.invariant.2 ∙ field_end s (r.f * 4 + 1) v.col v.filled v.n c.loop-col-test.false in
    let fits = suits-is k r.f _ c.rules_of-own.ensures r.nums _ true c.if-not-field_suits.false v.filled v.n c.field_suits.ensures in (
      v.invariant.0 ∙ r.invariant.0,
      simp length-set r.invariant.1,
      λ i h. get_or-set_other r.nums r.f i v.n 0 (λ e. omega arith) ∙ r.invariant.2 i (omega arith),
      r.invariant.3 ∙ fields-held s k r.f r.nums c.row-test.true v.filled v.n true held fits,
    )

pub returns-after-row : goal.returns-after-row
returns-after-row c = let r = c.row in
    rw r.invariant.0 (sym (r.invariant.3 ∙ fields-end c.args.row.now c.letter_of-letter.result r.f r.nums c.row-test.false))

pub row-preserved-then-not-is_needed : goal.row-preserved-then-not-is_needed
row-preserved-then-not-is_needed c = let s = c.args.row.now in
    let r = c.row in
    let k = c.letter_of-letter.result in
    let none = needed-is k r.f _ c.rules_of-own.ensures r.nums _ false c.if-not-is_needed.true c.is_needed.ensures in (
      r.invariant.0,
      r.invariant.1,
      λ i h. r.invariant.2 i (omega arith),
      r.invariant.3 ∙ field-blank s c.requires k r.f c.row-test.true r.nums none (r.invariant.2 r.f (omega arith)) (c.is_blank.ensures.0 c.if-not-is_blank.false),
    )

pub returns-then-not-is_blank : goal.returns-then-not-is_blank
returns-then-not-is_blank c = let s = c.args.row.now in
    let r = c.row in
    let k = c.letter_of-letter.result in
    let none = needed-is k r.f _ c.rules_of-own.ensures r.nums _ false c.if-not-is_needed.true c.is_needed.ensures in
    sym (r.invariant.3 ∙ field-unblank s c.requires k r.f c.row-test.true r.nums none (λ b. true≢false (sym (c.is_blank.ensures.1 b) ∙ c.if-not-is_blank.true)))

pub returns-then-misplaced : goal.returns-then-misplaced
returns-then-misplaced c = let s = c.args.row.now in
    let r = c.row in
    let v = c.loop-col in
    let at = r.f * 4 + 1 in
    let room : at + 4 ≤ length s = omega (arith, c.requires) in
    let bad = v.invariant.2 ∙ field-column s at v.col room c.loop-col-test.true v.filled v.n true (eqb (get_or s (at + v.col) 0) 32) (sym c.misplaced.ensures ∙ c.if-misplaced.true) refl in
    sym (r.invariant.3 ∙ fields-malformed s c.letter_of-letter.result r.f r.nums c.row-test.true bad)

pub returns-then-not-field_suits : goal.returns-then-not-field_suits
returns-then-not-field_suits c = let s = c.args.row.now in
    let r = c.row in
    let v = c.loop-col in
    let k = c.letter_of-letter.result in
    let held = v.invariant.2 ∙ field_end s (r.f * 4 + 1) v.col v.filled v.n c.loop-col-test.false in
    let fits = suits-is k r.f _ c.rules_of-own.ensures r.nums _ false c.if-not-field_suits.true v.filled v.n c.field_suits.ensures in
    sym (r.invariant.3 ∙ fields-held s k r.f r.nums c.row-test.true v.filled v.n false held fits)
