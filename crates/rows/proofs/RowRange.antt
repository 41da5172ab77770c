-- What a good row holds: a letter, and in each field what the table asks.
use Prim.Native.Nat.{ℕ, zero, suc, ◌+◌, ◌-◌, ◌*◌, ◌<◌, ◌≤◌}
use mathlib.Core.Path.{◌≡◌, refl, ◌∙◌, sym, ap}
use mathlib.Core.List.{List, [], ◌∷◌}
use mathlib.Core.Bool.{Bool, true, false, true≢false, false≢true}
use mathlib.Core.Logic.{◌⊎◌, inl, inr, ⊎_elim}
use native.Mathlib.Nat.{eq-or-lt_of_le}
use native.Mathlib.Omega.{arith}
use borrow.Author.Tests.{lt-ltb, le-ltb, ltb-true, ltb-false, leb-true, eqb-true}
use lib.Dec.{ltb, leb, eqb}
use lib.ListN.{length, get_or, set, replicate, length-set, get_or-eq_default}
use lib.Seq.{get_or-set_same, get_or-set_other}
use Rattle.rows.specs.Pick.{pick, and, not}
use Rattle.rows.specs.Format.{most_links, field_count, letter_of, rule_of}
use Rattle.rows.specs.Ranges.{Within, Linked, AtomNums, ContextNums, FusionNums, MarkNums, HeadNums}
use Rattle.rows.specs.Row.{Field, malformed, holds, misplaced_in, is_nil, field_of, needed, suits, row_with, judged, fields_of, row_of}
use Rattle.rows.specs.declared.row.Rule.{Rule}
use Rattle.rows.specs.declared.row.Row.{Row}
use Rattle.rows.proofs.RowLaws.{columns, letter-small, row-strange}

-- Field f of a row with this count holds n as the rule asks: within its range where a number is
-- needed, and 0, for nothing, elsewhere.
abbrev pub SuitedBy : Rule → ℕ → ℕ → ℕ → Type 0
SuitedBy rule f count n = ((needed rule f count ≡ true) × (rule.low ≤ n) × (n ≤ rule.high)) ⊎ ((needed rule f count ≡ false) × (n ≡ 0))

abbrev pub Suited : Row → ℕ → Type 0
Suited r f = SuitedBy (rule_of r.letter f) f (get_or r.nums 1 0) (get_or r.nums f 0)

-- Columns that hold nothing leave the number as it was.
pub nothing_read : (filled : Bool) (n : ℕ) (t : List ℕ) (m : ℕ) → field_of filled n t ≡ holds false m → (filled ≡ false) × (m ≡ n)
unfolding field_of
nothing_read filled n [] m e = (cc, cc)
nothing_read filled n (b ∷ t) m e =
    go (misplaced_in b filled (is_nil t)) (eqb b 32) e (nothing_read filled n t m) (nothing_read true (n * 10 + (b - 48)) t m)
  where
    go : (bad space : Bool) → pick bad malformed (pick space (field_of filled n t) (field_of true (n * 10 + (b - 48)) t)) ≡ holds false m
        → (field_of filled n t ≡ holds false m → (filled ≡ false) × (m ≡ n))
        → (field_of true (n * 10 + (b - 48)) t ≡ holds false m → (true ≡ false) × (m ≡ n * 10 + (b - 48)))
        → (filled ≡ false) × (m ≡ n)
    go true space q ih jh = absurd (let z : ◌≡◌ {A = ℕ} 0 1 = cc in omega arith)
    go false true q ih jh = ih q
    go false false q ih jh = absurd (true≢false (jh q).0)

-- A number, or its absence, that the rule takes is as it asks.
pub suited : (rule : Rule) (f count : ℕ) (filled : Bool) (n : ℕ) → (filled ≡ false → n ≡ 0) → suits rule f count filled n ≡ true → SuitedBy rule f count n
unfolding suits
suited rule f count filled n zeroed e =
    ⊎_elim (λ w. inl (w.0, leb-true _ _ w.1, leb-true _ _ w.2)) (λ w. inr (w.0, zeroed w.1))
    (judge (needed rule f count) filled (leb rule.low n) (leb n rule.high) e)
  where
    judge : (b c low high : Bool) → pick b (and c (and low high)) (not c) ≡ true → ((b ≡ true) × (low ≡ true) × (high ≡ true)) ⊎ ((b ≡ false) × (c ≡ false))
    judge true true true true q = inl (refl, refl, refl)
    judge true true true false q = absurd (false≢true q)
    judge true true false high q = absurd (false≢true q)
    judge true false low high q = absurd (false≢true q)
    judge false true low high q = absurd (false≢true q)
    judge false false low high q = inr (refl, refl)

pub le-or-lt : (a b : ℕ) → (a ≤ b) ⊎ (b < a)
le-or-lt a b = go (ltb b a) refl
  where
    go : (t : Bool) → ltb b a ≡ t → (a ≤ b) ⊎ (b < a)
    go true e = inr (ltb-true b a e)
    go false e = inl (ltb-false b a e)

-- The first two fields are not counted, so the row's count does not matter to them.
uncounted : (letter : ℕ) → ((rule_of letter 0).counted ≡ false) × ((rule_of letter 1).counted ≡ false)
unfolding rule_of
uncounted zero = (refl, refl)
uncounted (suc zero) = (refl, refl)
uncounted (suc (suc zero)) = (refl, refl)
uncounted (suc (suc (suc zero))) = (refl, refl)
uncounted (suc (suc (suc (suc zero)))) = (refl, refl)
uncounted (suc (suc (suc (suc (suc k))))) = (refl, refl)

early : (letter f : ℕ) → f < 2 → (rule_of letter f).counted ≡ false
early letter zero h = (uncounted letter).0
early letter (suc zero) h = (uncounted letter).1
early letter (suc (suc f)) h = absurd (omega arith)

pub early-needed : (letter f count : ℕ) → f < 2 → needed (rule_of letter f) f count ≡ (rule_of letter f).filled
early-needed letter f count h = rw (early letter f h)

other-count : (rule : Rule) (f c d n : ℕ) → needed rule f c ≡ needed rule f d → SuitedBy rule f c n → SuitedBy rule f d n
other-count rule f c d n e = ⊎_elim (λ w. inl (sym e ∙ w.0, w.1, w.2)) (λ w. inr (sym e ∙ w.0, w.1))

-- The fields before f hold what they should.
abbrev Done : ℕ → List ℕ → ℕ → Type 0
Done letter nums f = (k : ℕ) → k < f → SuitedBy (rule_of letter k) k (get_or nums 1 0) (get_or nums k 0)

module _ (letter : ℕ) (nums : List ℕ) (f n : ℕ) (h : f < length nums) (before : Done letter nums f)
    (here : SuitedBy (rule_of letter f) f (get_or nums 1 0) n) where
  stored : (k : ℕ) → k ≤ f → SuitedBy (rule_of letter k) k (get_or nums 1 0) (get_or (set nums f n) k 0)
  stored k l = ⊎_elim
      (λ e. rw e (rw (get_or-set_same nums f n 0 h) here))
      (λ q. rw (get_or-set_other nums f k n 0 (λ e. omega arith)) (before k q))
      (eq-or-lt_of_le l)

  done_more : Done letter (set nums f n) (f + 1)
  done_more k l = ⊎_elim
      (λ q. rw (get_or-set_other nums f 1 n 0 (λ e. omega arith)) (stored k (omega arith)))
      (λ q. other-count (rule_of letter k) k (get_or nums 1 0) _ _ (early-needed letter k _ q ∙ sym (early-needed letter k _ q)) (stored k (omega arith)))
      (le-or-lt 2 k)

-- What is known of every row, and of a good one.
record Reading (letter : ℕ) (r : Row) : Type 0 where
  place : r.letter ≡ letter
  width : length r.nums ≡ field_count
  fields : r.good ≡ true → Done letter r.nums field_count

fields-reading : (s : List ℕ) (letter f : ℕ) (nums : List ℕ) (left : ℕ) → length nums ≡ field_count → f + left ≡ field_count → Done letter nums f → Reading letter (fields_of s letter f nums left)
unfolding fields_of judged
fields-reading s letter f nums zero w e d = record { place = refl; width = w; fields = λ g k l. d k (omega arith) }
fields-reading s letter f nums (suc left) w e d = go (field_of false 0 (columns s (f * 4 + 1))) refl
    (λ n h. fields-reading s letter (f + 1) (set nums f n) left (simp length-set w) (omega arith) (done_more letter nums f n (omega arith) d h))
  where
    bad : Reading letter (row_with letter false nums)
    bad = record { place = refl; width = w; fields = λ g. absurd (false≢true g) }

    go : (c : Field) → field_of false 0 (columns s (f * 4 + 1)) ≡ c
        → ((n : ℕ) → SuitedBy (rule_of letter f) f (get_or nums 1 0) n → Reading letter (fields_of s letter (f + 1) (set nums f n) left))
        → Reading letter (judged letter f nums (λ n. fields_of s letter (f + 1) (set nums f n) left) c)
    go malformed q ih = bad
    go (holds filled n) q ih = held (suits (rule_of letter f) f (get_or nums 1 0) filled n) refl
      where
        held : (b : Bool) → suits (rule_of letter f) f (get_or nums 1 0) filled n ≡ b
            → Reading letter (pick b (fields_of s letter (f + 1) (set nums f n) left) (row_with letter false nums))
        held true t = ih n (suited (rule_of letter f) f (get_or nums 1 0) filled n (λ z. (nothing_read false 0 (columns s (f * 4 + 1)) n (q ∙ ap (λ (c : Bool). holds c n) z)).1) t)
        held false t = bad

row-reading : (s : List ℕ) → Reading (letter_of (get_or s 0 0)) (row_of s)
unfolding row_of
row-reading s = go (eqb (letter_of (get_or s 0 0)) 5) refl
  where
    go : (b : Bool) → eqb (letter_of (get_or s 0 0)) 5 ≡ b
        → Reading (letter_of (get_or s 0 0)) (pick b (row_with 5 false (replicate field_count 0)) (fields_of s (letter_of (get_or s 0 0)) 0 (replicate field_count 0) field_count))
    go true e = record { place = sym (eqb-true _ 5 e); width = refl; fields = λ g. absurd (false≢true g) }
    go false e = fields-reading s (letter_of (get_or s 0 0)) 0 (replicate field_count 0) field_count refl refl (λ k l. absurd (omega arith))

-- Of every row: its letter's place, and how many numbers it has.
pub row-letter : (s : List ℕ) → (row_of s).letter ≡ letter_of (get_or s 0 0)
row-letter s = (row-reading s).place

pub row-length : (s : List ℕ) → length (row_of s).nums ≡ field_count
row-length s = (row-reading s).width

-- Atoms and contexts have one rule for their counts and their links.
pub alike : (letter : ℕ) → letter < 2 → (rule_of letter 1 ≡ rule_of 0 1) × (rule_of letter 2 ≡ rule_of 0 2)
unfolding rule_of
alike zero h = (refl, refl)
alike (suc zero) h = (refl, refl)
alike (suc (suc k)) h = absurd (omega arith)

-- Every field from the third on has the third one's rule.
all_one : (rule : Rule) (k : ℕ) → k < most_links → (d : Rule) → get_or (rule ∷ rule ∷ rule ∷ rule ∷ rule ∷ rule ∷ []) k d ≡ rule
all_one rule zero h d = refl
all_one rule (suc zero) h d = refl
all_one rule (suc (suc zero)) h d = refl
all_one rule (suc (suc (suc zero))) h d = refl
all_one rule (suc (suc (suc (suc zero)))) h d = refl
all_one rule (suc (suc (suc (suc (suc zero))))) h d = refl
all_one rule (suc (suc (suc (suc (suc (suc k)))))) h d = absurd (omega arith)

pub later : (letter k : ℕ) → k < most_links → rule_of letter (suc (suc k)) ≡ rule_of letter 2
unfolding rule_of
later zero k h = all_one (rule_of 0 2) k h _
later (suc zero) k h = all_one (rule_of 1 2) k h _
later (suc (suc zero)) k h = all_one (rule_of 2 2) k h _
later (suc (suc (suc zero))) k h = all_one (rule_of 3 2) k h _
later (suc (suc (suc (suc zero)))) k h = all_one (rule_of 4 2) k h _
later (suc (suc (suc (suc (suc letter))))) k h = refl

-- Of a good row.
module _ (s : List ℕ) (good : (row_of s).good ≡ true) where
  pub good-letter : (row_of s).letter < 5
  good-letter = rw (row-letter s) (letter-small _ (λ e. false≢true (sym (ap (λ (r : Row). r.good) (row-strange s 5 (sym e) refl)) ∙ good)))

  pub good-field : (f : ℕ) → f < field_count → Suited (row_of s) f
  good-field f h = rw (row-letter s) ((row-reading s).fields good f h)

  within : (f : ℕ) → f < field_count → (rule : Rule) → rule_of (row_of s).letter f ≡ rule → needed rule f (get_or (row_of s).nums 1 0) ≡ true
      → Within rule.low (get_or (row_of s).nums f 0) rule.high
  within f h rule e t = ⊎_elim (λ w. (w.1, w.2)) (λ w. absurd (true≢false (sym t ∙ w.0))) (rw e at (good-field f h))

  idle : (f : ℕ) → f < field_count → (rule : Rule) → rule_of (row_of s).letter f ≡ rule → needed rule f (get_or (row_of s).nums 1 0) ≡ false
      → get_or (row_of s).nums f 0 ≡ 0
  idle f h rule e t = ⊎_elim (λ w. absurd (true≢false (sym w.0 ∙ t))) (λ w. w.1) (rw e at (good-field f h))

  early-field : (letter f : ℕ) → f < 2 → (row_of s).letter ≡ letter → (rule_of letter f).filled ≡ true
      → Within (rule_of letter f).low (get_or (row_of s).nums f 0) (rule_of letter f).high
  early-field letter f h e t = within f (omega arith) (rule_of letter f) (rw e) (early-needed letter f _ h ∙ t)

  pub linked-range : (row_of s).letter < 2 → Linked (row_of s).nums
  unfolding rule_of
  linked-range h =
      let n = get_or (row_of s).nums 1 0 in
      let e = alike (row_of s).letter h in
      let most = (within 1 (omega arith) (rule_of 0 1) e.0 refl).1 in
      let port : (k : ℕ) → k < most_links → rule_of (row_of s).letter (2 + k) ≡ rule_of 0 2 = λ k q. ap (rule_of (row_of s).letter) (omega arith) ∙ later (row_of s).letter k q ∙ e.1 in
      record {
        count = most;
        used = λ k l. within (2 + k) (omega arith) (rule_of 0 2) (port k (omega (arith, most))) (lt-ltb (2 + k) (2 + n) (omega arith));
        unused = λ k l. ⊎_elim
            (λ (q : most_links ≤ k). get_or-eq_default (row_of s).nums 0 (rw (row-length s) (omega arith)))
            (λ (q : k < most_links). idle (2 + k) (omega arith) (rule_of 0 2) (port k q) (le-ltb (2 + k) (2 + n) (omega arith)))
            (le-or-lt most_links k);
      }

  pub atom-range : (row_of s).letter ≡ 0 → AtomNums (row_of s).nums
  unfolding rule_of
  atom-range e = record { name = early-field 0 0 (omega arith) e refl; links = linked-range (omega arith) }

  pub context-range : (row_of s).letter ≡ 1 → ContextNums (row_of s).nums
  unfolding rule_of
  context-range e = record { number = early-field 1 0 (omega arith) e refl; links = linked-range (omega arith) }

  pub fusion-range : (row_of s).letter ≡ 2 → FusionNums (row_of s).nums
  unfolding rule_of
  fusion-range e = record { first = early-field 2 0 (omega arith) e refl; second = early-field 2 1 (omega arith) e refl }

  pub mark-range : (row_of s).letter ≡ 3 → MarkNums (row_of s).nums
  unfolding rule_of
  mark-range e = record { link = early-field 3 0 (omega arith) e refl; mark = early-field 3 1 (omega arith) e refl }

  pub head-range : (row_of s).letter ≡ 4 → HeadNums (row_of s).nums
  unfolding rule_of
  head-range e = record { number = early-field 4 0 (omega arith) e refl; count = (early-field 4 1 (omega arith) e refl).1 }
