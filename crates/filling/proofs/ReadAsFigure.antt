-- A text that passes as a pattern, or as a replacement, passes as a figure, and holds the same.
use Prim.Native.Nat.{ℕ, zero, suc, ◌+◌}
use mathlib.Core.Path.{◌≡◌, refl}
use mathlib.Core.List.{List}
use mathlib.Core.Bool.{Bool, true, false}
use native.Mathlib.Omega.{arith}
use lib.Dec.{eqb, leb}
use lib.ListN.{length, drop, get_or}
use Rattle.rows.specs.Pick.{pick, and, or, not}
use Rattle.rows.specs.Format.{row_width, context_letter, head_letter}
use Rattle.rows.specs.Limits.{row_limit}
use Rattle.rows.specs.Held.{Held, nothing, with_row}
use Rattle.rows.specs.Packed.{ports_of}
use Rattle.rows.specs.declared.Context.{Context}
use Rattle.sheet.specs.Reading.{strange, clash_of, clashes, last_number, Verdict, taken, refused, first_of, tests, passed, settled, read_from, outcome_of, no_ports}
use Rattle.sheet.specs.declared.kind.Kind.{Kind}
use Rattle.sheet.specs.declared.kind.Kind.TheVariants.{Pattern, Figure, Replacement}
use Rattle.sheet.specs.declared.answer.Answer.TheVariants.{Passed}
use Rattle.sheet.proofs.kind.KindLaws.{rows-limit}
use Rattle.sheet.proofs.read.Taken.{row_at, Taken, tests-none, none-tests}

-- Where each row that is taken in would be taken in as a row of a figure.
module _ (kind : Kind) (given : List ℕ) (row : (h : Held) (text : List ℕ) → Taken kind given h text → Taken Figure no_ports h text) where
  read-figure : (n : ℕ) (h : Held) (text : List ℕ) → (read_from n kind given h text).answer ≡ Passed → read_from n Figure no_ports h text ≡ read_from n kind given h text
  unfolding read_from
  read-figure zero h text e = refl
  read-figure (suc n) h text e = go (eqb (length text) 0) (first_of (tests kind given h text)) refl e (read-figure n (with_row h (row_at text)) (drop row_width text))
    where
      go : (b : Bool) (v : Verdict) → first_of (tests kind given h text) ≡ v
          → (pick b (passed h) (settled v h (read_from n kind given (with_row h (row_at text)) (drop row_width text)))).answer ≡ Passed
          → ((read_from n kind given (with_row h (row_at text)) (drop row_width text)).answer ≡ Passed
          → read_from n Figure no_ports (with_row h (row_at text)) (drop row_width text) ≡ read_from n kind given (with_row h (row_at text)) (drop row_width text))
          → pick b (passed h) (settled (first_of (tests Figure no_ports h text)) h (read_from n Figure no_ports (with_row h (row_at text)) (drop row_width text)))
          ≡ pick b (passed h) (settled v h (read_from n kind given (with_row h (row_at text)) (drop row_width text)))
      go true v q e ih = refl
      go false taken q e ih = rw (none-tests Figure no_ports h text (row h text (tests-none kind given h text q))) (ih e)
      go false (refused why) q e ih = absurd (let z : ◌≡◌ {A = ℕ} 0 1 = cc in omega arith)

  as-figure : (text : List ℕ) → (outcome_of kind given text).answer ≡ Passed → outcome_of Figure no_ports text ≡ outcome_of kind given text
  unfolding outcome_of
  as-figure text e = rw (rows-limit kind) (read-figure (row_limit + 1) nothing text (rw (rows-limit kind) at e))

-- Where no earlier B row has the number, none has it with another port count.
pattern-agrees : (contexts : List Context) (text : List ℕ) → clashes Pattern no_ports contexts (row_at text) ≡ false → clashes Figure no_ports contexts (row_at text) ≡ false
unfolding clashes clash_of
pattern-agrees contexts text e =
    let k = get_or (row_at text).nums 0 0 in
    go (eqb (row_at text).letter head_letter) (eqb (row_at text).letter context_letter) (leb k (last_number contexts)) (eqb (ports_of contexts k) 0) (not (eqb (ports_of contexts k) (suc (get_or (row_at text).nums 1 0)))) e
  where
    go : (h b l a c : Bool) → pick h l (pick b (not a) false) ≡ false → pick h l (pick b (and (not a) c) false) ≡ false
    go true b l a c q = q
    go false true l true c q = refl
    go false true l false c q = absurd (let z : ◌≡◌ {A = ℕ} 0 1 = cc in omega arith)
    go false false l a c q = refl

replacement-agrees : (given : List ℕ) (contexts : List Context) (text : List ℕ) → clashes Replacement given contexts (row_at text) ≡ false → clashes Figure no_ports contexts (row_at text) ≡ false
unfolding clashes clash_of
replacement-agrees given contexts text e =
    let k = get_or (row_at text).nums 0 0 in
    let n = suc (get_or (row_at text).nums 1 0) in
    go (eqb (row_at text).letter head_letter) (eqb (row_at text).letter context_letter) (leb k (last_number contexts)) (and (not (eqb (ports_of contexts k) 0)) (not (eqb (ports_of contexts k) n))) (not (eqb (get_or given k 0) n)) e
  where
    go : (h b l a c : Bool) → pick h l (pick b (or a c) false) ≡ false → pick h l (pick b a false) ≡ false
    go true b l a c q = q
    go false true l true c q = q
    go false true l false c q = refl
    go false false l a c q = refl

pub pattern-figure : (text : List ℕ) → (outcome_of Pattern no_ports text).answer ≡ Passed → outcome_of Figure no_ports text ≡ outcome_of Pattern no_ports text
unfolding strange
pattern-figure = as-figure Pattern no_ports row
  where
    row : (h : Held) (text : List ℕ) → Taken Pattern no_ports h text → Taken Figure no_ports h text
    row h text t =
        record {
          rows = t.rows;
          whole = t.whole;
          allowed = t.allowed;
          good = t.good;
          atoms = t.atoms;
          contexts = t.contexts;
          links = t.links;
          marks = t.marks;
          agrees = pattern-agrees h.contexts text t.agrees;
        }

pub replacement-figure : (given text : List ℕ) → (outcome_of Replacement given text).answer ≡ Passed → outcome_of Figure no_ports text ≡ outcome_of Replacement given text
unfolding strange
replacement-figure given = as-figure Replacement given row
  where
    row : (h : Held) (text : List ℕ) → Taken Replacement given h text → Taken Figure no_ports h text
    row h text t =
        record {
          rows = t.rows;
          whole = t.whole;
          allowed = t.allowed;
          good = t.good;
          atoms = t.atoms;
          contexts = t.contexts;
          links = t.links;
          marks = t.marks;
          agrees = replacement-agrees given h.contexts text t.agrees;
        }
