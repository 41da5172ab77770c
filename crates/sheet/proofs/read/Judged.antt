-- The verdict on a row, from the tests before it is taken in and those after.
use Prim.Native.Nat.{ℕ, ◌+◌}
use mathlib.Core.Path.{◌≡◌, refl, ap, ◌∙◌, sym}
use mathlib.Core.List.{List, [], ◌∷◌, ◌++◌}
use mathlib.Core.Bool.{Bool, true, false, true≢false}
use lib.ListN.{length}
use Rattle.rows.specs.Pick.{pick}
use Rattle.rows.specs.Held.{Held, nothing, with_row}
use Rattle.rows.specs.TextArrays.{packed, TextArrays}
use Rattle.rows.specs.declared.row.Row.{Row}
use Rattle.rows.proofs.Bools.{not-false}
use Rattle.sheet.specs.Filling.{is_passed}
use Rattle.sheet.specs.Reading.{ragged, strange_by, strange, clashes, Verdict, taken, refused, first_of, early_tests, late_tests, tests, Outcome, settled}
use Rattle.sheet.specs.Steps.{answer_of, early_answer, whole_row, next_of}
use Rattle.sheet.specs.declared.judge.Next.{Next}
use Rattle.sheet.specs.declared.kind.Kind.{Kind}
use Rattle.sheet.specs.declared.answer.Answer.{Answer}
use Rattle.sheet.specs.declared.answer.Refusal.{Refusal}
use Rattle.sheet.proofs.read.Taken.{row_at, none_first}

abbrev is_taken : Verdict → Bool
is_taken taken = true
is_taken (refused why) = false

-- tests of which the first ones refuse, or none of them
module _ (b : List (Bool × Refusal)) where
  pub first-refused : (a : List (Bool × Refusal)) (why : Refusal) → first_of a ≡ refused why → first_of (a ++ b) ≡ refused why
  unfolding first_of
  first-refused [] why e = absurd (true≢false (ap is_taken e))
  first-refused (t ∷ a) why e = go t.0 e (first-refused a why)
    where
      go : (c : Bool) → pick c (refused t.1) (first_of a) ≡ refused why → (first_of a ≡ refused why → first_of (a ++ b) ≡ refused why)
          → pick c (refused t.1) (first_of (a ++ b)) ≡ refused why
      go true q ih = q
      go false q ih = ih q

  pub first_taken : (a : List (Bool × Refusal)) → first_of a ≡ taken → first_of (a ++ b) ≡ first_of b
  unfolding first_of
  first_taken [] e = refl
  first_taken (t ∷ a) e = let q = none_first t a e in rw q.0 (first_taken a q.1)

-- an answer says which verdict it is
pub answer-taken : (v : Verdict) (n : ℕ) → is_passed (answer_of v n) ≡ true → v ≡ taken
answer-taken taken n e = refl
answer-taken (refused why) n e = absurd (true≢false (sym e))

pub answer-refused : (u v : Verdict) (h : Held) (o : Outcome) (x : Answer) (n : ℕ) → x ≡ answer_of v n → is_passed x ≡ false → n ≡ h.rows + 1
    → ((why : Refusal) → v ≡ refused why → u ≡ refused why) → settled u h o ≡ record { answer = x; held = nothing }
answer-refused u taken h o x n e p r f = absurd (true≢false (sym (ap is_passed e) ∙ p))
answer-refused u (refused why) h o x n e p r f = rw (f why refl) (rw e (rw r))

module _ (kind : Kind) (pattern : List ℕ) (h : Held) (text : List ℕ) where
  -- the definition's tests before and after the row is taken in
  abbrev before : List (Bool × Refusal)
  before = early_tests kind h.rows (ragged text) (strange kind h.contexts (row_at text).letter) (row_at text)

  abbrev after : List (Bool × Refusal)
  after =
      let g = with_row h (row_at text) in
      late_tests kind (length g.atoms) (length g.contexts) (length g.wiring.links) (length g.wiring.marks) (clashes kind pattern h.contexts (row_at text))

  module _ (heads k : ℕ) (ek : h.rows ≡ k) (eh : heads ≡ length h.contexts) where
    abbrev early : List (Bool × Refusal)
    early = early_tests kind k (ragged text) (strange_by kind (row_at text).letter heads) (row_at text)

    same : first_of before ≡ first_of early
    unfolding strange
    same = rw ek (rw eh)

    pub early-refused : (why : Refusal) → first_of early ≡ refused why → first_of (tests kind pattern h text) ≡ refused why
    early-refused why e = first-refused after before why (same ∙ e)

    pub late-verdict : first_of early ≡ taken → (t : TextArrays) (clash : Bool) → t ≡ packed (with_row h (row_at text)) → clash ≡ clashes kind pattern h.contexts (row_at text)
        → first_of (tests kind pattern h text) ≡ first_of (late_tests kind t.atom_count t.context_count t.link_count t.mark_count clash)
    late-verdict p t clash et ecl = first_taken after before (same ∙ p) ∙ rw et (rw ecl)

-- of the tests before a row is taken in
module _ (kind : Kind) (k : ℕ) (cut odd : Bool) (r : Row) (p : first_of (early_tests kind k cut odd r) ≡ taken) where
  pub early-whole : cut ≡ false
  early-whole = (none_first _ _ (none_first _ _ p).1).0

  pub early-good : r.good ≡ true
  early-good = not-false _ (none_first _ _ (none_first _ _ (none_first _ _ (none_first _ _ p).1).1).1).0

-- the row that the code has is asked only where it is whole
pub early-same : (kind : Kind) (heads k : ℕ) (text : List ℕ) (cut : Bool) (r : Row) → cut ≡ ragged text → (cut ≡ false → r ≡ row_at text)
    → first_of (early_tests kind k cut (strange_by kind r.letter heads) r) ≡ first_of (early_tests kind k (ragged text) (strange_by kind (row_at text).letter heads) (row_at text))
unfolding first_of
early-same kind heads k text cut r ec = rw (← ec) (go cut)
  where
    go : (c : Bool) → (c ≡ false → r ≡ row_at text)
        → first_of (early_tests kind k c (strange_by kind r.letter heads) r) ≡ first_of (early_tests kind k c (strange_by kind (row_at text).letter heads) (row_at text))
    go true f = refl
    go false f = rw (f refl)

-- the row and the answer that the code has are the next ones
pub next-made : (kind : Kind) (heads k : ℕ) (text : List ℕ) (cut : Bool) (r : Row) (x : Answer) → cut ≡ ragged text → r ≡ whole_row cut text → x ≡ early_answer kind heads k cut r
    → ◌≡◌ {A = Next} (record { answer = x; row = r }) (next_of kind heads k text)
next-made kind heads k text cut r x ec er ex =
    let a : x ≡ early_answer kind heads k (ragged text) (row_at text) =
    ex ∙ ap (λ (v : Verdict). answer_of v (k + 1)) (early-same kind heads k text cut r ec (λ e. er ∙ ap (λ (b : Bool). whole_row b text) e)) in
    let b : r ≡ whole_row (ragged text) text = er ∙ ap (λ (b : Bool). whole_row b text) ec in
    rw a (rw b)
