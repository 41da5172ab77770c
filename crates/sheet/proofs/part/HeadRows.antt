-- The rows of a list of fillings that passes, by its heads: from the first head with a number on stands that blank's filling.
use Prim.Native.Nat.{ℕ, zero, suc, ◌+◌, ◌-◌, ◌*◌, ◌<◌, ◌≤◌}
use mathlib.Core.Path.{◌≡◌, refl, ◌∙◌, sym, ap}
use mathlib.Core.List.{List, [], ◌∷◌, ◌++◌}
use mathlib.Core.Bool.{Bool, true, false, true≢false}
use native.Mathlib.Numerals.{add-one}
use native.Mathlib.Omega.{arith}
use native.Mathlib.Nat.{add-zero}
use lib.Dec.{eqb, ltb}
use lib.ListN.{length, get_or, drop, take, drop_of_length-le}
use lib.Seq.{drop-cons, get_or-drop, get_or-take}
use borrow.Author.Tests.{eq-eqb, ne_eqb, ltb-true, ltb-false}
use Rattle.rows.specs.Pick.{pick}
use Rattle.rows.specs.Format.{row_width, atom_letter, context_letter, fusion_letter, edge_letter, head_letter, no_letter, letter_of}
use Rattle.rows.specs.Limits.{row_limit, context_room, figure_contexts}
use Rattle.rows.specs.Held.{Held, nothing, context_of, with_atom, with_context, with_fusion_row, with_edge_row, with_head, with_row}
use Rattle.rows.specs.Packed.{no_context}
use Rattle.rows.specs.declared.Context.{Context}
use Rattle.rows.proofs.RowRange.{row-letter, good-letter}
use Rattle.rows.proofs.Padding.{get_d-padded}
use Rattle.linking.proofs.Wired.{row_by}
use Rattle.sheet.specs.Filling.{head_byte, is_passed, Passes, HeadsRead, from_head}
use Rattle.sheet.specs.Reading.{Verdict, taken, refused, first_of, tests, Outcome, settled, outcome_of, no_ports}
use Rattle.sheet.specs.declared.kind.Kind.TheVariants.{Fillings}
use Rattle.sheet.specs.HeldLimits.{Every}
use Rattle.sheet.proofs.read.Every.{every_one, every-at}
use Rattle.sheet.proofs.read.HeldLimits.{context-figure, held-within}
use Rattle.sheet.proofs.read.Taken.{row_at, Taken, tests-none}
use Rattle.sheet.proofs.read.Walk.{Read, read-start, read-end, opened, row_fits, read_next}
use Rattle.sheet.proofs.part.FillingLaws.{head-none, head-row, head-other}

-- Only the byte H is read as the letter of a head.
pub other-letter : (b : ℕ) → eqb b head_byte ≡ false → letter_of b ≡ head_letter → ⊥
unfolding letter_of
other-letter b e = rw e (go (eqb b 83) (eqb b 66) (eqb b 70) (eqb b 69))
  where
    go : (p q r s : Bool) → ◌≡◌ {A = ℕ} (pick p atom_letter (pick q context_letter (pick r fusion_letter (pick s edge_letter no_letter)))) head_letter → ⊥
    go true q r s k = omega arith
    go false true r s k = omega arith
    go false false true s k = omega arith
    go false false false true k = omega arith
    go false false false false k = omega arith

-- The list from the row of the first head with this number on; `rest` where no head has it.
unfoldable pub from_first : List Context → ℕ → List ℕ → List ℕ → List ℕ
from_first [] number list rest = rest
from_first (c ∷ l) number list rest = pick (eqb c.number number) (drop ((c.row - 1) * row_width) list) (from_first l number list rest)

first_one : (l : List Context) (c : Context) (number : ℕ) (list rest : List ℕ)
    → from_first (l ++ (c ∷ [])) number list rest ≡ from_first l number list (pick (eqb c.number number) (drop ((c.row - 1) * row_width) list) rest)
unfolding from_first
first_one [] c number list rest = refl
first_one (x ∷ l) c number list rest = rw (first_one l c number list rest)

-- The row of a head is a row of the list.
abbrev pub Inside : List ℕ → Context → Type 0
Inside list c = (1 ≤ c.row) × (c.row * row_width ≤ length list)

-- Heads by whose rows a search finds what the walk over the list finds, where the search goes on with `rest` after them.
abbrev pub Found : List ℕ → ℕ → List Context → List ℕ → Type 0
Found list number heads rest = Every (Inside list) heads × (from_head (length list) number list ≡ from_first heads number list rest)

-- The rows before `at`, k of them, are taken in and hold h.
record Walked (list : List ℕ) (number at k : ℕ) (h : Held) : Type 0 where
  read : Read Fillings no_ports list at k h
  few : k ≤ row_limit
  place : at ≡ k * row_width
  within : at ≤ length list
  found : Found list number h.contexts (from_head (length list) number (drop at list))

walked_start : (list : List ℕ) (number : ℕ) → Walked list number 0 0 nothing
unfolding from_first
walked_start list number = record { read = read-start Fillings no_ports list; few = omega arith; place = refl; within = omega arith; found = (tt, refl) }

module _ (list : List ℕ) (passes : Passes list) (number at k : ℕ) (h : Held) (w : Walked list number at k h) where
  module _ (more : at < length list) where
    none : first_of (tests Fillings no_ports h (drop at list)) ≡ taken
    none = go (first_of (tests Fillings no_ports h (drop at list))) _ (opened Fillings no_ports list at k h w.read more w.few _ refl)
      where
        go : (v : Verdict) (next : Outcome) → outcome_of Fillings no_ports list ≡ settled v h next → v ≡ taken
        go taken next e = refl
        go (refused why) next e = absurd (true≢false (sym passes ∙ ap (λ (o : Outcome). is_passed o.answer) e))

    row : Taken Fillings no_ports h (drop at list)
    row = tests-none Fillings no_ports h (drop at list) none

    fits : (at + row_width ≤ length list) × (k + 1 ≤ row_limit)
    fits = row_fits Fillings no_ports list at k h w.read more w.few none

    letter : (row_at (drop at list)).letter ≡ letter_of (get_or list at 0)
    letter =
        row-letter (take row_width (drop at list))
        ∙ ap letter_of (get_or-take row_width (drop at list) 0 0 (omega arith) ∙ get_or-drop at list 0 0 ∙ ap (λ (i : ℕ). get_or list i 0) (add-zero at))

    -- a row that is no head adds none
    passed-by : (row_at (drop at list)).letter < head_letter → Found list number h.contexts (from_head (length list) number (drop (at + row_width) list))
    unfolding letter_of
    passed-by l =
        let other : get_or list at 0 ≡ head_byte → ⊥ = λ e. omega (arith, letter ∙ ap letter_of e) in
        (w.found.0, w.found.1 ∙ ap (from_first h.contexts number list) (head-other list at (omega (arith, fits.0)) number other))

    -- a head is the last of those so far
    added : head_letter ≤ (row_at (drop at list)).letter
        → Found list number (h.contexts ++ (context_of (row_at (drop at list)).nums (h.rows + 1) ∷ [])) (from_head (length list) number (drop (at + row_width) list))
    added l =
        let c = context_of (row_at (drop at list)).nums (h.rows + 1) in
        let is : (row_at (drop at list)).letter ≡ head_letter = omega (arith, good-letter (take row_width (drop at list)) row.good) in
        let start : (h.rows + 1 - 1) * row_width ≡ at = omega (arith, w.read.rows, w.place) in
        let step = head-row list at (omega (arith, fits.0)) number true (eqb c.number number) (byte is (eqb (get_or list at 0) head_byte) refl) refl in (
          every_one (Inside list) h.contexts c w.found.0 (omega arith, omega (arith, w.read.rows, w.place, fits.0)),
          w.found.1 ∙ ap (from_first h.contexts number list) step
              ∙ sym (first_one h.contexts c number list (from_head (length list) number (drop (at + row_width) list)) ∙ rw start),
        )
      where
        byte : (row_at (drop at list)).letter ≡ head_letter → (b : Bool) → eqb (get_or list at 0) head_byte ≡ b → b ≡ true
        byte e true q = refl
        byte e false q = absurd (other-letter (get_or list at 0) q (sym letter ∙ e))

    walked_next : Walked list number (at + row_width) (k + 1) (with_row h (row_at (drop at list)))
    unfolding with_atom with_context with_fusion_row with_edge_row with_head
    walked_next =
        record {
          read = read_next Fillings no_ports list at k h w.read more w.few none;
          few = fits.1;
          place = omega (arith, w.place);
          within = fits.0;
          found = row_by h (row_at (drop at list)) (λ g. Found list number g.contexts (from_head (length list) number (drop (at + row_width) list)))
              (λ e. passed-by (omega arith))
              (λ e. absurd (true≢false (context-figure Fillings h.contexts (rw e at row.allowed))))
              (λ e. passed-by (omega arith))
              (λ e. passed-by (omega arith))
              (λ e. added (omega arith));
        }

  walked_end : length list ≤ at → Found list number (outcome_of Fillings no_ports list).held.contexts (drop (length list) list)
  walked_end e =
      let q = ap (λ (o : Outcome). o.held.contexts) (read-end Fillings no_ports list at k h w.read e) in
      rw (q, ← head-none list at (omega arith) number) w.found

-- A list that passes, whatever the number.
module _ (list : List ℕ) (passes : Passes list) (number : ℕ) where
  walk : (n at k : ℕ) (h : Held) → length list ≤ at + n → Walked list number at k h → Found list number (outcome_of Fillings no_ports list).held.contexts (drop (length list) list)
  walk zero at k h l w = walked_end list passes number at k h w (omega arith)
  walk (suc n) at k h l w = go (ltb at (length list)) refl (λ m. walk n (at + row_width) (k + 1) _ (omega arith) (walked_next list passes number at k h w m))
    where
      go : (b : Bool) → ltb at (length list) ≡ b
          → (at < length list → Found list number (outcome_of Fillings no_ports list).held.contexts (drop (length list) list))
          → Found list number (outcome_of Fillings no_ports list).held.contexts (drop (length list) list)
      go true e ih = ih (ltb-true _ _ e)
      go false e ih = walked_end list passes number at k h w (ltb-false _ _ e)

  pub heads-found : Found list number (outcome_of Fillings no_ports list).held.contexts (drop (length list) list)
  heads-found = walk (length list) 0 0 nothing (omega arith) (walked_start list number)

-- The heads of a list from i on.
abbrev pub heads_from : List ℕ → ℕ → List Context
heads_from list i = drop i (outcome_of Fillings no_ports list).held.contexts

-- What stands at a place of an array; past its end the logic reads zeros and an empty list.
abbrev pub head_at : List Context → ℕ → Context
head_at heads i = get_or heads i (record { number = 0; count = 0; links = []; row = 0 })

-- One turn of a search through the heads of a list, and its start and end.
module _ (list : List ℕ) (heads : List Context) (count : ℕ) (r : HeadsRead list heads count) where
  pub heads-few : count ≤ figure_contexts
  heads-few = omega (arith, r.count, (held-within Fillings no_ports list).contexts)

  pub search-start : (number : ℕ) → from_head (length list) number list ≡ from_first (heads_from list 0) number list (drop (length list) list)
  search-start number = (heads-found list r.passes number).1

  module _ (number i : ℕ) where
    pub search-end : count ≤ i → from_first (heads_from list i) number list (drop (length list) list) ≡ drop (length list) list
    unfolding from_first
    search-end h =
        let few : length (heads_from list 0) ≤ i = omega (arith, r.count) in
        rw (drop_of_length-le (heads_from list 0) few)

    module _ (less : i < count) where
      below : i < length (heads_from list 0)
      below = omega (arith, r.count)

      here : head_at heads i ≡ head_at (heads_from list 0) i
      here = rw r.contexts (get_d-padded context_room no_context (heads_from list 0) i _ below)

      pub search-inside : Inside list (head_at heads i)
      search-inside = rw here (every-at (Inside list) _ (heads_from list 0) (heads-found list r.passes number).0 i below)

      turn : (same : Bool) → eqb (head_at heads i).number number ≡ same → (rest : List ℕ)
          → from_first (heads_from list i) number list rest ≡ pick same (drop (((head_at heads i).row - 1) * row_width) list) (from_first (heads_from list (i + 1)) number list rest)
      unfolding from_first
      turn same e rest = rw (drop-cons (heads_from list 0) i (head_at [] 0) below, ← here, e, add-one)

      pub search-hit : (head_at heads i).number ≡ number → (rest : List ℕ) → from_first (heads_from list i) number list rest ≡ drop (((head_at heads i).row - 1) * row_width) list
      search-hit e = turn true (eq-eqb _ _ e)

      pub search-miss : ((head_at heads i).number ≡ number → ⊥) → (rest : List ℕ) → from_first (heads_from list i) number list rest ≡ from_first (heads_from list (i + 1)) number list rest
      search-miss n = turn false (ne_eqb _ _ n)
