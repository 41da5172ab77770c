-- The part of a list that is one filling has one H row at most.
use Prim.Native.Nat.{ℕ, zero, suc, ◌+◌, ◌≤◌}
use mathlib.Core.Path.{◌≡◌, refl, ap, sym, ◌∙◌}
use mathlib.Core.List.{List, [], ◌++◌, append-nil}
use mathlib.Core.Bool.{Bool, true, false}
use native.Mathlib.Omega.{arith}
use native.Mathlib.Decide.{dec_le}
use borrow.Author.Tests.{ltb-false}
use lib.Dec.{eqb, ltb}
use lib.ListN.{length, get_or, take, drop, length-append, length-take, drop_of_length-le, get_or-append}
use lib.Seq.{drop-append-le, length-take-le, get_or-take}
use Rattle.rows.specs.Pick.{pick}
use Rattle.rows.specs.Format.{row_width, head_letter, letter_of}
use Rattle.rows.specs.Limits.{row_limit}
use Rattle.rows.specs.Held.{Held, nothing, with_row, with_atom, with_context, with_fusion_row, with_edge_row, with_head}
use Rattle.rows.proofs.RowRange.{good-letter, row-letter}
use Rattle.linking.proofs.Wired.{row_by}
use Rattle.sheet.specs.Filling.{head_first, from_head, before_head, first_filling, is_passed, filling_of}
use Rattle.sheet.specs.Reading.{Verdict, taken, refused, first_of, tests, passed, settled, read_from, outcome_of, no_ports}
use Rattle.sheet.specs.declared.kind.Kind.TheVariants.{Fillings}
use Rattle.sheet.proofs.read.ReadingLaws.{read_none}
use Rattle.sheet.proofs.read.Taken.{row_at, Taken, tests-none}
use Rattle.texts.proofs.OneFilling.{headless-row}
use Rattle.filling.specs.Read.{part_held}
use Rattle.sheet.proofs.part.FillingLaws.{before-nil}
use Rattle.sheet.proofs.part.HeadRows.{other-letter}

-- The H rows of what is read from a text on, when the rest of the text after its first row adds none.
abbrev heads_read : ℕ → Held → List ℕ → ℕ
heads_read n h text = length (read_from n Fillings no_ports h text).held.contexts

row-heads : (h : Held) (text : List ℕ) → length (with_row h (row_at text)).contexts ≤ length h.contexts + 1
unfolding with_atom with_context with_fusion_row with_edge_row with_head
row-heads h text = row_by h (row_at text) (λ g. length g.contexts ≤ length h.contexts + 1) (λ z. omega arith) (λ z. simp length-append (omega arith)) (λ z. omega arith) (λ z. omega arith) (λ z. simp length-append (omega arith))

first-row : (n m : ℕ) (h : Held) (text : List ℕ) → length h.contexts ≤ m → (Taken Fillings no_ports h text → length (with_row h (row_at text)).contexts ≤ m)
    → ((g : Held) → heads_read n g (drop row_width text) ≤ length g.contexts) → heads_read (suc n) h text ≤ m
unfolding read_from
first-row n m h text few row rest = go (eqb (length text) 0) (first_of (tests Fillings no_ports h text)) refl
  where
    go : (b : Bool) (v : Verdict) → first_of (tests Fillings no_ports h text) ≡ v
        → length (pick b (passed h) (settled v h (read_from n Fillings no_ports (with_row h (row_at text)) (drop row_width text)))).held.contexts ≤ m
    go true v e = few
    go false taken e = let r = row (tests-none Fillings no_ports h text e) in let s = rest (with_row h (row_at text)) in omega arith
    go false (refused why) e = omega arith

row-gone : (text : List ℕ) → drop row_width (take row_width text) ≡ []
row-gone text = let b : length (take row_width text) ≤ row_width = omega (arith, length-take row_width text) in drop_of_length-le (take row_width text) b

-- Rows before the next H row add none.
no-heads : (n m : ℕ) (h : Held) (t : List ℕ) → heads_read n h (before_head m t) ≤ length h.contexts
unfolding before_head read_from
no-heads zero m h t = omega arith
no-heads (suc n) zero h t = omega arith
no-heads (suc n) (suc m) h t = by (ltb (length t) row_width) (head_first t) refl refl (λ g. no-heads n m g (drop row_width t))
  where
    none : heads_read (suc n) h [] ≤ length h.contexts
    none = omega arith

    row : row_width ≤ length t → head_first t ≡ false → (text : List ℕ) → text ≡ take row_width t ++ before_head m (drop row_width t) → Taken Fillings no_ports h text → length (with_row h (row_at text)).contexts ≤ length h.contexts
    row w f text q k =
        let l : length (take row_width t) ≡ row_width = length-take-le row_width t w in
        let byte : get_or text 0 0 ≡ get_or t 0 0 = rw q (get_or-append (take row_width t) (before_head m (drop row_width t)) 0 0 (omega arith) ∙ get_or-take row_width t 0 0 (omega arith)) in
        let first : get_or (take row_width text) 0 0 ≡ get_or t 0 0 = get_or-take row_width text 0 0 (omega arith) ∙ byte in
        let four : (row_at text).letter ≡ head_letter → ⊥ = λ e. other-letter (get_or t 0 0) f (ap letter_of (sym first) ∙ sym (row-letter (take row_width text)) ∙ e) in
        let five = good-letter (take row_width text) k.good in
        let s = (headless-row h (row_at text) k.allowed (omega (arith, four))).0 in
        rw s (omega arith)

    by : (few head : Bool) → ltb (length t) row_width ≡ few → head_first t ≡ head → ((g : Held) → heads_read n g (before_head m (drop row_width t)) ≤ length g.contexts)
        → heads_read (suc n) h (pick few [] (pick head [] (take row_width t ++ before_head m (drop row_width t)))) ≤ length h.contexts
    by true head e f ih = none
    by false true e f ih = none
    by false false e f ih =
        let w = ltb-false (length t) row_width e in
        let l : length (take row_width t) ≡ row_width = length-take-le row_width t w in
        let d : drop row_width (take row_width t ++ before_head m (drop row_width t)) ≡ before_head m (drop row_width t) =
        drop-append-le row_width (take row_width t) (before_head m (drop row_width t)) (omega arith) ∙ ap (λ r. r ++ before_head m (drop row_width t)) (row-gone t) in
        first-row n (length h.contexts) h (take row_width t ++ before_head m (drop row_width t)) (omega arith) (row w f (take row_width t ++ before_head m (drop row_width t)) refl) (λ g. rw d (ih g))

after_first : (n : ℕ) (text : List ℕ) → drop row_width (first_filling n text) ≡ before_head n (drop row_width text)
after_first n text = go (dec_le row_width (length text))
  where
    go : Dec (row_width ≤ length text) → drop row_width (take row_width text ++ before_head n (drop row_width text)) ≡ before_head n (drop row_width text)
    go (yes w) =
        let l : length (take row_width text) ≡ row_width = length-take-le row_width text w in
        drop-append-le row_width (take row_width text) (before_head n (drop row_width text)) (omega arith) ∙ ap (λ r. r ++ before_head n (drop row_width text)) (row-gone text)
    go (no k) =
        let b : length text ≤ row_width = omega arith in
        let d : drop row_width text ≡ [] = drop_of_length-le text b in
        rw (d, before-nil n, append-nil (take row_width text), row-gone text)

pub part-heads : (list : List ℕ) (number : ℕ) → length (part_held list number).contexts ≤ 1
unfolding filling_of outcome_of
part-heads list number = go (is_passed (outcome_of Fillings no_ports list).answer)
  where
    whole : (text : List ℕ) → heads_read (row_limit + 1) nothing (first_filling (length list) text) ≤ 1
    whole text = first-row row_limit 1 nothing (first_filling (length list) text) (omega arith) (λ k. row-heads nothing (first_filling (length list) text)) (λ g. rw (after_first (length list) text) (no-heads row_limit (length list) g (drop row_width text)))

    go : (b : Bool) → heads_read (row_limit + 1) nothing (pick b (first_filling (length list) (from_head (length list) number list)) []) ≤ 1
    go true = whole (from_head (length list) number list)
    go false = rw (read_none (row_limit + 1) Fillings no_ports nothing) (omega arith)
