-- The blanks of a replacement are blanks of the pattern, and have the fillings that fit it.
use Prim.Native.Nat.{ℕ, suc, ◌<◌}
use mathlib.Core.Path.{◌≡◌, refl, ap, sym, ◌∙◌, subst₂}
use mathlib.Core.List.{List, [], ◌∷◌, ◌++◌, map}
use mathlib.Core.Bool.{true}
use native.Mathlib.Omega.{arith}
use borrow.Author.Tests.{eqb-true}
use lib.Dec.{eqb}
use lib.ListN.{length, get_or}
use Rattle.hyperlmntal.specs.Link.{◌∈◌}
use Rattle.rows.specs.Format.{context_bound}
use Rattle.rows.specs.Pick.{and, not}
use Rattle.rows.specs.Held.{Held}
use Rattle.rows.specs.Packed.{ports_of, port_table}
use Rattle.rows.specs.declared.Context.{Context}
use Rattle.rows.specs.declared.Sheet as form
use Rattle.rows.proofs.Bools.{or-false, not-false}
use Rattle.rows.proofs.Ports.{table_at}
use Rattle.sheet.specs.Reading.{clash_of}
use Rattle.sheet.specs.declared.kind.Kind.TheVariants.{Replacement}
use Rattle.sheet.specs.HeldLimits.{Every, ContextRange}
use Rattle.sheet.proofs.read.Every.{every-at}
use Rattle.sheet.proofs.read.HeldLimits.{held-within}
use Rattle.reading.specs.NormalSheet.{normal_context, packed_normal}
use Rattle.reading.proofs.normal.Merging.{get_d-in}
use Rattle.normalising.specs.NormalRows.{past_contexts}
use Rattle.normalising.proofs.normal_text.NormalWritten.{context-at}
use Rattle.texts.proofs.BuiltRows.{every_in}
use Rattle.texts.proofs.ReadBack.{ports_by, ports_in, Clear}
use Rattle.texts.proofs.NormalFits.{every-member, sound-read}
use Rattle.placing.specs.Fillings.{Filling, Fits}
use Rattle.placing.specs.TextNets.{pattern_held, pattern_net}
use Rattle.placing.proofs.Lists.{get_d_of, member-at}
use Rattle.finding.proofs.Blanks.{Covering, ports-found, one-count, one_covers}
use Rattle.swapping.specs.Swap.{replacement_held}
use Rattle.swapping.specs.Inputs.{SwapInputs}
use Rattle.swapping.specs.Given.{Covered}

-- A blank of the pattern with this blank's number and port count.
abbrev InPattern : List ℕ → Context → Type 0
InPattern pattern b = (d : Context) × (d ∈ (pattern_held pattern).contexts) × (d.number ≡ b.number) × (d.count ≡ b.count)

-- 'in a replacement, also a number or count that the pattern lacks' is refused
clear_in : (pattern : List ℕ) (before : List (ℕ × ℕ)) (l : List Context) → Every (ContextRange Replacement) l → Clear Replacement (port_table (pattern_held pattern).contexts) before (map ports_in l) → Every (InPattern pattern) l
unfolding clash_of
clear_in pattern before [] r c = tt
clear_in pattern before (b ∷ l) r c =
    let table = port_table (pattern_held pattern).contexts in
    let n : eqb (get_or table b.number 0) (suc b.count) ≡ true =
    not-false _ (or-false (and (not (eqb (ports_by before b.number) 0)) (not (eqb (ports_by before b.number) (suc b.count)))) _ c.0).1 in
    let low : b.number < context_bound = omega (arith, r.0.number.1) in
    let e : ports_of (pattern_held pattern).contexts b.number ≡ suc b.count = sym (table_at (pattern_held pattern).contexts b.number low) ∙ eqb-true (get_or table b.number 0) (suc b.count) n in
    (ports-found (pattern_held pattern).contexts b.number b.count e, clear_in pattern (before ++ (ports_in b ∷ [])) l r.1 c.1)

replacement-in : (pattern replacement : List ℕ) → Every (InPattern pattern) (replacement_held pattern replacement).contexts
replacement-in pattern replacement =
    let table = port_table (pattern_held pattern).contexts in
    clear_in pattern [] (replacement_held pattern replacement).contexts (held-within Replacement table replacement).ranges.contexts (sound-read Replacement table replacement refl).clear

pub replacement-covered : (pattern : List ℕ) (θ : List Filling) → Fits (pattern_net pattern) θ → (replacement : List ℕ) → Every (Covering θ) (replacement_held pattern replacement).contexts
replacement-covered pattern θ fit replacement =
    every_in (Covering θ) (replacement_held pattern replacement).contexts (λ b i.
    let t = every-member (InPattern pattern) (replacement_held pattern replacement).contexts b (replacement-in pattern replacement) i in
    let f = one_covers pattern θ fit t.0 t.1 in
    (f.0, f.1, f.2 ∙ t.2, f.3 ∙ t.3))

module _ (sheet pattern replacement : form.Sheet) (s p q : List ℕ) (I : SwapInputs sheet pattern replacement s p q) where
  abbrev P : Held
  P = pattern_held p

  abbrev R : Held
  R = replacement_held p q

  in-pattern : (i : ℕ) → i < length R.contexts → InPattern p (get_or R.contexts i past_contexts)
  in-pattern i b = every-at (InPattern p) past_contexts R.contexts (replacement-in p q) i b

  packed-covered : Covered (packed_normal P) (packed_normal R).contexts (length R.contexts)
  packed-covered =
      record {
        blank = λ i b.
            let t = in-pattern i b in
            let j = member-at P.contexts t.0 t.1 in
            (j.0, j.1, ap (λ c. c.number) (context-at P j.0 j.1 ∙ ap (normal_context P) (get_d_of P.contexts j.0 past_contexts t.0 j.2)) ∙ t.2 ∙ sym (ap (λ c. c.number) (context-at R i b)));
        ports = λ i j b k e.
            let t = in-pattern i b in
            let c = get_or P.contexts j past_contexts in
            let same : c.number ≡ t.0.number = sym (ap (λ d. d.number) (context-at P j k)) ∙ e ∙ ap (λ d. d.number) (context-at R i b) ∙ sym t.2 in
            ap (λ d. d.count) (context-at P j k) ∙ one-count p I.placed.passed.pattern-passes c t.0 (get_d-in P.contexts j past_contexts k) t.1 same ∙ t.3 ∙ sym (ap (λ d. d.count) (context-at R i b));
      }

  -- Every blank of a replacement is one of the pattern, with as many ports.
  pub replacement-blanks : Covered pattern replacement.contexts replacement.context_count
  replacement-blanks = subst₂ (λ (F T : form.Sheet). Covered F T.contexts T.context_count) (sym I.placed.of-pattern) (sym I.of-replacement) packed-covered
