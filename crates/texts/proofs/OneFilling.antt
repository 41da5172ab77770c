-- A list of fillings with one head: what its rows since the head hold agrees with their hypergraph.
use Prim.Native.Nat.{ℕ, ◌+◌, ◌<◌, ◌≤◌}
use mathlib.Core.Path.{◌≡◌, refl, ◌∙◌, sym, ap, subst}
use mathlib.Core.List.{List, []}
use mathlib.Core.Bool.{Bool, true, false, true≢false}
use native.Mathlib.Omega.{arith}
use lib.Dec.{eqb, ltb}
use lib.ListN.{length, length-append}
use borrow.Author.Tests.{ltb-true, ltb-false, eqb-false, ne_eqb}
use Rattle.rows.specs.Pick.{and, not}
use Rattle.rows.specs.Format.{head_letter}
use Rattle.rows.specs.Held.{Held, with_atom, with_fusion_row, with_edge_row, with_head, with_row}
use Rattle.rows.specs.declared.Context.{Context}
use Rattle.rows.specs.declared.row.Row.{Row}
use Rattle.rows.proofs.Bools.{or-false}
use Rattle.linking.proofs.Wired.{row_by}
use Rattle.sheet.specs.Kinds.{allowed}
use Rattle.sheet.specs.Reading.{strange, outcome_of}
use Rattle.sheet.specs.declared.kind.Kind.TheVariants.{Fillings}
use Rattle.reading.specs.Agrees.{Agrees}
use Rattle.sheet.proofs.read.Taken.{row_at, outcome-keeps}
use Rattle.sheet.proofs.read.HeldLimits.{context-figure}
use Rattle.reading.proofs.normal.Agreeing.{agrees-row}
use Rattle.reading.proofs.normal.Connected.{agrees-none}

-- What is held, without heads.
abbrev pub headless : Held → Held
headless h = record { rows = h.rows; atoms = h.atoms; contexts = []; fusions = h.fusions; edges = h.edges; wiring = h.wiring }

-- Symbols stand behind a head; with at most one head, all but the heads agrees.
pub record Headed (h : Held) : Type 0 where
  pub before : length h.contexts ≡ 0 → h.atoms ≡ []
  pub after : length h.contexts ≤ 1 → Agrees (headless h)

-- A row that is no head stands behind one.
pub behind-head : (contexts : List Context) (letter : ℕ) → letter < head_letter → strange Fillings contexts letter ≡ false → length contexts ≡ 0 → ⊥
unfolding strange
behind-head contexts letter l e z = eqb-false (length contexts) 0 (rw (ne_eqb letter head_letter (λ q. omega arith)) at (or-false (not (allowed Fillings letter)) (and (not (eqb letter head_letter)) (eqb (length contexts) 0)) e).1) z

module _ (h : Held) (r : Row) (free : strange Fillings h.contexts r.letter ≡ false) where
  pub headless-row : r.letter < head_letter → ((with_row h r).contexts ≡ h.contexts) × (headless (with_row h r) ≡ with_row (headless h) r)
  unfolding with_row with_atom with_fusion_row with_edge_row
  headless-row l =
      row_by h r (λ g. (g.contexts ≡ h.contexts) × (headless g ≡ with_row (headless h) r))
      (λ e. (refl, rw e))
      (λ e. absurd (true≢false (context-figure Fillings h.contexts (rw e at free))))
      (λ e. (refl, rw e))
      (λ e. (refl, rw e))
      (λ e. absurd (omega arith))

  pub head-row : head_letter ≤ r.letter → with_row h r ≡ with_head h r.nums
  head-row l = row_by h r (λ g. g ≡ with_head h r.nums) (λ e. absurd (omega arith)) (λ e. absurd (omega arith)) (λ e. absurd (omega arith)) (λ e. absurd (omega arith)) (λ e. refl)

  pub headed-row : Headed h → Headed (with_row h r)
  unfolding with_head
  headed-row p = go (ltb r.letter head_letter) refl
    where
      go : (b : Bool) → ltb r.letter head_letter ≡ b → Headed (with_row h r)
      go true e =
          let l = ltb-true r.letter head_letter e in
          let q = headless-row l in
          record {
            before = λ z. absurd (behind-head h.contexts r.letter l free (ap length (sym q.0) ∙ z));
            after = λ z. subst Agrees (sym q.1) (agrees-row (headless h) r l (p.after (rw q.0 at z)));
          }
      go false e =
          subst Headed (sym (head-row (ltb-false r.letter head_letter e)))
          (record {
            before = λ z. absurd (omega (arith, simp length-append at z));
            after = λ z. rw (p.before (omega (arith, simp length-append at z))) (agrees-none (h.rows + 1));
          })

pub filling-agrees : (pattern text : List ℕ) → length (outcome_of Fillings pattern text).held.contexts ≤ 1 → Agrees (headless (outcome_of Fillings pattern text).held)
filling-agrees pattern text few =
    (outcome-keeps Fillings pattern Headed (λ h rest t p. headed-row h (row_at rest) t.allowed p) text (record { before = λ z. refl; after = λ z. agrees-none 0 })).after few
