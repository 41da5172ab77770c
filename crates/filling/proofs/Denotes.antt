-- Where fill writes: what it asked of the texts, what it writes, and what that denotes.
use Prim.Native.Nat.{ℕ, ◌≤◌}
use mathlib.Core.Path.{◌≡◌, refl, sym}
use mathlib.Core.Bool.{Bool, true, false}
use mathlib.Core.List.{List, ◌++◌}
use native.Mathlib.Omega.{arith}
use borrow.Author.Tests.{ltb-false}
use lib.Dec.{ltb}
use lib.ListN.{length, drop}
use Rattle.hyperlmntal.specs.Congruence.{◌≅◌}
use Rattle.rows.specs.Pick.{pick}
use Rattle.rows.specs.Limits.{sheet_atom_limit, sheet_link_limit}
use Rattle.rows.proofs.Bools.{or-false}
use Rattle.reading.specs.Graph.{term_of_text}
use Rattle.reading.specs.Normal.{class_of, classes_by}
use Rattle.normalising.specs.NormalText.{slip_length}
use Rattle.sheet.specs.Reading.{outcome_of, no_ports}
use Rattle.sheet.specs.declared.answer.Answer.{Answer}
use Rattle.sheet.specs.declared.answer.Answer.TheVariants.{Passed, Refused}
use Rattle.sheet.specs.declared.kind.Kind.TheVariants.{Plain, Figure, Fillings}
use Rattle.placing.specs.Holding.{holding_term}
use Rattle.filling.specs.Read.{list_held, fillings_read}
use Rattle.filling.specs.Fill.{figure_held, first_lacking, first_differing, filled_by, filled_text, is_too_large, filled_answer, unless, fill_answer, fill_slip}
use Rattle.answers.specs.declared.outcome.Done.TheVariants as done
use Rattle.filling.specs.Right.{Right}
use Rattle.filling.proofs.Result.{classes, class-count}
use Rattle.filling.proofs.Written.{made_atoms, atom-count}
use Rattle.filling.proofs.Answers.{right-fillings}
use Rattle.filling.proofs.ReadAgain.{own_labels, own-labels, text-passes, text-congruent}

-- The ways to an answer that bytes were written.
record Ways (s : Bool) (a b : Answer) (l d t : Bool) (k n : ℕ) : Type 0 where
  long : s ≡ false
  figure : a ≡ Passed
  list : b ≡ Passed
  lacking : l ≡ false
  differing : d ≡ false
  large : t ≡ false
  bytes : k ≡ n

ways : (s : Bool) (a b : Answer) (l d t : Bool) (x y k n : ℕ)
    → pick s done.ShortSlip (unless a 1 (unless b 2 (pick l (done.BlankClash 1 x) (pick d (done.EdgeDiffers 2 y) (pick t done.TooLarge (done.Written k)))))) ≡ done.Written n → Ways s a b l d t k n
ways true a b l d t x y k n e = absurd (let z : ◌≡◌ {A = ℕ} 0 1 = cc in omega arith)
ways false (Refused why row) b l d t x y k n e = absurd (let z : ◌≡◌ {A = ℕ} 0 1 = cc in omega arith)
ways false Passed (Refused why row) l d t x y k n e = absurd (let z : ◌≡◌ {A = ℕ} 0 1 = cc in omega arith)
ways false Passed Passed true d t x y k n e = absurd (let z : ◌≡◌ {A = ℕ} 0 1 = cc in omega arith)
ways false Passed Passed false true t x y k n e = absurd (let z : ◌≡◌ {A = ℕ} 0 1 = cc in omega arith)
ways false Passed Passed false false true x y k n e = absurd (let z : ◌≡◌ {A = ℕ} 0 1 = cc in omega arith)
ways false Passed Passed false false false x y k n e = record { long = refl; figure = refl; list = refl; lacking = refl; differing = refl; large = refl; bytes = cc }

module _ (figure list slip : List ℕ) (n : ℕ) (e : fill_answer figure list (length slip) ≡ done.Written n) where
  found : Ways (ltb (length slip) slip_length) (outcome_of Figure no_ports figure).answer (outcome_of Fillings no_ports list).answer
      (ltb 0 (first_lacking (list_held list).contexts (figure_held figure).contexts)) (ltb 0 (first_differing list (list_held list).contexts)) (is_too_large (filled_by figure list)) (length (filled_text figure list)) n
  unfolding fill_answer filled_answer
  found =
      ways (ltb (length slip) slip_length) (outcome_of Figure no_ports figure).answer (outcome_of Fillings no_ports list).answer
      (ltb 0 (first_lacking (list_held list).contexts (figure_held figure).contexts)) (ltb 0 (first_differing list (list_held list).contexts)) (is_too_large (filled_by figure list))
      (first_lacking (list_held list).contexts (figure_held figure).contexts) (first_differing list (list_held list).contexts) (length (filled_text figure list)) n e

  -- Where fill writes, both texts passed, every blank has its filling, and every filling has exactly its ports as marks.
  pub fill-right : Right figure list
  fill-right =
      right-fillings figure list
      (let h = ltb-false 0 (first_lacking (list_held list).contexts (figure_held figure).contexts) found.lacking in omega arith)
      (let h = ltb-false 0 (first_differing list (list_held list).contexts) found.differing in omega arith)

  pub fill-passed : ((outcome_of Figure no_ports figure).answer ≡ Passed) × ((outcome_of Fillings no_ports list).answer ≡ Passed)
  fill-passed = (found.figure, found.list)

  -- It writes the filled text, so many bytes, and leaves the rest of the slip.
  pub fill-bytes : (n ≡ length (filled_text figure list)) × (fill_slip figure list slip ≡ filled_text figure list ++ drop n slip)
  unfolding fill_slip
  fill-bytes = (sym found.bytes, rw e)

  small : (length (made_atoms figure list fill-right own_labels own-labels) ≤ sheet_atom_limit) × (length (classes figure list fill-right own_labels own-labels) ≤ sheet_link_limit)
  small =
      let k = length (classes_by (class_of (filled_by figure list).fusions) (filled_by figure list)) in
      let t = or-false (ltb sheet_atom_limit (length (filled_by figure list).atoms)) (ltb sheet_link_limit k) found.large in
      let a = ltb-false sheet_atom_limit (length (filled_by figure list).atoms) t.0 in
      let b : k ≤ sheet_link_limit = ltb-false sheet_link_limit k t.1 in
      let p = atom-count figure list fill-right own_labels own-labels in
      let q = class-count figure list fill-right own_labels own-labels in
      (omega (arith, p), omega (arith, q))

  -- What is written passes as a sheet, and is the same as what graph substitution makes of the figure (demand 2, last part).
  pub fill-sheet : (outcome_of Plain no_ports (filled_text figure list)).answer ≡ Passed
  fill-sheet = text-passes figure list fill-right small.0 small.1

  pub fill-congruent : term_of_text (outcome_of Plain no_ports (filled_text figure list)).held ≅ holding_term (term_of_text (figure_held figure)) (fillings_read list)
  fill-congruent = text-congruent figure list fill-right small.0 small.1
