-- A figure and a list that passed row by row: what the code finds on its way is what filling answers.
use Prim.Native.Nat.{ℕ, ◌+◌, ◌*◌, ◌<◌, ◌≤◌}
use mathlib.Core.Path.{◌≡◌, ap, ap₂, sym, ◌∙◌}
use mathlib.Core.List.{List, ◌++◌}
use lib.ListN.{length, take, drop}
use Rattle.rows.specs.Format.{row_width}
use Rattle.rows.specs.Limits.{sheet_atom_limit, sheet_link_limit}
use Rattle.rows.specs.declared.Context.{Context}
use Rattle.reading.specs.NormalSheet.{packed_normal}
use Rattle.normalising.specs.NormalText.{slip_length}
use Rattle.normalising.specs.NormalRows.{normal_rows, Writable}
use Rattle.rows.specs.declared.Sheet.{Sheet as Normal}
use Rattle.filling.specs.Read.{list_held}
use Rattle.filling.specs.Fill.{figure_held, first_lacking, first_differing, filled_text, filled_answer}
use Rattle.filling.specs.Parts.{first_unported, Headed}
use Rattle.filling.specs.Filled.{FilledIs}
use Rattle.answers.specs.declared.outcome.Done.TheVariants as done
use Rattle.filling.proofs.Answers.{lacking-made, differing-made, answer-lacking, answer-differing, answer-large, answer-written}

module _ (normal : Normal) (heads : List Context) (n : ℕ) (ports list : List ℕ) (H : Headed heads n ports list)
    (lacking : ℕ) (L : lacking ≡ first_unported ports (take normal.context_count normal.contexts)) (figure : List ℕ) (q : normal ≡ packed_normal (figure_held figure)) where
  lacks : lacking ≡ first_lacking (list_held list).contexts (figure_held figure).contexts
  lacks = L ∙ ap₂ (λ (x : List ℕ) (y : Normal). first_unported x (take y.context_count y.contexts)) H.ports q ∙ lacking-made figure list

  pub says-lacking : (lacking ≡ 0 → ⊥) → done.BlankClash 1 lacking ≡ filled_answer figure list
  says-lacking h = answer-lacking figure list lacking lacks h

  module _ (z : lacking ≡ 0) (differing : ℕ) (D : differing ≡ first_differing list (take n heads)) where
    differs : differing ≡ first_differing list (list_held list).contexts
    differs = D ∙ ap₂ (λ (k : ℕ) (x : List Context). first_differing list (take k x)) H.read.count H.read.contexts ∙ differing-made figure list

    pub says-differing : (differing ≡ 0 → ⊥) → done.EdgeDiffers 2 differing ≡ filled_answer figure list
    says-differing h = answer-differing figure list (sym lacks ∙ z) differing differs h

    module _ (y : differing ≡ 0) (r : Normal)
        (M : (text : List ℕ) → normal ≡ packed_normal (figure_held text) → first_lacking (list_held list).contexts (figure_held text).contexts ≡ 0 → first_differing list (list_held list).contexts ≡ 0 → FilledIs text list r) where
      filled : FilledIs figure list r
      filled = M figure q (sym lacks ∙ z) (sym differs ∙ y)

      pub says-many : sheet_atom_limit < r.atom_count → done.TooLarge ≡ filled_answer figure list
      says-many h = answer-large figure list (sym lacks ∙ z) (sym differs ∙ y) (filled.large-atoms h)

      pub says-wide : sheet_link_limit < r.class_count → done.TooLarge ≡ filled_answer figure list
      says-wide h = answer-large figure list (sym lacks ∙ z) (sym differs ∙ y) (filled.large-links h)

      module _ (few : r.atom_count ≤ sheet_atom_limit) (narrow : r.class_count ≤ sheet_link_limit) where
        pub says-writable : Writable r × ((r.atom_count + r.context_count + r.mark_count) * row_width ≤ slip_length)
        says-writable = filled.writable few narrow

        rows : normal_rows r ≡ filled_text figure list
        rows = filled.rows few narrow

        pub says-written : (k : ℕ) → k ≡ length (normal_rows r) → done.Written k ≡ filled_answer figure list
        says-written k e = ap done.Written (e ∙ ap length rows) ∙ answer-written figure list (sym lacks ∙ z) (sym differs ∙ y) (filled.not-large few narrow)

        pub says-slip : (k : ℕ) → k ≡ length (normal_rows r) → (slip : List ℕ) → normal_rows r ++ drop (length (normal_rows r)) slip ≡ filled_text figure list ++ drop k slip
        says-slip k e slip = ap₂ (λ (t : List ℕ) (j : ℕ). t ++ drop j slip) rows (sym e)
