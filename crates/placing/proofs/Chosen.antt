-- Demand 3 for the placing that is chosen: the smallest good one.
use Prim.Native.Nat.{ℕ}
use mathlib.Core.Path.{◌≡◌}
use mathlib.Core.Logic.{◌↔◌}
use mathlib.Core.List.{List}
use mathlib.Core.Option.{some, none}
use Rattle.hyperlmntal.specs.Congruence.{◌≅◌}
use Rattle.hyperlmntal.specs.TermOf.{term_of}
use Rattle.reading.specs.Graph.{graph_of, term_of_text}
use Rattle.sheet.specs.Reading.{outcome_of, no_ports}
use Rattle.sheet.specs.declared.kind.Kind.TheVariants.{Plain, Pattern, Fillings}
use Rattle.sheet.specs.declared.answer.Answer.TheVariants.{Passed}
use Rattle.placing.specs.Placing.{Placing}
use Rattle.placing.specs.Fillings.{Filling, Fits, normal_fillings_of}
use Rattle.placing.specs.Holding.{holding_term}
use Rattle.placing.specs.Filled.{filled_normal}
use Rattle.placing.specs.ListText.{list_text}
use Rattle.placing.specs.Smallest.{smallest}
use Rattle.placing.specs.TextNets.{sheet_held, pattern_held, sheet_net, pattern_net}
use Rattle.placing.proofs.Theorems.{text-placing-fillings, text-fillings-iff-placing}
use Rattle.placing.proofs.FilledText.{filled-same}
use Rattle.placing.proofs.SmallestLaws.{smallest-good, smallest-none}
use Rattle.placing.proofs.PlacedText.{placed-list-passes}

module _ (sheet pattern : List ℕ) (a : (outcome_of Plain no_ports sheet).answer ≡ Passed) (b : (outcome_of Pattern no_ports pattern).answer ≡ Passed) where
  -- No placing is chosen exactly when nobody can write fillings of any size that turn the pattern into the sheet.
  pub chosen_none : (smallest (sheet_net sheet) (pattern_net pattern) ≡ none) ↔ (((θ : List Filling) × Fits (pattern_net pattern) θ × (holding_term (term_of_text (pattern_held pattern)) θ ≅ term_of_text (sheet_held sheet))) → ⊥)
  chosen_none =
      let d = text-fillings-iff-placing sheet pattern a b in
      let n = smallest-none (sheet_net sheet) (pattern_net pattern) in
      (λ e t. let g = d.0 t in n.0 e g.0 g.1, λ no. n.1 (λ p g. no (d.1 (p, g))))

  -- The fillings of the chosen placing: written as a list they pass, they are one for each blank with exactly its ports as marks,
  -- and the pattern holding them is the same as the sheet.
  pub chosen-fillings : (p : Placing) → smallest (sheet_net sheet) (pattern_net pattern) ≡ some p
      → ((outcome_of Fillings no_ports (list_text (normal_fillings_of (sheet_net sheet) p (pattern_net pattern)))).answer ≡ Passed)
      × (Fits (pattern_net pattern) (normal_fillings_of (sheet_net sheet) p (pattern_net pattern)) × (holding_term (term_of_text (pattern_held pattern)) (normal_fillings_of (sheet_net sheet) p (pattern_net pattern)) ≅ term_of_text (sheet_held sheet)))
  chosen-fillings p e = let g = smallest-good (sheet_net sheet) (pattern_net pattern) p e in (placed-list-passes sheet pattern a b p g, text-placing-fillings sheet pattern a b p g)

  -- The claim with them holds: the filled pattern, as normal text, is the same as the sheet.
  pub chosen-claim : (p : Placing) → smallest (sheet_net sheet) (pattern_net pattern) ≡ some p → term_of (filled_normal (graph_of (pattern_held pattern)) (normal_fillings_of (sheet_net sheet) p (pattern_net pattern))) ≅ term_of_text (sheet_held sheet)
  chosen-claim p e = let t = chosen-fillings p e in (filled-same (sheet_held sheet) (pattern_held pattern) (normal_fillings_of (sheet_net sheet) p (pattern_net pattern)) t.1.0.exact).1 t.1.1
