-- Document 01, 'Normal text': 'S rows in their order', so one sheet can have two normal texts.
use Rattle.std.specs.Prelude.{ℕ, ◌≡◌, List, [], ◌∷◌, ◌++◌}
use Rattle.hyperlmntal.specs.Congruence.{◌≅◌}
use Rattle.hyperlmntal.specs.Isomorphism.{Isomorphic}
use Rattle.reading.specs.Graph.{graph_of, term_of_text}
use Rattle.normalising.specs.NormalText.{normal_text_of}
use Rattle.sheet.specs.Reading.{outcome_of, no_ports}
use Rattle.sheet.specs.declared.kind.Kind.TheVariants.{Plain}
use Rattle.sheet.specs.declared.answer.Answer.TheVariants.{Passed}
use Rattle.texts.specs.Texts.{symbol}

-- `S 1 0`, `S 2 0`, and the same rows in the other order
abbrev pub one_two : List ℕ
one_two = symbol (1 ∷ 0 ∷ []) ++ symbol (2 ∷ 0 ∷ [])

abbrev pub two_one : List ℕ
two_one = symbol (2 ∷ 0 ∷ []) ++ symbol (1 ∷ 0 ∷ [])

-- two sheets that are the same, with two texts that are both normal
pub record TwoNormal (s t : List ℕ) : Type 0 where
  pub first_passes : (outcome_of Plain no_ports s).answer ≡ Passed
  pub second-passes : (outcome_of Plain no_ports t).answer ≡ Passed
  pub first-normal : normal_text_of Plain s ≡ s
  pub second-normal : normal_text_of Plain t ≡ t
  pub congruent : term_of_text (outcome_of Plain no_ports s).held ≅ term_of_text (outcome_of Plain no_ports t).held
  pub isomorphic : Isomorphic (graph_of (outcome_of Plain no_ports s).held) (graph_of (outcome_of Plain no_ports t).held)
  pub differ : ¬ (s ≡ t)
