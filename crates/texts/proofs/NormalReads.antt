-- A normal text is read again: it passes, it holds the normal form, it is its own normal text, and it is congruent to what was delivered.
use Prim.Native.Nat.{ℕ}
use mathlib.Core.Path.{◌≡◌, ap, ◌∙◌, sym, subst}
use mathlib.Core.List.{List, map}
use mathlib.Core.Bool.{false}
use Rattle.hyperlmntal.specs.Congruence.{◌≅◌}
use Rattle.hyperlmntal.specs.TermOf.{term_of}
use Rattle.rows.specs.Held.{Held}
use Rattle.sheet.specs.Kinds.{is_list}
use Rattle.reading.specs.Graph.{graph_of, term_of_text}
use Rattle.reading.specs.Normal.{normal_form}
use Rattle.reading.specs.NormalSheet.{normal_marks}
use Rattle.normalising.specs.NormalText.{text_of, normal_text_of}
use Rattle.sheet.specs.Reading.{outcome_of, no_ports}
use Rattle.sheet.specs.declared.kind.Kind.{Kind}
use Rattle.sheet.specs.declared.answer.Answer.TheVariants.{Passed}
use Rattle.sheet.proofs.read.HeldLimits.{held-within}
use Rattle.reading.proofs.normal.Connected.{agrees-read}
use Rattle.texts.proofs.NormalIso.{text-normal}
use Rattle.texts.proofs.NormalTwice.{normal-idempotent}
use Rattle.texts.proofs.ReadBack.{Readable, read_back, graph-back}
use Rattle.texts.proofs.NormalFits.{sound-read, normal_symbol, normal_blank, normal_edge, normal-built, normal-readable}

-- A text that is no list of fillings. What its rows hold has a normal text, whether the whole of it passed or not.
module _ (kind : Kind) (text : List ℕ) (single : is_list kind ≡ false) where
  held : Held
  held = (outcome_of kind no_ports text).held

  readable : Readable kind no_ports (map (normal_symbol held) held.atoms) (map (normal_blank held) held.contexts) (map (normal_edge held) (normal_marks held))
  unfolding held
  readable = normal-readable kind no_ports single held (held-within kind no_ports text) (agrees-read kind no_ports text single) (sound-read kind no_ports text single)

  pub normal-passes : (outcome_of kind no_ports (normal_text_of kind text)).answer ≡ Passed
  unfolding held
  normal-passes = rw (normal-built held) (read_back kind no_ports _ _ _ readable).answer

  pub normal-graph : graph_of (outcome_of kind no_ports (normal_text_of kind text)).held ≡ normal_form (graph_of (outcome_of kind no_ports text).held)
  unfolding held
  normal-graph = rw (normal-built held) (graph-back kind no_ports _ _ _ readable)

  pub normal-text-fixed : normal_text_of kind (normal_text_of kind text) ≡ normal_text_of kind text
  normal-text-fixed = ap text_of (ap normal_form normal-graph ∙ normal-idempotent (graph_of (outcome_of kind no_ports text).held))

  pub normal-text-congruent : term_of_text (outcome_of kind no_ports text).held ≅ term_of_text (outcome_of kind no_ports (normal_text_of kind text)).held
  normal-text-congruent =
      subst (λ F. term_of_text (outcome_of kind no_ports text).held ≅ term_of F) (sym normal-graph) (text-normal (outcome_of kind no_ports text).held)
