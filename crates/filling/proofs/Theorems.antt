-- What this crate is for, in one place.
use Prim.Native.Nat.{ℕ}
use mathlib.Core.Path.{◌≡◌}
use mathlib.Core.Logic.{◌↔◌}
use mathlib.Core.Bool.{true}
use mathlib.Core.Option.{some}
use mathlib.Core.List.{List, [], ◌++◌}
use lib.ListN.{length, drop, length-map}
use Rattle.hyperlmntal.specs.Link.{◌∈◌}
use Rattle.hyperlmntal.specs.Congruence.{◌≅◌}
use Rattle.hyperlmntal.specs.Hypergraph.{inner, nodes, map_cell}
use Rattle.rows.specs.Held.{Held}
use Rattle.reading.specs.Graph.{graph_of, term_of_text}
use Rattle.reading.specs.Normal.{class_of, classes_by, numbered_by, normal_form_by, normal_form}
use Rattle.sheet.specs.Reading.{outcome_of, no_ports}
use Rattle.sheet.specs.declared.answer.Answer.TheVariants.{Passed}
use Rattle.sheet.specs.declared.kind.Kind.TheVariants.{Plain, Pattern, Figure, Fillings}
use Rattle.reading.proofs.normal.NormalBounds.{normal-range}
use Rattle.placing.specs.Net.{Range}
use Rattle.placing.specs.Placing.{Placing, Good}
use Rattle.placing.specs.Fillings.{Filling, ExactMarks, rows_graph, normal_fillings_of}
use Rattle.placing.specs.Filled.{filled_normal}
use Rattle.placing.specs.Holding.{holding_term}
use Rattle.placing.specs.ListText.{list_text}
use Rattle.placing.specs.Smallest.{smallest}
use Rattle.placing.specs.ListFits.{ListFits, Ordered}
use Rattle.placing.specs.TextNets.{sheet_held, sheet_net, pattern_net}
use Rattle.placing.proofs.NormalNets.{number-used}
use Rattle.placing.proofs.SmallestLaws.{smallest-good}
use Rattle.filling.specs.Read.{rows_read, fillings_read}
use Rattle.filling.specs.Fill.{figure_held, is_exact, filled_by, filled_text, fill_answer, fill_slip}
use Rattle.answers.specs.declared.outcome.Done.TheVariants as done
use Rattle.filling.specs.Right.{Right}
use Rattle.filling.proofs.Rows as Rows
use Rattle.filling.proofs.Exact as Exact
use Rattle.filling.proofs.Denotes as Denotes
use Rattle.filling.proofs.Back as Back
use Rattle.filling.proofs.ReadAsFigure as ReadAsFigure
use Rattle.filling.proofs.Chosen as Chosen

-- Where fill writes, both texts passed, every blank has its filling, and every filling has exactly its ports as marks.
module _ (figure list slip : List ℕ) (n : ℕ) (e : fill_answer figure list (length slip) ≡ done.Written n) where
  pub fill-passed : ((outcome_of Figure no_ports figure).answer ≡ Passed) × ((outcome_of Fillings no_ports list).answer ≡ Passed)
  fill-passed = Denotes.fill-passed figure list slip n e

  pub fill-right : Right figure list
  fill-right = Denotes.fill-right figure list slip n e

  -- It writes the filled text, and leaves the rest of the slip.
  pub fill-bytes : (n ≡ length (filled_text figure list)) × (fill_slip figure list slip ≡ filled_text figure list ++ drop n slip)
  fill-bytes = Denotes.fill-bytes figure list slip n e

  -- What is written passes as a sheet, and is the same as what graph substitution makes of the figure (demand 2, last part).
  pub fill-sheet : (outcome_of Plain no_ports (filled_text figure list)).answer ≡ Passed
  fill-sheet = Denotes.fill-sheet figure list slip n e

  pub fill-congruent : term_of_text (outcome_of Plain no_ports (filled_text figure list)).held ≅ holding_term (term_of_text (figure_held figure)) (fillings_read list)
  fill-congruent = Denotes.fill-congruent figure list slip n e

-- What 12 counts is what the filled text has: its vertices, and its joints, which are numbered from 1 to their number.
pub atoms-counted : (figure list : List ℕ) → length (filled_normal (graph_of (figure_held figure)) (fillings_read list)).atoms ≡ length (filled_by figure list).atoms
unfolding normal_form normal_form_by
atoms-counted figure list = length-map (filled_by figure list).atoms (map_cell (numbered_by (class_of (filled_by figure list).fusions) (filled_by figure list)))

pub joints-counted : (figure list : List ℕ) (n : ℕ)
    → (inner n ∈ nodes (filled_normal (graph_of (figure_held figure)) (fillings_read list))) ↔ Range (length (classes_by (class_of (filled_by figure list).fusions) (filled_by figure list))) n
joints-counted figure list n = (normal-range (filled_by figure list) n, number-used (filled_by figure list) n)

-- The hypergraph of rows as read is that of what they hold.
pub rows-held : (h : Held) → h.contexts ≡ [] → rows_graph (rows_read h) ≡ graph_of h
rows-held h e = Rows.rows-held h e

-- The test for refusal 9 says that the marks of a filling are exactly its ports.
pub exact-marks : (f : Filling) → is_exact f ≡ true → ExactMarks f.ports f.rows
exact-marks f e = Exact.exact-marks f e

pub marks-exact : (f : Filling) → ExactMarks f.ports f.rows → is_exact f ≡ true
marks-exact f x = Exact.marks-exact f x

-- A list of fillings that is written is read back as those fillings.
pub list_back : (θ : List Filling) → ListFits θ → ((f : Filling) → f ∈ θ → Ordered f.rows) → fillings_read (list_text θ) ≡ θ
list_back θ fits o = Back.list_back θ fits o

-- So is the list of fillings of a good placing.
pub placed-back : (sheet pattern : List ℕ) → (outcome_of Plain no_ports sheet).answer ≡ Passed → (outcome_of Pattern no_ports pattern).answer ≡ Passed
    → (p : Placing) → Good (sheet_net sheet) (pattern_net pattern) p
    → fillings_read (list_text (normal_fillings_of (sheet_net sheet) p (pattern_net pattern))) ≡ normal_fillings_of (sheet_net sheet) p (pattern_net pattern)
placed-back sheet pattern a b p good = Back.placed-back sheet pattern a b p good

-- The list that place hands out fills the pattern: no refusal 8 or 9 over whole texts, and what fill writes is the same as the sheet.
pub chosen-fill : (sheet pattern : List ℕ) → (outcome_of Plain no_ports sheet).answer ≡ Passed → (outcome_of Pattern no_ports pattern).answer ≡ Passed
    → (p : Placing) → smallest (sheet_net sheet) (pattern_net pattern) ≡ some p
    → (outcome_of Figure no_ports pattern ≡ outcome_of Pattern no_ports pattern)
    × Right pattern (list_text (normal_fillings_of (sheet_net sheet) p (pattern_net pattern)))
    × ((slip : List ℕ) (n : ℕ) → fill_answer pattern (list_text (normal_fillings_of (sheet_net sheet) p (pattern_net pattern))) (length slip) ≡ done.Written n
    → term_of_text (outcome_of Plain no_ports (filled_text pattern (list_text (normal_fillings_of (sheet_net sheet) p (pattern_net pattern))))).held ≅ term_of_text (sheet_held sheet))
chosen-fill sheet pattern a b p e =
    let g = smallest-good (sheet_net sheet) (pattern_net pattern) p e in
    (ReadAsFigure.pattern-figure pattern b, Chosen.placed-right sheet pattern a b p g, Chosen.placed-fill sheet pattern a b p g)
