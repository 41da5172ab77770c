-- What demand 3 asks of the answers and the slips of place and swap.
use Rattle.std.specs.Prelude.{ℕ, ◌≤◌, ◌<◌, ◌≡◌, ◌⊎◌, ◌↔◌, List, [], ◌∷◌, ◌++◌, map, length, take, drop}
use Rattle.std.proofs.Math.Option.{some}
use Rattle.hyperlmntal.specs.Link.{◌∈◌}
use Rattle.hyperlmntal.specs.Congruence.{◌≅◌}
use Rattle.hyperlmntal.specs.Hypergraph.{Flat}
use Rattle.rows.specs.Format.{most_links, most_name}
use Rattle.rows.specs.Limits.{sheet_atom_limit, sheet_link_limit}
use Rattle.reading.specs.Graph.{graph_of, term_of_text}
use Rattle.normalising.specs.NormalText.{text_of, slip_length}
use Rattle.sheet.specs.Reading.{outcome_of, no_ports}
use Rattle.sheet.specs.declared.kind.Kind.TheVariants.{Plain, Fillings}
use Rattle.sheet.specs.declared.answer.Answer.TheVariants.{Passed}
use Rattle.placing.specs.Net.{Net, Range, net_of, blank_of}
use Rattle.placing.specs.Placing.{Placing}
use Rattle.placing.specs.Fillings.{symbol_row, Filling, Fits, by_number, normal_fillings_of}
use Rattle.placing.specs.Holding.{holding_term}
use Rattle.placing.specs.Filled.{filled_normal}
use Rattle.placing.specs.ListText.{list_text}
use Rattle.placing.specs.Smallest.{smallest}
use Rattle.placing.specs.TextNets.{sheet_held, pattern_held, sheet_net, pattern_net}
use Rattle.answers.specs.Done.{done_bytes}
use Rattle.filling.specs.Read.{fillings_read}
use Rattle.answers.specs.declared.outcome.Done.TheVariants as done
use Rattle.finding.specs.Place.{place_answer, place_slip}
use Rattle.swapping.specs.Swap.{replacement_held, swap_answer, swap_slip}

-- 'fillings of any size, each with exactly its blank's ports as marks, that turn the figure into that sheet under E1 to E10'
abbrev pub Turning : List ℕ → List ℕ → List Filling → Type 0
Turning sheet pattern θ = Fits (pattern_net pattern) θ × (holding_term (term_of_text (pattern_held pattern)) θ ≅ term_of_text (sheet_held sheet))

-- the number and the port count of an H row
abbrev pub head_of : Filling → ℕ × ℕ
head_of f = (f.number, f.ports)

-- numbers that are pairwise different
abbrev pub Different : List ℕ → Type 0
Different [] = Unit {0}
Different (n ∷ l) = (¬ (n ∈ l)) × Different l

-- 'Fillings of any size are S, F and E rows in any number, with joint numbers from 1 without end, read as terms: one filling for each
-- blank, its marks exactly that blank's ports'. That each blank has its filling, the joint numbers and the marks are in `Fits`.
pub record Written (F : Net) (θ : List Filling) : Type 0 where
  -- '`S` symbol: name 1..999, joint count n 0..6, then n joints'
  pub symbols : (f : Filling) → f ∈ θ → (name : ℕ) (joints : List ℕ) → symbol_row name joints ∈ f.rows → Range most_name name × (length joints ≤ most_links)
  -- one filling for each blank: no two for one blank, and none besides
  pub different : Different (map (λ (f : Filling). f.number) θ)
  pub of-blank : (f : Filling) → f ∈ θ → head_of f ∈ map blank_of F.contexts

-- the bytes that place wrote
abbrev pub place_written : List ℕ → List ℕ → List ℕ → List ℕ
place_written sheet pattern slip = take (done_bytes (place_answer sheet pattern (length slip))) (place_slip sheet pattern slip)

-- 'it hands out the fillings that document 01 chooses, one for each blank with exactly its ports as marks, and the figure holding
-- them is the same as that sheet'
pub record HandsOut (sheet pattern slip : List ℕ) (θ : List Filling) : Type 0 where
  pub placing : Placing
  pub chosen : smallest (sheet_net sheet) (pattern_net pattern) ≡ some placing
  pub chosen-fillings : θ ≡ normal_fillings_of (sheet_net sheet) placing (pattern_net pattern)
  pub answer : place_answer sheet pattern (length slip) ≡ done.Written (length (list_text θ))
  pub room : length (list_text θ) ≤ slip_length
  pub slip-after : place_slip sheet pattern slip ≡ list_text θ ++ drop (length (list_text θ)) slip
  pub one-for-each : map head_of θ ≡ map blank_of (by_number (pattern_net pattern).contexts)
  pub passes : (outcome_of Fillings no_ports (list_text θ)).answer ≡ Passed
  pub read_back : fillings_read (list_text θ) ≡ θ
  pub turning : Turning sheet pattern θ

-- the table's limits of a result sheet
abbrev pub OverLimits : Flat ℕ → Type 0
OverLimits F = (sheet_atom_limit < length (net_of F).atoms) ⊎ (sheet_link_limit < (net_of F).links)

-- the normal text of the replacement holding fillings
abbrev pub swapped : List ℕ → List ℕ → List Filling → Flat ℕ
swapped pattern replacement θ = filled_normal (graph_of (replacement_held pattern replacement)) θ

-- 'it prints, byte for byte, the normal text of the replacement holding the fillings that the search hands out for that sheet and
-- figure, or says 'too large', exactly when that result is over the table's limits'
pub record Swaps (sheet pattern replacement slip : List ℕ) (θ : List Filling) : Type 0 where
  pub too_large : (swap_answer sheet pattern replacement (length slip) ≡ done.TooLarge) ↔ OverLimits (swapped pattern replacement θ)
  pub answer : ¬ OverLimits (swapped pattern replacement θ) → swap_answer sheet pattern replacement (length slip) ≡ done.Written (length (text_of (swapped pattern replacement θ)))
  pub room : ¬ OverLimits (swapped pattern replacement θ) → length (text_of (swapped pattern replacement θ)) ≤ slip_length
  pub slip-after : ¬ OverLimits (swapped pattern replacement θ)
      → swap_slip sheet pattern replacement slip ≡ text_of (swapped pattern replacement θ) ++ drop (length (text_of (swapped pattern replacement θ))) slip
  -- it passes as a sheet, and is the same as what graph substitution makes of the replacement
  pub passes : ¬ OverLimits (swapped pattern replacement θ) → (outcome_of Plain no_ports (text_of (swapped pattern replacement θ))).answer ≡ Passed
  pub same : ¬ OverLimits (swapped pattern replacement θ) → term_of_text (sheet_held (text_of (swapped pattern replacement θ))) ≅ holding_term (term_of_text (replacement_held pattern replacement)) θ
