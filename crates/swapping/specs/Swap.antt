-- Document 01, 'Swap: sheet, pattern, replacement; place, then fill the replacement': what swapping answers and writes.
use Rattle.std.specs.Prelude.{ℕ, List, [], Bool, ltb, length}
use Rattle.std.proofs.Math.Option.{Option, none, some}
use Rattle.hyperlmntal.specs.Hypergraph.{Flat}
use Rattle.rows.specs.Pick.{pick}
use Rattle.rows.specs.Held.{Held}
use Rattle.rows.specs.Packed.{port_table}
use Rattle.reading.specs.Graph.{graph_of}
use Rattle.reading.specs.Normal.{marks_of}
use Rattle.normalising.specs.NormalText.{text_of, slip_length}
use Rattle.sheet.specs.Reading.{Outcome, outcome_of, no_ports}
use Rattle.sheet.specs.declared.kind.Kind.TheVariants.{Plain, Pattern, Replacement}
use Rattle.placing.specs.Fillings.{Filling}
use Rattle.placing.specs.Filled.{filled_graph, filled_normal}
use Rattle.placing.specs.Smallest.{same_list}
use Rattle.placing.specs.TextNets.{pattern_held}
use Rattle.answers.specs.Done.{slip_after}
use Rattle.filling.specs.Fill.{unless, is_too_large}
use Rattle.answers.specs.declared.outcome.Done.{Done}
use Rattle.answers.specs.declared.outcome.Done.TheVariants as done
use Rattle.finding.specs.Place.{placed_fillings}

-- a replacement is read with the port counts of the pattern's blanks
abbrev pub replacement_read : List ℕ → List ℕ → Outcome
replacement_read pattern replacement = outcome_of Replacement (port_table (pattern_held pattern).contexts) replacement

abbrev pub replacement_held : List ℕ → List ℕ → Held
replacement_held pattern replacement = (replacement_read pattern replacement).held

-- each mark once, ascending, of both
abbrev pub same_marks : Held → Held → Bool
same_marks a b = same_list (marks_of (graph_of a)) (marks_of (graph_of b))

-- 11; 12: 'a result sheet, as normal text, has over 64 symbols or 96 joints'
abbrev pub swapped_answer : Flat ℕ → Option (List Filling) → Done
swapped_answer R none = done.NoPlacing
swapped_answer R (some θ) = pick (is_too_large (filled_graph R θ)) done.TooLarge (done.Written (length (text_of (filled_normal R θ))))

abbrev pub swapped_text : Flat ℕ → Option (List Filling) → List ℕ
swapped_text R none = []
swapped_text R (some θ) = text_of (filled_normal R θ)

-- 'Order: 10; then the inputs in task order, each row by row'; 9: 'in a swap, replacement and pattern with different mark sets (input 3,
-- row 0)'; 11, 12
unfoldable pub swap_answer : List ℕ → List ℕ → List ℕ → ℕ → Done
swap_answer sheet pattern replacement slip =
    pick (ltb slip slip_length) done.ShortSlip
    (unless (outcome_of Plain no_ports sheet).answer 1
    (unless (outcome_of Pattern no_ports pattern).answer 2
    (unless (replacement_read pattern replacement).answer 3
    (pick (same_marks (replacement_held pattern replacement) (pattern_held pattern)) (swapped_answer (graph_of (replacement_held pattern replacement)) (placed_fillings sheet pattern)) (done.EdgeDiffers 3 0)))))

-- the slip at exit
unfoldable pub swap_slip : List ℕ → List ℕ → List ℕ → List ℕ → List ℕ
swap_slip sheet pattern replacement slip =
    slip_after (swap_answer sheet pattern replacement (length slip)) (swapped_text (graph_of (replacement_held pattern replacement)) (placed_fillings sheet pattern)) slip
