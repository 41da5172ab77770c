-- Document 01, 'Tasks' and 'Numbers': what filling a figure from a list answers and writes.
use Rattle.std.specs.Prelude.{ℕ, suc, List, [], ◌∷◌, Bool, eqb, ltb, length}
use Rattle.hyperlmntal.specs.Hypergraph.{Flat}
use Rattle.rows.specs.Pick.{pick, or}
use Rattle.rows.specs.Limits.{sheet_atom_limit, sheet_link_limit}
use Rattle.rows.specs.Held.{Held}
use Rattle.rows.specs.Packed.{ports_of}
use Rattle.rows.specs.declared.Context.{Context}
use Rattle.reading.specs.Graph.{graph_of}
use Rattle.reading.specs.Normal.{class_of, classes_by, marks_of}
use Rattle.normalising.specs.NormalText.{text_of, slip_length}
use Rattle.sheet.specs.Reading.{outcome_of, no_ports}
use Rattle.sheet.specs.declared.kind.Kind.TheVariants.{Figure, Fillings}
use Rattle.sheet.specs.declared.answer.Answer.{Answer}
use Rattle.sheet.specs.declared.answer.Answer.TheVariants.{Passed, Refused}
use Rattle.placing.specs.Fillings.{Filling, rows_graph}
use Rattle.placing.specs.Filled.{filled_graph, filled_normal}
use Rattle.placing.specs.Smallest.{same_list, numbers_to}
use Rattle.filling.specs.Read.{list_held, filling_read, fillings_read}
use Rattle.answers.specs.Done.{slip_after}
use Rattle.answers.specs.declared.outcome.Done.{Done}
use Rattle.answers.specs.declared.outcome.Done.TheVariants as done

abbrev pub figure_held : List ℕ → Held
figure_held figure = (outcome_of Figure no_ports figure).held

-- 8: 'the first B row without a filling of its number and count', by its row, or 0
unfoldable pub first_lacking : List Context → List Context → ℕ
first_lacking heads [] = 0
first_lacking heads (c ∷ l) = pick (eqb (ports_of heads c.number) (suc c.count)) (first_lacking heads l) c.row

-- the marks are 1..n for n ports
abbrev pub is_exact : Filling → Bool
is_exact f = same_list (marks_of (rows_graph f.rows)) (numbers_to f.ports)

-- 9: 'the first filling whose marks are not 1..n, at its H row', by its row, or 0
unfoldable pub first_differing : List ℕ → List Context → ℕ
first_differing list [] = 0
first_differing list (c ∷ l) = pick (is_exact (filling_read list c)) (first_differing list l) c.row

-- 'the figure's S rows, then for each B row in order its filling's S rows'
abbrev pub filled_by : List ℕ → List ℕ → Flat ℕ
filled_by figure list = filled_graph (graph_of (figure_held figure)) (fillings_read list)

-- 'Filled results are normal text'
abbrev pub filled_text : List ℕ → List ℕ → List ℕ
filled_text figure list = text_of (filled_normal (graph_of (figure_held figure)) (fillings_read list))

-- 12: 'a result sheet, as normal text, has over 64 symbols or 96 joints'; its joints are the classes by which it is numbered
abbrev pub is_too_large : Flat ℕ → Bool
is_too_large G = or (ltb sheet_atom_limit (length G.atoms)) (ltb sheet_link_limit (length (classes_by (class_of G.fusions) G)))

-- a figure and a list that passed row by row: 'then 8 and 9 over whole texts, 11, 12'
unfoldable pub filled_answer : List ℕ → List ℕ → Done
filled_answer figure list =
    pick (ltb 0 (first_lacking (list_held list).contexts (figure_held figure).contexts)) (done.BlankClash 1 (first_lacking (list_held list).contexts (figure_held figure).contexts))
    (pick (ltb 0 (first_differing list (list_held list).contexts)) (done.EdgeDiffers 2 (first_differing list (list_held list).contexts))
    (pick (is_too_large (filled_by figure list)) done.TooLarge (done.Written (length (filled_text figure list)))))

-- an input that is refused at a row, or what comes next
abbrev pub unless : Answer → ℕ → Done → Done
unless Passed input next = next
unless (Refused why row) input next = done.Refused input why row

-- 'Order: 10; then the inputs in task order, each row by row'
unfoldable pub fill_answer : List ℕ → List ℕ → ℕ → Done
fill_answer figure list slip =
    pick (ltb slip slip_length) done.ShortSlip
    (unless (outcome_of Figure no_ports figure).answer 1 (unless (outcome_of Fillings no_ports list).answer 2 (filled_answer figure list)))

-- the slip at exit
unfoldable pub fill_slip : List ℕ → List ℕ → List ℕ → List ℕ
fill_slip figure list slip = slip_after (fill_answer figure list (length slip)) (filled_text figure list) slip
