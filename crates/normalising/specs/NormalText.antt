-- Document 01, 'Normal text': the bytes of a normal form, and what normalising answers and writes.
use Rattle.std.specs.Prelude.{ℕ, List, [], ◌∷◌, ◌++◌, map, ltb, length, drop}
use Rattle.hyperlmntal.specs.Link.{local, free}
use Rattle.hyperlmntal.specs.Hypergraph.{Node, inner, name, Label, symbol, hole, Cell, Fusion, Flat}
use Rattle.rows.specs.Pick.{pick}
use Rattle.writing.specs.RowText.{row_bytes}
use Rattle.sheet.specs.Answer.{refusal_number}
use Rattle.reading.specs.Graph.{graph_of}
use Rattle.reading.specs.Normal.{normal_form}
use Rattle.sheet.specs.Reading.{outcome_of, no_ports}
use Rattle.sheet.specs.declared.kind.Kind.{Kind}
use Rattle.sheet.specs.declared.answer.Answer.{Answer}
use Rattle.sheet.specs.declared.answer.Answer.TheVariants.{Passed, Refused}
use Rattle.normalising.specs.declared.normalise.Normalised.{Normalised}
use Rattle.normalising.specs.declared.normalise.Normalised.TheVariants as done

-- the number of a joint, or of a mark
abbrev pub node_number : Node ℕ → ℕ
node_number (inner n) = n
node_number (name (local n)) = n
node_number (name (free m)) = m

-- an S row or a B row
abbrev pub cell_bytes : Cell ℕ → List ℕ
cell_bytes c = row_for c.label
  where
    row_for : Label → List ℕ
    row_for (symbol p) = row_bytes 83 (p ∷ length c.ports ∷ map node_number c.ports)
    row_for (hole x) = row_bytes 66 (x ∷ length c.ports ∷ map node_number c.ports)

-- an E row: a joint and a mark
abbrev pub edge_bytes : Fusion ℕ → List ℕ
edge_bytes e = row_bytes 69 (node_number e.0 ∷ node_number e.1 ∷ [])

unfoldable pub joined : List (List ℕ) → List ℕ
joined [] = []
joined (r ∷ l) = r ++ joined l

-- 'S rows in their order, then B rows in theirs, then one E row per mark'
abbrev pub text_of : Flat ℕ → List ℕ
text_of F = joined (map cell_bytes F.atoms) ++ joined (map edge_bytes F.fusions)

-- the normal text of a sheet or a figure
abbrev pub normal_text_of : Kind → List ℕ → List ℕ
normal_text_of kind text = text_of (normal_form (graph_of (outcome_of kind no_ports text).held))

-- an output slip has at least 4,096 bytes
abbrev pub slip_length : ℕ
slip_length = 4096

abbrev pub answered : Answer → ℕ → Normalised
answered Passed bytes = done.Written bytes
answered (Refused why row) bytes = done.Refused why row

-- the answer: 10 before anything is read, then the reader's refusal, then the bytes written
unfoldable pub normalised_answer : Kind → List ℕ → ℕ → Normalised
normalised_answer kind text slip = pick (ltb slip slip_length) done.ShortSlip (answered (outcome_of kind no_ports text).answer (length (normal_text_of kind text)))

abbrev pub written_over : Answer → List ℕ → List ℕ → List ℕ
written_over Passed text slip = text ++ drop (length text) slip
written_over (Refused why row) text slip = slip

-- the slip at exit: a refusal leaves it, success changes only the bytes counted
unfoldable pub normalised_slip : Kind → List ℕ → List ℕ → List ℕ
normalised_slip kind text slip = pick (ltb (length slip) slip_length) slip (written_over (outcome_of kind no_ports text).answer (normal_text_of kind text) slip)

-- document 01's number, input, row and bytes written of each answer
abbrev pub normalised_number : Normalised → ℕ
normalised_number (done.Written bytes) = 0
normalised_number done.ShortSlip = 10
normalised_number (done.Refused why row) = refusal_number why

abbrev pub normalised_input : Normalised → ℕ
normalised_input (done.Written bytes) = 0
normalised_input done.ShortSlip = 0
normalised_input (done.Refused why row) = 1

abbrev pub normalised_row : Normalised → ℕ
normalised_row (done.Written bytes) = 0
normalised_row done.ShortSlip = 0
normalised_row (done.Refused why row) = row

abbrev pub normalised_bytes : Normalised → ℕ
normalised_bytes (done.Written bytes) = bytes
normalised_bytes done.ShortSlip = 0
normalised_bytes (done.Refused why row) = 0
