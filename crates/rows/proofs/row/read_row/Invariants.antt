-- What is left of a field's columns, and of a row's fields, says what the whole says; the numbers not read yet are 0.
use Prim.Native.Nat.{ℕ, ◌<◌, ◌≤◌, ◌-◌, ◌^◌}
use mathlib.Core.Path.{◌≡◌}
use mathlib.Core.Bool.{true, false}
use lib.ListN.{length, drop, get_or}
use Rattle.rows.specs.Format.{field_count}
use Rattle.rows.specs.Row.{field_of, fields_of, row_of}
use Rattle.rows.proofs.RowLaws.{columns}
use Rattle.rows.proofs.row.read_row.Given as goal

abbrev pub invariant-loop-col : goal.invariant-loop-col
invariant-loop-col l = (l.good ≡ l.initial.good) × (l.n < 10 ^ l.col) × (field_of false 0 (columns l.row l.at) ≡ field_of l.filled l.n (drop l.col (columns l.row l.at)))

abbrev pub invariant-row : goal.invariant-row
invariant-row l = (l.good ≡ true) × (length l.nums ≡ field_count) × ((i : ℕ) → l.f ≤ i → get_or l.nums i 0 ≡ 0) × (row_of l.row ≡ fields_of l.row l.letter l.f l.nums (field_count - l.f))
