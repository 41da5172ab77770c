-- Links and contexts of the least good placing with given atoms, or that there is none.
use Rattle.std.specs.Prelude.{ℕ, List, ◌++◌, take, Option, Some, None}
use Rattle.std.proofs.Math.Option.{Option as Maybe, none, some}
use Rattle.rows.specs.declared.Sheet as form
use Rattle.settling.specs.declared.complete.Completed.{Completed}

abbrev pub completed_in : form.Sheet → form.Sheet → Option Completed → Maybe (List ℕ)
completed_in sheet figure None = none
completed_in sheet figure (Some r) = some (take figure.class_count r.links_to ++ take sheet.atom_count r.given)
