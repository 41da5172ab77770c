-- The arrays of a filled figure.
use Rattle.std.specs.Prelude.{ℕ, ◌+◌, ◌*◌, ◌<◌, ◌≤◌, ◌≡◌, List, true, false}
use Rattle.rows.specs.Format.{row_width}
use Rattle.rows.specs.Limits.{sheet_atom_limit, sheet_link_limit}
use Rattle.reading.specs.Graph.{graph_of}
use Rattle.normalising.specs.NormalText.{slip_length}
use Rattle.normalising.specs.NormalRows.{normal_rows, Writable}
use Rattle.rows.specs.declared.Sheet as form
use Rattle.placing.specs.Net.{net_of}
use Rattle.placing.specs.Filled.{filled_normal}
use Rattle.filling.specs.Read.{fillings_read}
use Rattle.filling.specs.Fill.{figure_held, filled_by, filled_text, is_too_large}
use Rattle.network.specs.NetIn.{net_in, Fit}

-- within the limits of a sheet they are those of the filled figure's normal form; else a count is above its limit
pub record FilledIs (text list : List ℕ) (r : form.Sheet) : Type 0 where
  pub large-atoms : sheet_atom_limit < r.atom_count → is_too_large (filled_by text list) ≡ true
  pub large-links : sheet_link_limit < r.class_count → is_too_large (filled_by text list) ≡ true
  pub not-large : r.atom_count ≤ sheet_atom_limit → r.class_count ≤ sheet_link_limit → is_too_large (filled_by text list) ≡ false
  pub fit : r.atom_count ≤ sheet_atom_limit → r.class_count ≤ sheet_link_limit → Fit r
  pub net : r.atom_count ≤ sheet_atom_limit → r.class_count ≤ sheet_link_limit → net_in r ≡ net_of (filled_normal (graph_of (figure_held text)) (fillings_read list))
  pub rows : r.atom_count ≤ sheet_atom_limit → r.class_count ≤ sheet_link_limit → normal_rows r ≡ filled_text text list
  pub writable : r.atom_count ≤ sheet_atom_limit → r.class_count ≤ sheet_link_limit → Writable r × ((r.atom_count + r.context_count + r.mark_count) * row_width ≤ slip_length)
