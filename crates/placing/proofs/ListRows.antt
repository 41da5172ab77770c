-- A row of a filling in a list of fillings, its numbers in range, is taken in, as long as the limits of a list allow it.
use Prim.Native.Nat.{ℕ, ◌+◌, ◌<◌, ◌≤◌}
use mathlib.Core.List.{List, [], ◌∷◌, map}
use native.Mathlib.Omega.{arith}
use lib.ListN.{length}
use Rattle.rows.specs.Limits.{row_limit, figure_contexts, sheet_atom_limit}
use Rattle.rows.specs.Held.{Held}
use Rattle.sheet.specs.declared.kind.Kind.TheVariants.{Fillings}
use Rattle.texts.specs.Fitting.{Stock}
use Rattle.texts.proofs.BuiltRows.{held_atom, Stocked, Led, led-symbol, led-fusion, led-edge}
use Rattle.placing.specs.Fillings.{Row, symbol_row, point_row, edge_row}
use Rattle.placing.specs.ListText.{row_text}
use Rattle.placing.specs.ListFits.{symbols_in, points_in, edges_in, RowFits}

module _ (given links marks : List ℕ) (stock : Stock Fillings links marks) (g : Held) (s : Stocked Fillings links marks g) (room : g.rows < row_limit) (few : length g.contexts ≤ figure_contexts) where
  pub one-row : (r : Row) → RowFits links marks r → length g.atoms + length (symbols_in (r ∷ [])) ≤ sheet_atom_limit
      → (h : Held) × Led Fillings given links marks g h 1 (row_text r) (map held_atom (symbols_in (r ∷ []))) [] (points_in (r ∷ [])) (edges_in (r ∷ []))
  one-row (symbol_row a l) f atoms = (_, led-symbol Fillings given links marks stock g s room few (a, l) f (omega arith))
  one-row (point_row x y) f atoms = (_, led-fusion Fillings given links marks stock g s room few x y f.0 f.1 (omega arith))
  one-row (edge_row x m) f atoms = (_, led-edge Fillings given links marks stock g s room few x m f.0 f.1 (omega arith))
