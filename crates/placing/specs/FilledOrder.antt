-- Document 01, 'Tasks': the order of a filled figure, 'the figure's S rows, then for each B row in order its filling's S rows'.
use Rattle.std.specs.Prelude.{ℕ, List, [], ◌∷◌, ◌++◌, map, length}
use Rattle.std.proofs.Math.Option.{Option, some, none}
use Rattle.hyperlmntal.specs.GraphSubstitution.{Entry}
use Rattle.hyperlmntal.specs.Hypergraph.{Cell, Flat}
use Rattle.hyperlmntal.specs.DenotedSubstitution.{entry_for}
use Rattle.placing.specs.Fillings.{Filling}
use Rattle.placing.specs.Filled.{flat_entry}

-- what is put for a vertex: the atoms of its filling, or itself where it has none
abbrev pub put_for : Option (Entry (Flat ℕ)) → Cell ℕ → List (Cell ℕ)
put_for none c = c ∷ []
put_for (some e) c = e.body.atoms

abbrev pub put_for_all : List Filling → List (Cell ℕ) → List (Cell ℕ)
put_for_all θ [] = []
put_for_all θ (c ∷ l) = put_for (entry_for (map flat_entry θ) c.label (length c.ports)) c ++ put_for_all θ l
