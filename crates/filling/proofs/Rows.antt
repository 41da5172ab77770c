-- The rows of a filling as read have the hypergraph of what they hold.
use Prim.Native.Nat.{ℕ}
use mathlib.Core.Path.{◌≡◌, refl, ap, sym, ◌∙◌}
use mathlib.Core.List.{List, [], ◌∷◌, ◌++◌, map}
use Rattle.hyperlmntal.specs.Hypergraph.{Flat}
use Rattle.hyperlmntal.proofs.Flats.{flat-≡}
use Rattle.rows.specs.Held.{Held}
use Rattle.rows.specs.declared.Atom.{Atom}
use Rattle.rows.specs.declared.Context.{Context}
use Rattle.reading.specs.Graph.{atom_cell, context_cell, fusion_of, edge_of, graph_of}
use Rattle.placing.specs.Fillings.{Row, rows_graph, mark_of}
use Rattle.filling.specs.Read.{symbol_read, point_read, rows_read}
use Rattle.filling.specs.Parts.{without_heads}

symbols-graph : (l : List Atom) (r : List Row) → rows_graph (map symbol_read l ++ r) ≡ record { atoms = map atom_cell l ++ (rows_graph r).atoms; fusions = (rows_graph r).fusions }
symbols-graph [] r = refl
symbols-graph (a ∷ l) r = let e = symbols-graph l r in flat-≡ (ap (λ (F : Flat ℕ). atom_cell a ∷ F.atoms) e) (ap (λ (F : Flat ℕ). F.fusions) e)

points-graph : (l : List (ℕ × ℕ)) (r : List Row) → rows_graph (map point_read l ++ r) ≡ record { atoms = (rows_graph r).atoms; fusions = map fusion_of l ++ (rows_graph r).fusions }
points-graph [] r = refl
points-graph (a ∷ l) r = let e = points-graph l r in flat-≡ (ap (λ (F : Flat ℕ). F.atoms) e) (ap (λ (F : Flat ℕ). fusion_of a ∷ F.fusions) e)

edges-graph : (l : List (ℕ × ℕ)) → rows_graph (map mark_of l) ≡ record { atoms = []; fusions = map edge_of l }
edges-graph [] = refl
edges-graph (a ∷ l) = let e = edges-graph l in flat-≡ (ap (λ (F : Flat ℕ). F.atoms) e) (ap (λ (F : Flat ℕ). edge_of a ∷ F.fusions) e)

-- With its H row left out.
pub read-graph : (h : Held) → rows_graph (rows_read h) ≡ graph_of (without_heads h)
read-graph h =
    let e = edges-graph h.edges in
    let p = points-graph h.fusions (map mark_of h.edges) in
    symbols-graph h.atoms (map point_read h.fusions ++ map mark_of h.edges)
    ∙ flat-≡
    (ap (λ (F : Flat ℕ). map atom_cell h.atoms ++ F.atoms) p ∙ ap (λ (F : Flat ℕ). map atom_cell h.atoms ++ F.atoms) e)
    (ap (λ (F : Flat ℕ). F.fusions) p ∙ ap (λ (F : Flat ℕ). map fusion_of h.fusions ++ F.fusions) e)

-- What holds no contexts has the hypergraph of its rows.
pub rows-held : (h : Held) → h.contexts ≡ [] → rows_graph (rows_read h) ≡ graph_of h
rows-held h e = read-graph h ∙ ap (λ (l : List Context). record { atoms = map atom_cell h.atoms ++ map context_cell l; fusions = map fusion_of h.fusions ++ map edge_of h.edges }) (sym e)
