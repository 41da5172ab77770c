-- The order of the vertices of a filled figure: 'the figure's S rows, then for each B row in order its filling's S rows'.
use Prim.Native.Nat.{ℕ, suc}
use mathlib.Core.Path.{◌≡◌, refl, ap, ap₂, sym, ◌∙◌}
use mathlib.Core.List.{List, [], ◌∷◌, ◌++◌, map, map-append, append-nil}
use mathlib.Core.Option.{Option, some, none}
use lib.ListN.{length, length-map}
use Rattle.hyperlmntal.specs.GraphSubstitution.{Entry}
use Rattle.hyperlmntal.specs.Hypergraph.{Node, Cell, Flat, map_cell}
use Rattle.hyperlmntal.specs.Isomorphism.{functor}
use Rattle.hyperlmntal.specs.DenotedSubstitution.{outer_node, plug, entry_for, fill_with, fill_cells}
use Rattle.rows.specs.Held.{Held}
use Rattle.rows.specs.declared.Atom.{Atom}
use Rattle.rows.specs.declared.Context.{Context}
use Rattle.reading.specs.Graph.{atom_cell, context_cell, graph_of}
use Rattle.reading.specs.Normal.{class_of, numbered_by, normal_form_by, normal_form}
use Rattle.placing.specs.Fillings.{Filling}
use Rattle.placing.specs.Filled.{flat_entry, spot_node, filled_graph, filled_normal}
use Rattle.placing.specs.FilledOrder.{put_for, put_for_all}

-- Renaming nodes keeps names and numbers of ports.
functors-kept : {P Q : Type 0} (f : Node P → Node Q) (l : List (Cell P)) → map functor (map (map_cell f) l) ≡ map functor l
functors-kept f [] = refl
functors-kept f (c ∷ l) = ap₂ ◌∷◌ (ap (λ n. (c.label, n)) (length-map c.ports f)) (functors-kept f l)

module _ (θ : List Filling) where
  one-put : (o : Option (Entry (Flat ℕ))) (i : ℕ) (c : Cell ℕ) → map functor (fill_with o i c).atoms ≡ map functor (put_for o c)
  one-put none i c = functors-kept outer_node (c ∷ [])
  one-put (some e) i c = functors-kept (plug i c.ports e.ports) e.body.atoms

  all-put : (i : ℕ) (l : List (Cell ℕ)) → map functor (fill_cells (map flat_entry θ) i l).atoms ≡ map functor (put_for_all θ l)
  all-put i [] = refl
  all-put i (c ∷ l) =
      let o = entry_for (map flat_entry θ) c.label (length c.ports) in
      map-append functor (fill_with o i c).atoms (fill_cells (map flat_entry θ) (suc i) l).atoms
      ∙ ap₂ ◌++◌ (one-put o i c) (all-put (suc i) l)
      ∙ sym (map-append functor (put_for o c) (put_for_all θ l))

  graph-order : (F : Flat ℕ) → map functor (filled_graph F θ).atoms ≡ map functor (put_for_all θ F.atoms)
  graph-order F =
      functors-kept spot_node ((fill_cells (map flat_entry θ) 0 F.atoms).atoms ++ [])
      ∙ ap (map functor) (append-nil (fill_cells (map flat_entry θ) 0 F.atoms).atoms)
      ∙ all-put 0 F.atoms

  -- The vertices of the filled figure as normal text, with their numbers of ports, in order.
  pub filled-order : (F : Flat ℕ) → map functor (filled_normal F θ).atoms ≡ map functor (put_for_all θ F.atoms)
  unfolding normal_form normal_form_by
  filled-order F = functors-kept (numbered_by (class_of (filled_graph F θ).fusions) (filled_graph F θ)) (filled_graph F θ).atoms ∙ graph-order F

  put-text : (a : List Atom) (c : List Context) → put_for_all θ (map atom_cell a ++ map context_cell c) ≡ map atom_cell a ++ put_for_all θ (map context_cell c)
  put-text [] c = refl
  put-text (x ∷ a) c = ap (λ l. atom_cell x ∷ l) (put-text a c)

  -- For the text of a figure.
  pub text-order : (h : Held) → map functor (filled_normal (graph_of h) θ).atoms ≡ map functor (map atom_cell h.atoms ++ put_for_all θ (map context_cell h.contexts))
  text-order h = filled-order (graph_of h) ∙ ap (map functor) (put-text h.atoms h.contexts)
