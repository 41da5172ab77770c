-- The classes of a filled figure by its labels: how many there are, and the number of each.
use Prim.Native.Nat.{ℕ, suc}
use mathlib.Core.Path.{◌≡◌, refl, ap, ap₂, sym, ◌∙◌, subst}
use mathlib.Core.Logic.{◌↔◌}
use mathlib.Core.List.{List, ◌++◌, map, map-map, map-append}
use native.Mathlib.Omega.{arith}
use lib.ListN.{length}
use Rattle.hyperlmntal.specs.Link.{Link, free, ◌∈◌}
use Rattle.hyperlmntal.specs.Hypergraph.{Node, inner, name, Fusion, Connected, stay, along, back, then, port_nodes, nodes, map_fusion}
use Rattle.hyperlmntal.specs.DenotedSubstitution.{Spot}
use Rattle.hyperlmntal.proofs.Lists.{all_map}
use Rattle.hyperlmntal.proofs.Connection.{connected-ind, connected-image, recast}
use Rattle.hyperlmntal.proofs.Flats.{port_nodes-map, on-map, on-of-map}
use Rattle.hyperlmntal.proofs.ExactPorts.{ExactFlat, exact-names}
use Rattle.rows.specs.Held.{index_of}
use Rattle.reading.specs.Normal.{class_of, mark_node, marks_of, shown, distinct, classes_by, number_by}
use Rattle.reading.specs.NormalSheet.{normal_marks}
use Rattle.reading.proofs.normal.Classes.{class-of-connected, connected-of-class}
use Rattle.reading.proofs.normal.Distinct.{Agree, index-agree, length-agree}
use Rattle.reading.proofs.normal.Marks.{marks-in, marks-of, marks-ascending, ascending-same}
use Rattle.placing.specs.Fillings.{ExactMarks, AllExactMarks}
use Rattle.placing.specs.Filled.{flat_entry, spot_number, spot_node}
use Rattle.placing.proofs.Names.{exact-flat}
use Rattle.placing.proofs.FilledText.{spot-injective}
use Rattle.filling.specs.Read.{filling_read, fillings_read, list_held}
use Rattle.filling.specs.Fill.{figure_held, filled_by}
use Rattle.filling.specs.Glued.{Own}
use Rattle.filling.proofs.Exact.{exact-marks}
use Rattle.filling.specs.Right.{Right}
use Rattle.filling.proofs.Located.{figure_graph, filled_spots}
use Rattle.filling.proofs.Labelled.{label, labels-tell, connected-same}
use Rattle.filling.proofs.Shown.{spot_mark, shown_spots, shown-stands}

node-injective : (a b : Node (Spot ℕ ℕ)) → spot_node a ≡ spot_node b → a ≡ b
node-injective (inner s) (inner t) e = let p : ◌≡◌ {A = Node ℕ} (inner (spot_number s)) (inner (spot_number t)) = e in let q : spot_number s ≡ spot_number t = cc in ap inner (spot-injective s t q)
node-injective (inner s) (name X) e = absurd (let p : ◌≡◌ {A = Node ℕ} (inner (spot_number s)) (name X) = e in let z : ◌≡◌ {A = ℕ} 0 1 = cc in omega arith)
node-injective (name X) (inner t) e = absurd (let p : ◌≡◌ {A = Node ℕ} (name X) (inner (spot_number t)) = e in let z : ◌≡◌ {A = ℕ} 0 1 = cc in omega arith)
node-injective (name X) (name Y) e = let p : ◌≡◌ {A = Node ℕ} (name X) (name Y) = e in cc

-- Numbering the links connects nothing more.
spot-connected : (E : List (Fusion (Spot ℕ ℕ))) (x y : Node (Spot ℕ ℕ)) → Connected (map (map_fusion spot_node) E) (spot_node x) (spot_node y) → Connected E x y
spot-connected E x y c =
    let t = (connected-ind (map (map_fusion spot_node) E) Reached (all_map (map_fusion spot_node) E (λ e. Reached e.0 ↔ Reached e.1) step) c).0 (x, refl, stay) in
    subst (λ n. Connected E x n) (node-injective t.0 y t.1) t.2
  where
    Reached : Node ℕ → Type 0
    Reached a = (n : Node (Spot ℕ ℕ)) × (spot_node n ≡ a) × Connected E x n

    step : (e : Fusion (Spot ℕ ℕ)) → e ∈ E → Reached (spot_node e.0) ↔ Reached (spot_node e.1)
    step e m = (
      λ t. (e.1, refl, then (subst (λ n. Connected E x n) (node-injective t.0 e.0 t.1) t.2) (along m)),
      λ t. (e.0, refl, then (subst (λ n. Connected E x n) (node-injective t.0 e.1 t.1) t.2) (back (along m))),
    )

module _ (figure list : List ℕ) (right : Right figure list) where
  pub exact-fillings : AllExactMarks (fillings_read list)
  exact-fillings = all_map (filling_read list) (list_held list).contexts (λ f. ExactMarks f.ports f.rows) (λ c i. exact-marks (filling_read list c) (right.exact c i))

  -- The marks of the filled figure are the figure's.
  pub marks-same : marks_of (filled_by figure list) ≡ normal_marks (figure_held figure)
  marks-same =
      ascending-same (marks_of (filled_by figure list)) (normal_marks (figure_held figure)) (marks-ascending (nodes (filled_by figure list))) (marks-ascending (nodes (figure_graph figure list)))
      (λ m. (
        λ i. let t = on-of-map spot_node (filled_spots figure list) (marks-of (nodes (filled_by figure list)) m i) in
            marks-in (nodes (figure_graph figure list)) m ((names (free m)).0 (subst (λ n. n ∈ nodes (filled_spots figure list)) (node-injective t.0 (name (free m)) t.2) t.1)),
        λ i. marks-in (nodes (filled_by figure list)) m (on-map spot_node (filled_spots figure list) ((names (free m)).1 (marks-of (nodes (figure_graph figure list)) m i))),
      ))
    where
      names : (X : Link) → (name X ∈ nodes (filled_spots figure list)) ↔ (name X ∈ nodes (figure_graph figure list))
      names X = exact-names ℕ ℕ (map flat_entry (fillings_read list)) (all_map flat_entry (fillings_read list) ExactFlat (λ f j. exact-flat f (exact-fillings f j))) X (figure_graph figure list)

  module _ (own : List ℕ) (O : Own own) where
    abbrev pub classes : List ℕ
    classes = distinct (map (label figure list right own O) (shown_spots figure list right own O))

    abbrev class : Node (Spot ℕ ℕ) → ℕ
    class x = class_of (filled_by figure list).fusions (spot_node x)

    pub shown-is : shown (filled_by figure list) ≡ map spot_node (shown_spots figure list right own O)
    shown-is =
        ap₂ ◌++◌ (port_nodes-map spot_node (filled_spots figure list).atoms) (ap (map mark_node) marks-same ∙ sym (map-map spot_node (spot_mark figure list right own O) (normal_marks (figure_held figure))))
        ∙ sym (map-append spot_node (port_nodes (filled_spots figure list).atoms) (map (spot_mark figure list right own O) (normal_marks (figure_held figure))))

    labels-agree : Agree (shown_spots figure list right own O) class (label figure list right own O)
    labels-agree x y i j =
        let s = shown-stands figure list right own O x i in
        let t = shown-stands figure list right own O y j in (
          λ e. connected-same figure list right own O (spot-connected (filled_spots figure list).fusions x y (connected-of-class (filled_by figure list).fusions (spot_node x) (spot_node y) e)),
          λ e. class-of-connected (filled_by figure list).fusions (connected-image (filled_spots figure list).fusions spot_node
              (recast s.3 t.3 (labels-tell figure list right own O (s.0, s.1) (t.0, t.1) s.2 t.2 (sym s.4 ∙ e ∙ t.4)))),
        )

    classes-are : classes_by (class_of (filled_by figure list).fusions) (filled_by figure list) ≡ distinct (map class (shown_spots figure list right own O))
    unfolding classes_by
    classes-are = ap distinct (ap (map (class_of (filled_by figure list).fusions)) shown-is ∙ map-map (class_of (filled_by figure list).fusions) spot_node (shown_spots figure list right own O))

    pub class-count : length (classes_by (class_of (filled_by figure list).fusions) (filled_by figure list)) ≡ length classes
    class-count = ap length classes-are ∙ length-agree (shown_spots figure list right own O) class (label figure list right own O) labels-agree

    pub class-number : (x : Node (Spot ℕ ℕ)) → x ∈ shown_spots figure list right own O → number_by (class_of (filled_by figure list).fusions) (filled_by figure list) (spot_node x) ≡ suc (index_of (label figure list right own O x) classes)
    unfolding number_by
    class-number x i = ap (λ l. suc (index_of (class x) l)) classes-are ∙ ap suc (index-agree (shown_spots figure list right own O) class (label figure list right own O) labels-agree x i)
