-- Numbers in a normal form run from 1 to the number of classes, and a text has no more classes than links, no more marks than
-- were read.
use Prim.Native.Nat.{ℕ, ◌≤◌}
use mathlib.Core.Path.{◌≡◌, sym, ap, ◌∙◌}
use mathlib.Core.List.Memᴰ
use mathlib.Core.List.{List, map}
use mathlib.Core.Logic.{inl, inr}
use native.Mathlib.Omega.{arith}
use lib.ListN.{length, length-map}
use Rattle.hyperlmntal.specs.Link.{free, ◌∈◌}
use Rattle.hyperlmntal.specs.Hypergraph.{Node, inner, name, Flat, Connected, along, back, then, port_nodes, nodes}
use Rattle.hyperlmntal.proofs.Lists.{all_map, all_append}
use Rattle.hyperlmntal.proofs.Connection.{connected-≡}
use Rattle.rows.specs.Held.{Held}
use Rattle.reading.specs.Graph.{fusion_of, edge_of, graph_of}
use Rattle.reading.specs.Normal.{class_of, mark_node, marks_of, shown, distinct, classes_by, number_by, normal_form_by, normal_form}
use Rattle.reading.proofs.normal.Classes.{class-of-connected}
use Rattle.reading.proofs.normal.Distinct.{index_below, distinct-in, distinct_of, Once, distinct-once, once-length}
use Rattle.reading.proofs.normal.Marks.{marks-of, Ascending, marks-ascending, ascending-once}
use Rattle.reading.proofs.normal.NormalNodes.{Formed, form-nodes}
use Rattle.reading.proofs.normal.TextGraph.{Linked, graph-port, graph-name}

-- The number of classes that do not vanish.
abbrev pub class_total : Flat ℕ → ℕ
class_total F = length (classes_by (class_of F.fusions) F)

module _ (label : Node ℕ → ℕ) (F : Flat ℕ) where
  pub number-range : (x : Node ℕ) → x ∈ shown F → (1 ≤ number_by label F x) × (number_by label F x ≤ length (classes_by label F))
  unfolding number_by classes_by
  number-range x i = let h = index_below (label x) (distinct (map label (shown F))) (distinct-in (label x) (map label (shown F)) (Memᴰ.map label i)) in omega arith

  pub form-range : (n : ℕ) → inner n ∈ nodes (normal_form_by label F) → (1 ≤ n) × (n ≤ length (classes_by label F))
  form-range n i = at (form-nodes label F (inner n) i)
    where
      at : Formed label F (inner n) → (1 ≤ n) × (n ≤ length (classes_by label F))
      at (inl t) = let p : inner n ≡ inner (number_by label F t.0) = t.2 in let q : n ≡ number_by label F t.0 = cc in rw q (number-range t.0 t.1)
      at (inr t) = let p : inner n ≡ mark_node t.0 = t.2 in absurd (let z : ◌≡◌ {A = ℕ} 0 1 = cc in omega arith)

pub normal-range : (F : Flat ℕ) (n : ℕ) → inner n ∈ nodes (normal_form F) → (1 ≤ n) × (n ≤ class_total F)
unfolding normal_form
normal-range F n i = form-range (class_of F.fusions) F n i

-- No more classes than local links in a list that reaches every node that is shown.
pub classes-bound : (F : Flat ℕ) (l : List ℕ) → ((x : Node ℕ) → x ∈ shown F → (n : ℕ) × (n ∈ l) × Connected F.fusions x (inner n))
    → class_total F ≤ length l
unfolding classes_by
classes-bound F l reach =
    let h = once-length (distinct labels) (map own l) (distinct-once labels) (λ k i. there k (Memᴰ.of_map label (shown F) (distinct_of k labels i))) in
    omega (arith, length-map l own)
  where
    label : Node ℕ → ℕ
    label = class_of F.fusions

    labels : List ℕ
    labels = map label (shown F)

    own : ℕ → ℕ
    own n = label (inner n)

    there : (k : ℕ) → (x : Node ℕ) × (x ∈ shown F) × (label x ≡ k) → k ∈ map own l
    there k t = let r = reach t.0 t.1 in Memᴰ.cast (sym t.2 ∙ class-of-connected F.fusions r.2) (Memᴰ.map own r.1)

-- The marks are ascending, and so distinct.
pub normal-marks : (F : Flat ℕ) → Ascending (marks_of F) × Once (marks_of F)
normal-marks F = (marks-ascending (nodes F), ascending-once (marks_of F) (marks-ascending (nodes F)))

module _ (h : Held) where
  text-reach : (l : List ℕ) → Linked h l → (x : Node ℕ) → x ∈ shown (graph_of h) → (n : ℕ) × (n ∈ l) × Connected (graph_of h).fusions x (inner n)
  text-reach l k = all_append (port_nodes (graph_of h).atoms) (map mark_node (marks_of (graph_of h))) Reached port (all_map mark_node (marks_of (graph_of h)) Reached mark)
    where
      Reached : Node ℕ → Type 0
      Reached x = (n : ℕ) × (n ∈ l) × Connected (graph_of h).fusions x (inner n)

      port : (x : Node ℕ) → x ∈ port_nodes (graph_of h).atoms → Reached x
      port x i = let t = graph-port h (λ n. n ∈ l) k.atoms k.contexts x i in (t.0, t.1, connected-≡ _ t.2)

      mark : (m : ℕ) → m ∈ marks_of (graph_of h) → Reached (mark_node m)
      mark m i =
          let t = graph-name h (free m) (marks-of (nodes (graph_of h)) m i) in
          let j = Memᴰ.append_right (map fusion_of h.fusions) (Memᴰ.map edge_of t.1) in
          (t.0.0, k.edges t.0 t.1, then (connected-≡ _ (ap name t.2)) (back (along j)))

  pub text-classes : (l : List ℕ) → Linked h l → class_total (graph_of h) ≤ length l
  text-classes l k = classes-bound (graph_of h) l (text-reach l k)

  pub text-links : Linked h h.wiring.links → class_total (graph_of h) ≤ length h.wiring.links
  text-links k = text-classes h.wiring.links k

  -- No more marks than in a list that has those of all edges.
  pub text-marks : (l : List ℕ) → ((e : ℕ × ℕ) → e ∈ h.edges → e.1 ∈ l) → length (marks_of (graph_of h)) ≤ length l
  text-marks l k =
      once-length (marks_of (graph_of h)) l (normal-marks (graph_of h)).1
      (λ m i.
      let e = graph-name h (free m) (marks-of (nodes (graph_of h)) m i) in
      let p : free m ≡ free e.0.1 = e.2 in
      let q : m ≡ e.0.1 = cc in
      Memᴰ.cast q (k e.0 e.1))
