-- What is held agrees with its hypergraph: the wiring has exactly the graph's nodes, and its labels
-- are the graph's classes. Every row of a sheet or a figure keeps this.
use Prim.Native.Nat.{ℕ, ◌<◌}
use mathlib.Core.Path.{sym, subst}
use mathlib.Core.List.Memᴰ
use mathlib.Core.List.{List, [], ◌∷◌, ◌++◌, map, map-append, append-nil}
use mathlib.Core.Logic.{◌⊎◌, inl, inr, ⊎_elim, ◌↔◌}
use native.Mathlib.Omega.{arith}
use lib.ListN.{get_or}
use Rattle.hyperlmntal.specs.Link.{free, ◌∈◌}
use Rattle.hyperlmntal.specs.Hypergraph.{Node, inner, name, port_nodes, end_nodes, nodes}
use Rattle.hyperlmntal.proofs.Flats.{port_nodes-append, end_nodes-append}
use Rattle.rows.specs.Held.{Wiring, Held, with_link, with_links, merged, with_fusion, with_mark, links_of, with_atom, with_context, with_fusion_row, with_edge_row, with_head, with_row}
use Rattle.rows.specs.declared.row.Row.{Row}
use Rattle.linking.proofs.Wired.{link-by, links-there, mark-by, row_by}
use Rattle.reading.specs.Graph.{atom_cell, context_cell, fusion_of, edge_of, graph_of}
use Rattle.reading.specs.Agrees.{Known, Labels, Agrees}
use Rattle.reading.proofs.normal.Merging.{Adds}
use Rattle.reading.proofs.normal.Labelled.{labels-none, labels-links, labels-fusion, labels-mark, added-known, merged-known, marked-known}

-- The wiring v has the nodes of w, and those of a list.
abbrev pub Gains : Wiring → Wiring → List (Node ℕ) → Type 0
Gains w v more = (n : Node ℕ) → Known v n ↔ (Known w n ⊎ (n ∈ more))

pub gains-link : (w : Wiring) (x : ℕ) → Gains w (with_link w x) (inner x ∷ [])
gains-link w x n = link-by w x (λ v. Known v n ↔ (Known w n ⊎ (n ∈ (inner x ∷ []))))
    (λ h. (λ k. inl k, ⊎_elim (λ k. k) (λ e. subst (Known w) (sym (Memᴰ.eq_of_singleton e)) h)))
    (λ h. (
      λ k. ⊎_elim (λ o. inl o) (λ e. inr (Memᴰ.head e)) ((added-known w x h n).0 k),
      ⊎_elim (λ k. (added-known w x h n).1 (inl k)) (λ e. (added-known w x h n).1 (inr (Memᴰ.eq_of_singleton e))),
    ))

pub gains-links : (w : Wiring) (l : List ℕ) → Gains w (with_links w l) (map inner l)
unfolding with_links
gains-links w [] n = (λ k. inl k, ⊎_elim (λ k. k) (λ e. absurd (Memᴰ.not-nil e)))
gains-links w (x ∷ l) n = (
  λ k. ⊎_elim (λ o. ⊎_elim (λ p. inl p) (λ e. inr (Memᴰ.head (Memᴰ.eq_of_singleton e))) ((gains-link w x n).0 o)) (λ e. inr (Memᴰ.tail e)) ((gains-links (with_link w x) l n).0 k),
  λ s. (gains-links (with_link w x) l n).1 (⊎_elim
      (λ k. inl ((gains-link w x n).1 (inl k)))
      (λ e. ⊎_elim (λ p. inl ((gains-link w x n).1 (inr (Memᴰ.head p)))) (λ p. inr p) (Memᴰ.cases_cons e))
      s),
)

pub gains-mark : (w : Wiring) (a m : ℕ) → Gains w (with_mark w a m) (name (free m) ∷ [])
gains-mark w a m n = mark-by w a m (λ v. Known v n ↔ (Known w n ⊎ (n ∈ (name (free m) ∷ []))))
    (λ h. (λ k. inl ((merged-known w _ _ n).0 k), ⊎_elim (λ k. (merged-known w _ _ n).1 k) (λ e. (merged-known w _ _ n).1 (subst (Known w) (sym (Memᴰ.eq_of_singleton e)) h))))
    (λ h. (
      λ k. ⊎_elim (λ o. inl o) (λ e. inr (Memᴰ.head e)) ((marked-known w a m h n).0 k),
      ⊎_elim (λ k. (marked-known w a m h n).1 (inl k)) (λ e. (marked-known w a m h n).1 (inr (Memᴰ.eq_of_singleton e))),
    ))

pub gains-merged : (w : Wiring) (i j : ℕ) → Gains w (merged w i j) []
gains-merged w i j n = (λ k. inl ((merged-known w i j n).0 k), ⊎_elim (λ k. (merged-known w i j n).1 k) (λ e. absurd (Memᴰ.not-nil e)))

pub gains-then : (u v w : Wiring) (k l : List (Node ℕ)) → Gains u v k → Gains v w l → Gains u w (k ++ l)
gains-then u v w k l p q n = (
  λ a. ⊎_elim (λ b. ⊎_elim (λ c. inl c) (λ c. inr (Memᴰ.append_left l c)) ((p n).0 b)) (λ b. inr (Memᴰ.append_right k b)) ((q n).0 a),
  ⊎_elim (λ a. (q n).1 (inl ((p n).1 (inl a)))) (λ a. ⊎_elim (λ b. (q n).1 (inl ((p n).1 (inr b)))) (λ b. (q n).1 (inr b)) (Memᴰ.append_cases k a)),
)

-- A list with more behind it, or behind a part of it.
pub adds-behind : {A : Type 0} (l more : List A) → Adds l more (l ++ more)
adds-behind l more a = (λ m. Memᴰ.append_cases l m, ⊎_elim (λ m. Memᴰ.append_left more m) (λ m. Memᴰ.append_right l m))

module _ {A : Type 0} (l more k : List A) where
  pub adds-left : (r : List A) → Adds l more k → Adds (l ++ r) more (k ++ r)
  adds-left r p a = (
    λ m. ⊎_elim (λ q. ⊎_elim (λ b. inl (Memᴰ.append_left r b)) (λ b. inr b) ((p a).0 q)) (λ q. inl (Memᴰ.append_right l q)) (Memᴰ.append_cases k m),
    ⊎_elim (λ m. ⊎_elim (λ q. Memᴰ.append_left r ((p a).1 (inl q))) (λ q. Memᴰ.append_right k q) (Memᴰ.append_cases l m)) (λ m. Memᴰ.append_left r ((p a).1 (inr m))),
  )

  pub adds-right : (r : List A) → Adds l more k → Adds (r ++ l) more (r ++ k)
  adds-right r p a = (
    λ m. ⊎_elim (λ q. inl (Memᴰ.append_left l q)) (λ q. ⊎_elim (λ b. inl (Memᴰ.append_right r b)) (λ b. inr b) ((p a).0 q)) (Memᴰ.append_cases r m),
    ⊎_elim (λ m. ⊎_elim (λ q. Memᴰ.append_left k q) (λ q. Memᴰ.append_right r ((p a).1 (inl q))) (Memᴰ.append_cases r m)) (λ m. Memᴰ.append_right r ((p a).1 (inr m))),
  )

-- The graph with one row more.
module _ (h : Held) where
  pub adds-fusion : (a b : ℕ) → Adds (graph_of h).fusions ((inner a, inner b) ∷ []) (graph_of (with_fusion_row h a b)).fusions
  unfolding with_fusion_row
  adds-fusion a b = rw (map-append fusion_of h.fusions ((a, b) ∷ [])) (adds-left _ _ _ (map edge_of h.edges) (adds-behind (map fusion_of h.fusions) ((inner a, inner b) ∷ [])))

  pub adds-edge : (a m : ℕ) → Adds (graph_of h).fusions ((inner a, name (free m)) ∷ []) (graph_of (with_edge_row h a m)).fusions
  unfolding with_edge_row
  adds-edge a m = rw (map-append edge_of h.edges ((a, m) ∷ [])) (adds-right _ _ _ (map fusion_of h.fusions) (adds-behind (map edge_of h.edges) ((inner a, name (free m)) ∷ [])))

  -- its ports and its nodes
  pub ports-atom : (nums : List ℕ) → Adds (port_nodes (graph_of h).atoms) (map inner (links_of nums)) (port_nodes (graph_of (with_atom h nums)).atoms)
  unfolding with_atom
  ports-atom nums = simp (map-append, port_nodes-append, append-nil) (adds-left _ _ _ (port_nodes (map context_cell h.contexts)) (adds-behind (port_nodes (map atom_cell h.atoms)) (map inner (links_of nums))))

  pub nodes-atom : (nums : List ℕ) → Adds (nodes (graph_of h)) (map inner (links_of nums)) (nodes (graph_of (with_atom h nums)))
  unfolding with_atom
  nodes-atom nums = adds-left _ _ _ (end_nodes (graph_of h).fusions) (ports-atom nums)

  pub ports-context : (nums : List ℕ) → Adds (port_nodes (graph_of h).atoms) (map inner (links_of nums)) (port_nodes (graph_of (with_context h nums)).atoms)
  unfolding with_context
  ports-context nums = simp (map-append, port_nodes-append, append-nil) (adds-right _ _ _ (port_nodes (map atom_cell h.atoms)) (adds-behind (port_nodes (map context_cell h.contexts)) (map inner (links_of nums))))

  pub nodes-context : (nums : List ℕ) → Adds (nodes (graph_of h)) (map inner (links_of nums)) (nodes (graph_of (with_context h nums)))
  unfolding with_context
  nodes-context nums = adds-left _ _ _ (end_nodes (graph_of h).fusions) (ports-context nums)

  pub nodes-fusion : (a b : ℕ) → Adds (nodes (graph_of h)) (inner a ∷ inner b ∷ []) (nodes (graph_of (with_fusion_row h a b)))
  unfolding with_fusion_row
  nodes-fusion a b =
      adds-right _ _ _ (port_nodes (graph_of h).atoms)
      (simp (map-append, end_nodes-append) (adds-left _ _ _ (end_nodes (map edge_of h.edges)) (adds-behind (end_nodes (map fusion_of h.fusions)) (inner a ∷ inner b ∷ []))))

  pub nodes-edge : (a m : ℕ) → Adds (nodes (graph_of h)) (inner a ∷ name (free m) ∷ []) (nodes (graph_of (with_edge_row h a m)))
  unfolding with_edge_row
  nodes-edge a m =
      adds-right _ _ _ (port_nodes (graph_of h).atoms)
      (simp (map-append, end_nodes-append) (adds-right _ _ _ (end_nodes (map fusion_of h.fusions)) (adds-behind (end_nodes (map edge_of h.edges)) (inner a ∷ name (free m) ∷ []))))

-- Every row keeps the labels to the fusions; a head starts anew.
pub labels-row : (h : Held) (r : Row) → Labels h.wiring (graph_of h).fusions → Labels (with_row h r).wiring (graph_of (with_row h r)).fusions
unfolding with_atom with_context with_fusion_row with_edge_row with_head
labels-row h r L =
    row_by h r (λ g. Labels g.wiring (graph_of g).fusions)
    (λ e. labels-links h.wiring (links_of r.nums) _ L)
    (λ e. labels-links h.wiring (links_of r.nums) _ L)
    (λ e. labels-fusion (with_links h.wiring (a ∷ b ∷ [])) _ _ (labels-links h.wiring (a ∷ b ∷ []) _ L) a (links-there h.wiring (a ∷ b ∷ []) 0 (omega arith))
    b (links-there h.wiring (a ∷ b ∷ []) 1 (omega arith)) (adds-fusion h a b))
    (λ e. labels-mark (with_links h.wiring (a ∷ [])) _ _ (labels-links h.wiring (a ∷ []) _ L) a (links-there h.wiring (a ∷ []) 0 (omega arith)) b (adds-edge h a b))
    (λ e. labels-none)
  where
    a : ℕ
    a = get_or r.nums 0 0

    b : ℕ
    b = get_or r.nums 1 0

-- The wiring has exactly the graph's nodes, where it gains what the graph gains.
pub exact-more : (h g : Held) (more : List (Node ℕ)) → Gains h.wiring g.wiring more → Adds (nodes (graph_of h)) more (nodes (graph_of g)) → Agrees h
    → (n : Node ℕ) → Known g.wiring n ↔ (n ∈ nodes (graph_of g))
exact-more h g more p q A n = (
  λ k. (q n).1 (⊎_elim (λ o. inl ((A.exact n).0 o)) (λ o. inr o) ((p n).0 k)),
  λ k. (p n).1 (⊎_elim (λ o. inl ((A.exact n).1 o)) (λ o. inr o) ((q n).0 k)),
)

pub exact-row : (h : Held) (r : Row) → r.letter < 4 → Agrees h → (n : Node ℕ) → Known (with_row h r).wiring n ↔ (n ∈ nodes (graph_of (with_row h r)))
unfolding with_atom with_context with_fusion_row with_edge_row with_fusion
exact-row h r l A =
    row_by h r (λ g. (n : Node ℕ) → Known g.wiring n ↔ (n ∈ nodes (graph_of g)))
    (λ e. exact-more h (with_atom h r.nums) _ (gains-links h.wiring (links_of r.nums)) (nodes-atom h r.nums) A)
    (λ e. exact-more h (with_context h r.nums) _ (gains-links h.wiring (links_of r.nums)) (nodes-context h r.nums) A)
    (λ e. exact-more h (with_fusion_row h a b) _ (gains-then h.wiring (with_links h.wiring (a ∷ b ∷ [])) (with_fusion_row h a b).wiring _ _ (gains-links h.wiring (a ∷ b ∷ [])) (gains-merged _ _ _)) (nodes-fusion h a b) A)
    (λ e. exact-more h (with_edge_row h a b) _ (gains-then h.wiring (with_links h.wiring (a ∷ [])) (with_edge_row h a b).wiring _ _ (gains-links h.wiring (a ∷ [])) (gains-mark _ _ _)) (nodes-edge h a b) A)
    (λ e. absurd (omega arith))
  where
    a : ℕ
    a = get_or r.nums 0 0

    b : ℕ
    b = get_or r.nums 1 0

pub agrees-row : (h : Held) (r : Row) → r.letter < 4 → Agrees h → Agrees (with_row h r)
agrees-row h r l A = record { labels = labels-row h r A.labels; exact = exact-row h r l A }
