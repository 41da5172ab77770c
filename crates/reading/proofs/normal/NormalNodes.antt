-- The nodes and the marks of a normal form.
use Prim.Native.Nat.{ℕ}
use mathlib.Core.Path.{◌≡◌, refl, ap, ap₂}
use mathlib.Core.List.Memᴰ
use mathlib.Core.List.{List, [], ◌∷◌, ◌++◌, map}
use mathlib.Core.Logic.{◌⊎◌, inl, inr}
use native.Mathlib.Omega.{arith}
use Rattle.hyperlmntal.specs.Link.{◌∈◌}
use Rattle.hyperlmntal.specs.Hypergraph.{Node, Fusion, Flat, port_nodes, end_nodes, nodes}
use Rattle.hyperlmntal.proofs.Lists.{all_map}
use Rattle.hyperlmntal.proofs.Flats.{on-fusions, ends-in, port_nodes-map}
use Rattle.reading.specs.Normal.{mark_node, marks_of, shown, numbered_by, marked_by, normal_form_by}
use Rattle.reading.proofs.normal.NormalBy.{port-shown, mark-shown}
use Rattle.reading.proofs.normal.Marks.{marks-in, marks-of, marks-ascending, ascending-same}

-- An end belongs to a fusion.
abbrev pub EndOf : List (Fusion ℕ) → Node ℕ → Type 0
EndOf l x = (e : Fusion ℕ) × (e ∈ l) × ((x ≡ e.0) ⊎ (x ≡ e.1))

pub ends_of : (l : List (Fusion ℕ)) (x : Node ℕ) → x ∈ end_nodes l → EndOf l x
ends_of [] x i = absurd (Memᴰ.not-nil i)
ends_of (e ∷ l) x i = first (Memᴰ.cases_cons i) (ends_of l x)
  where
    second : (x ≡ e.1) ⊎ (x ∈ end_nodes l) → (x ∈ end_nodes l → EndOf l x) → EndOf (e ∷ l) x
    second (inl p) f = (e, Memᴰ.head refl, inr p)
    second (inr k) f = let t = f k in (t.0, Memᴰ.tail t.1, t.2)

    first : (x ≡ e.0) ⊎ (x ∈ (e.1 ∷ end_nodes l)) → (x ∈ end_nodes l → EndOf l x) → EndOf (e ∷ l) x
    first (inl p) f = (e, Memᴰ.head refl, inl p)
    first (inr k) f = second (Memᴰ.cases_cons k) f

module _ (label : Node ℕ → ℕ) (F : Flat ℕ) where
  -- The number of a node that is shown, or a mark.
  abbrev pub Formed : Node ℕ → Type 0
  Formed x = ((y : Node ℕ) × (y ∈ shown F) × (x ≡ numbered_by label F y)) ⊎ ((m : ℕ) × (m ∈ marks_of F) × (x ≡ mark_node m))

  pub form-nodes : (x : Node ℕ) → x ∈ nodes (normal_form_by label F) → Formed x
  unfolding normal_form_by
  form-nodes x i = side (Memᴰ.append_cases (port_nodes (normal_form_by label F).atoms) i)
    where
      end : (m : ℕ) → m ∈ marks_of F → (x ≡ numbered_by label F (mark_node m)) ⊎ (x ≡ mark_node m) → Formed x
      end m j (inl p) = inl (mark_node m, mark-shown F m j, p)
      end m j (inr p) = inr (m, j, p)

      side : (x ∈ port_nodes (normal_form_by label F).atoms) ⊎ (x ∈ end_nodes (normal_form_by label F).fusions) → Formed x
      side (inl j) = all_map (numbered_by label F) (port_nodes F.atoms) Formed (λ y k. inl (y, port-shown F k, refl)) x (rw port_nodes-map at j)
      side (inr j) =
          let t = ends_of (map (marked_by label F) (marks_of F)) x j in
          all_map (marked_by label F) (marks_of F) (λ e. (x ≡ e.0) ⊎ (x ≡ e.1) → Formed x) end t.0 t.1 t.2

  pub form-mark : (m : ℕ) → m ∈ marks_of F → mark_node m ∈ nodes (normal_form_by label F)
  unfolding normal_form_by
  form-mark m i = on-fusions (normal_form_by label F) (ends-in (Memᴰ.map (marked_by label F) i)).1

  pub mark-formed : (m : ℕ) → mark_node m ∈ nodes (normal_form_by label F) → m ∈ marks_of F
  mark-formed m i = at (form-nodes (mark_node m) i)
    where
      at : Formed (mark_node m) → m ∈ marks_of F
      at (inl t) = let p : mark_node m ≡ numbered_by label F t.0 = t.2 in absurd (let z : ◌≡◌ {A = ℕ} 0 1 = cc in omega arith)
      at (inr t) = let p : mark_node m ≡ mark_node t.0 = t.2 in let q : m ≡ t.0 = cc in Memᴰ.cast q t.1

  pub form-marks : marks_of (normal_form_by label F) ≡ marks_of F
  form-marks =
      ascending-same (marks_of (normal_form_by label F)) (marks_of F) (marks-ascending _) (marks-ascending _)
      (λ m. (λ i. mark-formed m (marks-of _ m i), λ i. marks-in _ m (form-mark m i)))

  pub form-ports : port_nodes (normal_form_by label F).atoms ≡ map (numbered_by label F) (port_nodes F.atoms)
  unfolding normal_form_by
  form-ports = port_nodes-map (numbered_by label F) F.atoms

  pub form-shown : shown (normal_form_by label F) ≡ map (numbered_by label F) (port_nodes F.atoms) ++ map mark_node (marks_of F)
  form-shown = ap₂ ◌++◌ form-ports (ap (map mark_node) form-marks)
