-- A normal form is its own normal form: normalising twice is normalising once.
use Prim.Native.Nat.{ℕ, suc}
use mathlib.Core.Path.{◌≡◌, refl, sym, ap, ap₂, ◌∙◌, subst}
use mathlib.Core.List.Memᴰ
use mathlib.Core.List.{map, ◌++◌, map-map, map-append}
use native.Mathlib.Omega.{arith}
use Rattle.hyperlmntal.specs.Link.{local, free, ◌∈◌}
use Rattle.hyperlmntal.specs.Hypergraph.{Node, inner, name, Fusion, Flat, Connected, stay, along, back, then, port_nodes, map_cell}
use Rattle.hyperlmntal.proofs.Lists.{map-agree, all_map, all_append}
use Rattle.hyperlmntal.proofs.Flats.{flat-≡, cell-≡, map_cells-agree}
use Rattle.hyperlmntal.proofs.Connection.{connected-ind, connected-≡}
use Rattle.rows.specs.Held.{index_of}
use Rattle.reading.specs.Normal.{class_of, mark_node, marks_of, shown, distinct, classes_by, number_by, numbered_by, marked_by, normal_form_by, normal_form}
use Rattle.reading.proofs.normal.Distinct.{Agree, index-agree, index-label}
use Rattle.reading.proofs.normal.NormalBy.{port-shown, mark-shown, Labels, normal-by}
use Rattle.reading.proofs.normal.NormalNodes.{form-marks, form-shown}

number_at : (label : Node ℕ → ℕ) (F : Flat ℕ) (x : Node ℕ) → number_by label F x ≡ suc (index_of (label x) (distinct (map label (shown F))))
unfolding number_by classes_by
number_at label F x = refl

module _ (label : Node ℕ → ℕ) (F : Flat ℕ) where
  abbrev number : Node ℕ → ℕ
  number = number_by label F

  abbrev G : Flat ℕ
  G = normal_form_by label F

  -- Numbers are labels of the nodes that are shown, and number them as they are numbered.
  number-label : Agree (shown F) label number
  unfolding number_by classes_by
  number-label x y i j = let a = index-label (shown F) label x y i j in (λ e. ap suc (a.0 e), λ e. a.1 (omega arith))

  number-fixed : (x : Node ℕ) → x ∈ shown F → suc (index_of (number x) (distinct (map number (shown F)))) ≡ number x
  unfolding number_by classes_by
  number-fixed x i = ap suc (sym (index-agree (shown F) label number number-label x i))

  -- Labels of the normal form's nodes: the numbers themselves, and for a mark the number that it has.
  abbrev kept : Node ℕ → ℕ
  kept (inner n) = n
  kept (name (local n)) = 0
  kept (name (free m)) = number (mark_node m)

  kept-fusion : (e : Fusion ℕ) → e ∈ G.fusions → kept e.0 ≡ kept e.1
  unfolding normal_form_by
  kept-fusion = all_map (marked_by label F) (marks_of F) (λ e. kept e.0 ≡ kept e.1) (λ m i. refl)

  kept-node : (x : Node ℕ) → x ∈ shown G → Connected G.fusions x (inner (kept x))
  unfolding normal_form_by
  kept-node x i =
      all_append (map (numbered_by label F) (port_nodes F.atoms)) (map mark_node (marks_of F)) Kept
      (all_map (numbered_by label F) (port_nodes F.atoms) Kept (λ y j. stay))
      (all_map mark_node (marks_of F) Kept (λ m j. back (along (Memᴰ.map (marked_by label F) j)))) x (subst (λ l. x ∈ l) (form-shown label F) i)
    where
      Kept : Node ℕ → Type 0
      Kept y = Connected G.fusions y (inner (kept y))

  kept-connected : {x y : Node ℕ} → Connected G.fusions x y → kept x ≡ kept y
  kept-connected {x} c = (connected-ind G.fusions (λ z. kept x ≡ kept z) (λ e k. (λ p. p ∙ kept-fusion e k, λ p. p ∙ sym (kept-fusion e k))) c).0 refl

  kept-labels : Labels G kept
  kept-labels x y i j = (λ e. then (kept-node x i) (then (connected-≡ _ (ap inner e)) (back (kept-node y j))), λ c. kept-connected c)

  kept-shown : map kept (shown G) ≡ map number (shown F)
  kept-shown =
      ap (map kept) (form-shown label F)
      ∙ map-append kept (map (numbered_by label F) (port_nodes F.atoms)) (map mark_node (marks_of F))
      ∙ ap₂ ◌++◌ (map-map kept (numbered_by label F) (port_nodes F.atoms)) (map-map kept mark_node (marks_of F) ∙ sym (map-map number mark_node (marks_of F)))
      ∙ sym (map-append number (port_nodes F.atoms) (map mark_node (marks_of F)))

  -- So the numbers stay.
  same_number : (x : Node ℕ) → x ∈ shown F → (k : Node ℕ) → kept k ≡ number x → number_by kept G k ≡ number x
  same_number x i k e = number_at kept G k ∙ ap suc (ap₂ index_of e (ap distinct kept-shown)) ∙ number-fixed x i

  same-cells : map (map_cell (numbered_by kept G)) (map (map_cell (numbered_by label F)) F.atoms) ≡ map (map_cell (numbered_by label F)) F.atoms
  same-cells =
      map-map (map_cell (numbered_by kept G)) (map_cell (numbered_by label F)) F.atoms
      ∙ map-agree _ _ F.atoms (λ c i. cell-≡ refl (map-map (numbered_by kept G) (numbered_by label F) c.ports))
      ∙ map_cells-agree (λ x. numbered_by kept G (numbered_by label F x)) (numbered_by label F) F.atoms
      (λ x i. ap inner (same_number x (port-shown F i) (inner (number x)) refl))

  same-marks : map (marked_by kept G) (marks_of G) ≡ map (marked_by label F) (marks_of F)
  same-marks =
      ap (map (marked_by kept G)) (form-marks label F)
      ∙ map-agree (marked_by kept G) (marked_by label F) (marks_of F) (λ m i. ap (λ n. (inner n, mark_node m)) (same_number (mark_node m) (mark-shown F m i) (mark_node m) refl))

  pub form-normal : normal_form (normal_form_by label F) ≡ normal_form_by label F
  unfolding normal_form_by
  form-normal = normal-by G kept kept-labels ∙ flat-≡ same-cells same-marks

pub normal-idempotent : (F : Flat ℕ) → normal_form (normal_form F) ≡ normal_form F
unfolding normal_form
normal-idempotent F = form-normal (class_of F.fusions) F
