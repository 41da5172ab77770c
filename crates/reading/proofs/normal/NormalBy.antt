-- The normal form by any labels that tell the classes apart.
use Prim.Native.Nat.{ℕ, suc}
use mathlib.Core.Path.{◌≡◌, ap}
use mathlib.Core.List.Memᴰ
use mathlib.Core.List.{map}
use mathlib.Core.Logic.{◌↔◌}
use Rattle.hyperlmntal.specs.Link.{◌∈◌}
use Rattle.hyperlmntal.specs.Hypergraph.{Node, inner, Flat, Connected, port_nodes}
use Rattle.hyperlmntal.proofs.Lists.{map-agree}
use Rattle.hyperlmntal.proofs.Flats.{flat-≡, map_cells-agree}
use Rattle.reading.specs.Normal.{class_of, mark_node, marks_of, shown, classes_by, number_by, numbered_by, marked_by, normal_form_by, normal_form}
use Rattle.reading.proofs.normal.Classes.{class-connected}
use Rattle.reading.proofs.normal.Distinct.{Agree, index-agree}

-- Ports and marks are shown.
pub port-shown : (F : Flat ℕ) {x : Node ℕ} → x ∈ port_nodes F.atoms → x ∈ shown F
port-shown F i = Memᴰ.append_left (map mark_node (marks_of F)) i

pub mark-shown : (F : Flat ℕ) (m : ℕ) → m ∈ marks_of F → mark_node m ∈ shown F
mark-shown F m i = Memᴰ.append_right (port_nodes F.atoms) (Memᴰ.map mark_node i)

-- Labels that are equal on the same nodes give the same numbers and the same form.
pub number-agree : (F : Flat ℕ) (f g : Node ℕ → ℕ) → Agree (shown F) f g → (x : Node ℕ) → x ∈ shown F → number_by f F x ≡ number_by g F x
unfolding number_by classes_by
number-agree F f g agree x i = ap suc (index-agree (shown F) f g agree x i)

pub form-agree : (F : Flat ℕ) (f g : Node ℕ → ℕ) → Agree (shown F) f g → normal_form_by f F ≡ normal_form_by g F
unfolding normal_form_by
form-agree F f g agree =
    flat-≡ (map_cells-agree (numbered_by f F) (numbered_by g F) F.atoms (λ x i. ap inner (number-agree F f g agree x (port-shown F i))))
    (map-agree (marked_by f F) (marked_by g F) (marks_of F) (λ m i. ap (λ n. (inner n, mark_node m)) (number-agree F f g agree (mark_node m) (mark-shown F m i))))

-- Labels that are equal exactly on connected nodes.
abbrev pub Labels : Flat ℕ → (Node ℕ → ℕ) → Type 0
Labels F label = (x y : Node ℕ) → x ∈ shown F → y ∈ shown F → (label x ≡ label y) ↔ Connected F.fusions x y

pub normal-by : (F : Flat ℕ) (label : Node ℕ → ℕ) → Labels F label → normal_form F ≡ normal_form_by label F
unfolding normal_form
normal-by F label h =
    form-agree F (class_of F.fusions) label
    (λ x y i j. let c = class-connected F.fusions x y in let l = h x y i j in (λ e. l.1 (c.0 e), λ e. c.1 (l.0 e)))
