-- What is known of a family of good placings: where figure links may go and surely go, and which sheet atoms are other atoms.
use Rattle.std.specs.Prelude.{ℕ, ◌≡◌, ◌⊎◌, List, length}
use Rattle.hyperlmntal.specs.Link.{◌∈◌}
use Rattle.placing.specs.Net.{NetCell, Net, Range}
use Rattle.placing.specs.Placing.{Placing, cell_at, link_target, Taken, At, Good}
use Rattle.completing.specs.Completion.{Completion}

-- figure link x stands on a context of number k
pub record Stands (F : Net) (x k : ℕ) : Type 0 where
  pub row : NetCell
  pub of-figure : row ∈ F.contexts
  pub port : x ∈ row.1
  pub number : row.0 ≡ k

-- sheet atom j is on sheet link y
abbrev pub Touches : Net → ℕ → ℕ → Type 0
Touches S j y = y ∈ (cell_at S.atoms j).1

-- All placings of P are good; may x y: figure link x may go to y; sure x y: it surely does; other j: no figure atom takes j.
pub record Known (S F : Net) (P : Placing → Type 0) (may sure : ℕ → ℕ → Type 0) (other : ℕ → Type 0) : Type 0 where
  pub good : (p : Placing) → P p → Good S F p
  pub may-go : (p : Placing) → P p → (x y : ℕ) → At S F p x y → may x y
  pub surely : (p : Placing) → P p → (x y : ℕ) → sure x y → At S F p x y
  pub is-atom : (j : ℕ) → other j → Range (length S.atoms) j
  pub not_taken : (p : Placing) → P p → (j : ℕ) → other j → ¬ Taken S F p j

-- figure link x is settled at y, or is not settled and not barred there
abbrev pub MayGo : Placing → List ℕ → (ℕ → ℕ → Type 0) → ℕ → ℕ → Type 0
MayGo q un bar x y = (link_target q x ≡ y) ⊎ ((x ∈ un) × (¬ bar x y))

-- no completion sends an unsettled link where it is barred
abbrev pub Bars : Net → Net → Placing → List ℕ → (ℕ → ℕ → Type 0) → Type 0
Bars S F q un bar = (p : Placing) → Completion S F q un p → (x : ℕ) → x ∈ un → ¬ bar x (link_target p x)
