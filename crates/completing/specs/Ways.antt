-- Two halves of a figure's contexts, and ways through a sheet from one to the other.
use Rattle.std.specs.Prelude.{ℕ, ◌≡◌, ◌⊎◌, List, [], ◌∷◌, map, Bool, true, false, length}
use Rattle.hyperlmntal.specs.Link.{◌∈◌}
use Rattle.placing.specs.Net.{Net}
use Rattle.placing.specs.Placing.{cell_at}
use Rattle.completing.specs.Known.{Stands, Touches}

-- X k says on which half context k is: true on the first.
module _ (F : Net) (X : ℕ → Bool) where
  -- figure link x stands on a context of this half
  abbrev pub OnHalf : Bool → ℕ → Type 0
  OnHalf b x = (k : ℕ) × Stands F x k × (X k ≡ b)

  abbrev pub OnBoth : ℕ → Type 0
  OnBoth x = OnHalf true x × OnHalf false x

  -- all links of figure atom i stand on this half
  abbrev pub AtomOnHalf : Bool → ℕ → Type 0
  AtomOnHalf b i = (x : ℕ) → x ∈ (cell_at F.atoms i).1 → OnHalf b x

  abbrev pub OnOneHalf : ℕ → Type 0
  OnOneHalf i = AtomOnHalf true i ⊎ AtomOnHalf false i

  -- figure links that stand on no context of the second half, and links that stand on none of the first; no link is of both
  pub record Halved (first second : ℕ → Type 0) : Type 0 where
    pub not-second : (x : ℕ) → first x → ¬ OnHalf false x
    pub not_first : (x : ℕ) → second x → ¬ OnHalf true x
    pub apart : (x : ℕ) → first x → ¬ second x

-- a sheet link, and steps from it: an atom, and the next link
abbrev pub Route : Type 0
Route = ℕ × List (ℕ × ℕ)

abbrev pub afterward : List (ℕ × ℕ) → List ℕ
afterward l = map (λ (s : ℕ × ℕ). s.1) l

abbrev pub links_of : Route → List ℕ
links_of w = w.0 ∷ afterward w.1

abbrev pub atoms_of : Route → List ℕ
atoms_of w = map (λ (s : ℕ × ℕ). s.0) w.1

abbrev pub last_link : ℕ → List (ℕ × ℕ) → ℕ
last_link y [] = y
last_link y (s ∷ l) = last_link s.1 l

-- no two of the lists have a number in common for which P holds
abbrev pub Disjoint : (ℕ → Type 0) → List (List ℕ) → Type 0
Disjoint P [] = Unit {0}
Disjoint P (k ∷ ls) = ((l : List ℕ) → l ∈ ls → (y : ℕ) → P y → y ∈ k → ¬ (y ∈ l)) × Disjoint P ls

-- Step y j z: a step leads from link y through atom j to link z.
module _ (Step : ℕ → ℕ → ℕ → Type 0) where
  abbrev pub Walk : ℕ → List (ℕ × ℕ) → Type 0
  Walk y [] = Unit {0}
  Walk y (s ∷ l) = Step y s.0 s.1 × Walk s.1 l

  module _ (Starts Ends Free : ℕ → Type 0) where
    -- a walk from a start to an end over free links
    pub record Way (w : Route) : Type 0 where
      pub walk : Walk w.0 w.1
      pub start : Starts w.0
      pub end : Ends (last_link w.0 w.1)
      pub free : (y : ℕ) → y ∈ links_of w → Free y

    -- n ways, no two of them with a guarded link or a guarded atom in common
    pub record Ways (GuardedLink GuardedAtom : ℕ → Type 0) (n : ℕ) : Type 0 where
      pub routes : List Route
      pub count : length routes ≡ n
      pub all_ways : (w : Route) → w ∈ routes → Way w
      pub disjoint : Disjoint GuardedLink (map links_of routes)
      pub apart : Disjoint GuardedAtom (map atoms_of routes)

-- through an atom that may be passed
abbrev pub Passes : Net → (ℕ → Type 0) → ℕ → ℕ → ℕ → Type 0
Passes S pass y j z = pass j × Touches S j y × Touches S j z

-- one of these links surely goes to y
abbrev pub SomeAt : (ℕ → ℕ → Type 0) → (ℕ → Type 0) → ℕ → Type 0
SomeAt sure these y = (x : ℕ) × sure x y × these x

-- the links on both halves that may go to y are in this list, and y is guarded if there are any
abbrev pub OnlyAcross : Net → (ℕ → Bool) → (ℕ → ℕ → Type 0) → List ℕ → (ℕ → Type 0) → ℕ → Type 0
OnlyAcross F X may across GuardedLink y = (x : ℕ) → may x y → OnBoth F X x → (x ∈ across) × GuardedLink y
