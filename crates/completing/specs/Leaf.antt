-- The least good placing with given atoms.
use Rattle.std.specs.Prelude.{ℕ, suc, ◌<◌, ◌≡◌, List, [], ◌∷◌, ◌++◌, map, length, replicate}
use Rattle.hyperlmntal.specs.Link.{◌∈◌}
use Rattle.placing.specs.Net.{NetCell, Net, Range, greatest}
use Rattle.placing.specs.Placing.{Placing, link_target, Good}
use Rattle.placing.specs.First.{Before}
use Rattle.placing.specs.Smallest.{list_of}
use Rattle.completing.specs.Completion.{Open, Partial, Completion, Completable}

-- a completion before which there is none
pub record LeastCompletion (S F : Net) (q : Placing) (un : List ℕ) (p : Placing) : Type 0 where
  pub completion : Completion S F q un p
  pub none_before : (p' : Placing) → Completion S F q un p' → ¬ Before (list_of p') (list_of p)

-- in ascending order
abbrev pub Ascending : List ℕ → Type 0
Ascending [] = Unit {0}
Ascending (x ∷ l) = ((z : ℕ) → z ∈ l → x < z) × Ascending l

-- the open links of a figure
pub record OpenLinks (F : Net) (un : List ℕ) : Type 0 where
  pub are-open : (x : ℕ) → x ∈ un → Open F x
  pub all-open : (x : ℕ) → Open F x → x ∈ un

-- What the atoms at l say of the links: the open ones are read as none, and every other is where each good placing with these
-- atoms has it.
pub record StateOf (S F : Net) (l : List ℕ) (q : Placing) : Type 0 where
  pub atoms : q.atoms_to ≡ l
  pub links-sent : length q.links_to ≡ F.links
  pub open_none : (x : ℕ) → Open F x → link_target q x ≡ suc S.links
  pub decided : (x : ℕ) → Range F.links x → ¬ Open F x → (p : Placing) → Good S F p → p.atoms_to ≡ l → link_target p x ≡ link_target q x

-- no good placing has the atoms l
abbrev pub NoneWith : Net → Net → List ℕ → Type 0
NoneWith S F l = (p : Placing) → Good S F p → ¬ (p.atoms_to ≡ l)

-- What a loop keeps that settles the links `un` of q one by one: it has come to q' and `un'`, and every least completion from
-- there is one of q.
pub record Settling (S F : Net) (q : Placing) (un : List ℕ) (q' : Placing) (un' : List ℕ) : Type 0 where
  pub partial : Partial S F q' un'
  pub completable : Completable S F q' un'
  pub leads : (p : Placing) → LeastCompletion S F q' un' p → LeastCompletion S F q un p

-- the bounds of the links and of the contexts
abbrev pub rest_bounds : Net → Net → List ℕ
rest_bounds S F = replicate F.links (suc S.links) ++ replicate (length S.atoms) (greatest (map (λ (row : NetCell). row.0) F.contexts))
