-- Pieces of a net: atoms that hang together by links that they share.
use Rattle.std.specs.Prelude.{ℕ, length}
use Rattle.hyperlmntal.specs.Link.{◌∈◌}
use Rattle.placing.specs.Net.{Net, Range}
use Rattle.placing.specs.Placing.{cell_at}
use Rattle.network.specs.Reach.{Reach}
use Rattle.network.specs.Sums.{HowMany}

-- two atoms on one link
pub record Share (N : Net) (i j : ℕ) : Type 0 where
  pub first-atom : Range (length N.atoms) i
  pub second-atom : Range (length N.atoms) j
  pub link : ℕ
  pub first : link ∈ (cell_at N.atoms i).1
  pub second : link ∈ (cell_at N.atoms j).1

abbrev pub OnePiece : Net → ℕ → ℕ → Type 0
OnePiece N = Reach (Share N)

-- size i is how many atoms are in the piece of atom i
abbrev pub Sizes : Net → (ℕ → ℕ) → Type 0
Sizes N size = (i : ℕ) → Range (length N.atoms) i → HowMany (OnePiece N i) (length N.atoms) (size i)
