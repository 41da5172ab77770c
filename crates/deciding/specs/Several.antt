-- Links that stand on two context rows or more.
use Rattle.std.specs.Prelude.{ℕ, suc, ◌<◌, ◌≡◌, ◌⊎◌, List, get_or}
use Rattle.rows.specs.Limits.{sheet_link_limit}
use Rattle.rows.specs.declared.Sheet as form
use Rattle.network.specs.NetIn.{net_in}
use Rattle.candidates.specs.Words.{InPair}
use Rattle.candidates.specs.PortSets.{PortIn}
use Rattle.candidates.specs.declared.ports.PortSet.{PortSet}
use Rattle.completing.specs.OneRow.{OneRow}

-- each link of the set is on at most one of the first c contexts
abbrev pub OnOne : List PortSet → ℕ → List ℕ → Type 0
OnOne sets c set = (x i j : ℕ) → x < sheet_link_limit → i < c → j < c → InPair set x → PortIn sets i x → PortIn sets j x → i ≡ j

-- of the first n links, a flag of r is one of l, and a link with a flag in l alone is in the set
abbrev pub FlagsBeside : List ℕ → List ℕ → ℕ → List ℕ → Type 0
FlagsBeside l set n r = (x : ℕ) → x < n → (get_or r x 0 ≡ 1 → get_or l x 0 ≡ 1) × (get_or l x 0 ≡ 1 → (get_or r x 0 ≡ 1) ⊎ InPair set x)

-- the same of the figure's links: one with a flag in l alone is on one context row
abbrev pub SeveralIn : form.Sheet → ℕ → List ℕ → List ℕ → Type 0
SeveralIn figure links l r = (x : ℕ) → x < links → (get_or r x 0 ≡ 1 → get_or l x 0 ≡ 1) × (get_or l x 0 ≡ 1 → (get_or r x 0 ≡ 1) ⊎ OneRow (net_in figure) (suc x))
