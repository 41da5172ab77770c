-- What the tables say of the atoms on a link and of the links of an atom; atoms and links are counted from 0.
use Rattle.std.specs.Prelude.{ℕ, suc, ◌-◌, ◌<◌, ◌≡◌, ◌⊎◌, ◌≢◌, List, length, get_or}
use Rattle.rows.specs.declared.Sheet as form
use Rattle.placing.specs.Net.{Net}
use Rattle.placing.specs.Placing.{Placing}
use Rattle.network.specs.NetIn.{net_in, Fit}
use Rattle.completing.specs.Fault.{Used, Other}
use Rattle.completing.specs.Known.{Touches}
use Rattle.stepping.specs.Chains.{ChainsIn}

-- where a figure link goes there is a 1
abbrev pub UsedBy : form.Sheet → form.Sheet → Placing → List ℕ → Type 0
UsedBy sheet figure q used = (w : ℕ) → w < sheet.class_count → Used (net_in sheet) (net_in figure) q (suc w) → get_or used w 0 ≡ 1

-- an atom without a 1 is an other atom
abbrev pub FreeBy : form.Sheet → form.Sheet → Placing → List ℕ → Type 0
FreeBy sheet figure q taken = (j : ℕ) → j < sheet.atom_count → get_or taken j 0 ≢ 1 → Other (net_in sheet) (net_in figure) q (suc j)

-- each atom on link y is t or u
abbrev pub OnlyOn : Net → ℕ → ℕ → ℕ → Type 0
OnlyOn S y t u = (j : ℕ) → j < length S.atoms → Touches S (suc j) (suc y) → (j ≡ t) ⊎ (j ≡ u)

-- the same of each sheet with these chains
abbrev pub OnlyBy : List ℕ → ℕ → ℕ → ℕ → Type 0
OnlyBy chains y t u = (sheet : form.Sheet) → Fit sheet → ChainsIn sheet chains → OnlyOn (net_in sheet) y t u

-- u is t or an atom on link y
abbrev pub OtherOn : Net → ℕ → ℕ → ℕ → Type 0
OtherOn S y t u = (u ≡ t) ⊎ ((u < length S.atoms) × Touches S (suc u) (suc y))

abbrev pub OtherBy : List ℕ → ℕ → ℕ → ℕ → Type 0
OtherBy chains y t u = (sheet : form.Sheet) → Fit sheet → ChainsIn sheet chains → OtherOn (net_in sheet) y t u

-- no figure link goes to link w, and no atom but t is on it
abbrev pub OwnLink : List ℕ → List ℕ → ℕ → ℕ → Type 0
OwnLink chains used w t = (get_or used w 0 ≢ 1) × OnlyBy chains w t t

-- so each of the first `count` links, counted from 1, but y and z
abbrev pub AllOwn : List ℕ → List ℕ → List ℕ → ℕ → ℕ → ℕ → ℕ → Type 0
AllOwn chains used links count t y z = (k : ℕ) → k < count → get_or links k 0 - 1 ≢ y → get_or links k 0 - 1 ≢ z → OwnLink chains used (get_or links k 0 - 1) t
