-- Colours in arrays: for each atom and for each link a number. All are counted from 0 there.
use Rattle.std.specs.Prelude.{◌≡◌, ℕ, suc, ◌-◌, ◌↔◌, List, slice_index}
use Rattle.rows.specs.declared.Sheet.{Sheet as NormalForm}
use Rattle.placing.specs.Placing.{Placing, Good}
use Rattle.network.specs.NetIn.{net_in}
use Rattle.candidates.specs.Laid.{LaidOut}
use Rattle.candidates.specs.Words.{In}
use Rattle.colours.specs.Colours.{Colours, next, Agree, KeepsColours}
use Rattle.colours.specs.Pieces.{OnePiece}
use Rattle.colours.specs.Mixed.{mixing}

-- the number of link x, counted from 1
abbrev pub link_colour : List ℕ → ℕ → ℕ
link_colour links x = slice_index links (x - 1)

abbrev pub held : (atoms links : List ℕ) → Colours
held atoms links = record { of_atom = λ j. slice_index atoms (j - 1); of_link = link_colour links }

-- the atoms of the word are those that hang together with atom t
abbrev pub PieceIn : NormalForm → ℕ → ℕ → Type 0
PieceIn net t word = (u : ℕ) → In word u ↔ OnePiece (net_in net) (suc t) (suc u)

-- a round: from the colours of the first two arrays to those of the others
abbrev pub Refined : (laid : List ℕ) (n c : ℕ) (atoms links atoms' links' : List ℕ) → Type 0
Refined laid n c atoms links atoms' links' = (net : NormalForm) → LaidOut net laid n → net.class_count ≡ c → Agree (net_in net) (next mixing (net_in net) (held atoms links)) (held atoms' links')

-- every good placing of the figure keeps them
abbrev pub KeptIn : NormalForm → NormalForm → (atoms links atoms' links' : List ℕ) → Type 0
KeptIn sheet figure atoms links atoms' links' = (p : Placing) → Good (net_in sheet) (net_in figure) p → KeepsColours (net_in figure) p (held atoms links) (held atoms' links')
