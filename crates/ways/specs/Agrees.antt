-- What tables say of good placings, some of whose figure atoms may not be placed yet.
use Rattle.std.specs.Prelude.{◌≡◌, ℕ, suc, ◌<◌, ◌≤◌, Bool, true, ◌≢◌, ◌⊎◌, List, length, slice_index}
use Rattle.hyperlmntal.specs.Link.{◌∈◌}
use Rattle.rows.specs.declared.Sheet.{Sheet as NormalForm}
use Rattle.placing.specs.Net.{Range}
use Rattle.placing.specs.Placing.{Placing, link_target, Taken, Good}
use Rattle.network.specs.NetIn.{net_in}
use Rattle.candidates.specs.Words.{InPair}
use Rattle.completing.specs.Ways.{OnBoth, OnOneHalf}
use Rattle.ways.specs.Halves.{on_first}

-- link y, from 1, is in the set
abbrev pub Among : List ℕ → ℕ → Type 0
Among pair y = (z : ℕ) × (y ≡ suc z) × InPair pair z

-- p is a good placing. A figure link goes where `to` says, but for those that have a flag and of which `to` says none; one that
-- has a flag and stands on both halves goes to a link of `guarded`. `taken` has 2 where one of the atoms of `breaking` may go;
-- other figure atoms go where it has 1, or all their links are on one half.
pub record Agrees (sheet figure : NormalForm) (to flags taken guarded : List ℕ) (side : ℕ) (breaking : List ℕ) (p : Placing) : Type 0 where
  pub good : Good (net_in sheet) (net_in figure) p
  pub goes : (x : ℕ) → x < figure.class_count → (slice_index flags x ≢ 1) ⊎ (slice_index to x ≢ suc sheet.class_count) → link_target p (suc x) ≡ slice_index to x
  pub held : (x : ℕ) → x < figure.class_count → slice_index flags x ≡ 1 → OnBoth (net_in figure) (on_first side) (suc x) → Range sheet.class_count (link_target p (suc x)) → Among guarded (link_target p (suc x))
  pub passed : (row : ℕ) → row < sheet.atom_count → slice_index taken row ≢ 1 → (t : Taken (net_in sheet) (net_in figure) p (suc row))
      → ((t.by ∈ breaking) × (slice_index taken row ≡ 2)) ⊎ OnOneHalf (net_in figure) (on_first side) t.by

-- r says that no such placing is left, where so many figure atoms break ways
abbrev pub NoneAgrees : NormalForm → NormalForm → List ℕ → List ℕ → List ℕ → List ℕ → ℕ → ℕ → Bool → Type 0
NoneAgrees sheet figure to flags taken guarded side n r = r ≡ true → (breaking : List ℕ) → length breaking ≤ n → (p : Placing) → ¬ Agrees sheet figure to flags taken guarded side breaking p
