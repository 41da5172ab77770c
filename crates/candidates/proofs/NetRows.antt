-- The rows of the net that a normal form's arrays hold, by their places.
use Prim.Native.Nat.{ℕ, ◌-◌, ◌≤◌, ◌<◌}
use mathlib.Core.Path.{◌≡◌, ◌∙◌, ap}
use mathlib.Core.List.{List}
use native.Mathlib.Omega.{arith}
use lib.ListN.{length, get_or}
use Rattle.rows.specs.declared.Sheet.{Sheet as NormalForm}
use Rattle.placing.specs.Net.{NetCell, Range}
use Rattle.placing.specs.Placing.{cell_at}
use Rattle.network.specs.NetIn.{net_in, atom_at, Used, Fit}
use Rattle.network.proofs.NetIn.{used-length, used-at, atom-cell, atom-used}
use Rattle.candidates.specs.Laid.{link_of}

pub row-wider : {n m c : ℕ} {l : List ℕ} → Used n c l → n ≤ m → Used m c l
row-wider f h = record { few = f.few; width = f.width; numbered = λ k l. let r = f.numbered k l in (r.0, omega (arith, r.1)) }

module _ (n : NormalForm) (fit : Fit n) where
  -- atom t, counted from 1
  module _ (t : ℕ) (r : Range n.atom_count t) where
    pub atom-name : (cell_at (net_in n).atoms t).0 ≡ (atom_at n (t - 1)).name
    atom-name = ap (λ (c : NetCell). c.0) (atom-cell n fit t r)

    pub atom-count : length (cell_at (net_in n).atoms t).1 ≡ (atom_at n (t - 1)).count
    atom-count = ap (λ (c : NetCell). length c.1) (atom-cell n fit t r) ∙ used-length _ _ _ (atom-used n fit t r)

    pub atom-link : (k : ℕ) → k < (atom_at n (t - 1)).count → get_or (cell_at (net_in n).atoms t).1 k 0 ≡ link_of (atom_at n (t - 1)) k
    atom-link k h = ap (λ (c : NetCell). get_or c.1 k 0) (atom-cell n fit t r) ∙ used-at _ _ _ (atom-used n fit t r) k h
