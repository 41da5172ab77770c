-- Figure atoms that have one candidate.
use Prim.Native.Nat.{ℕ, ◌+◌, ◌<◌}
use mathlib.Core.Path.{sym, ◌∙◌, subst}
use mathlib.Core.List.{List}
use native.Mathlib.Omega.{arith}
use lib.ListN.{set}
use Rattle.candidates.specs.Forced.{Only}
use Rattle.matching.specs.Search.{Forward}
use Rattle.matching.proofs.SearchTurns.{forced-onward}

-- one figure atom more is placed, at t, counted from 0
pub forward-next : (atoms : List ℕ) (n m k : ℕ) (chosen : List ℕ) (i : ℕ) (placed : List ℕ) → Forward atoms n m k chosen i placed → i < m → (t : ℕ) → Only atoms i n t → Forward atoms n m k chosen (i + 1) (set placed i (t + 1))
forward-next atoms n m k chosen i placed w h t only = record {
  after = omega (arith, w.after);
  within = omega arith;
  onward = λ sheet figure links ready e f at keeps.
      let o = w.onward sheet figure links ready e f at keeps in
      let q = forced-onward sheet figure ready placed i (omega (arith, f)) o.atoms-in (omega (arith, f)) atoms links o.keeps t (subst (λ (j : ℕ). Only atoms i j t) (sym e) only) in
      record { atoms-in = q.atoms-in; keeps = q.keeps; same = q.same ∙ o.same };
}
