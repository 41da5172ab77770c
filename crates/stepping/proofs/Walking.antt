-- Walks along the chain of a link, which see all atoms on it.
use Prim.Native.Nat.{ℕ, suc, ◌-◌, ◌/◌, ◌≤◌, ◌<◌}
use mathlib.Core.Path.{◌≡◌, refl, sym, subst}
use mathlib.Core.Logic.{⊎_elim, ◌≢◌}
use mathlib.Core.List.{List}
use mathlib.Core.Option.{some}
use native.Mathlib.Decide.{ℕ_discrete}
use native.Mathlib.Omega.{arith}
use lib.ListN.{length, get_or, get_elem?}
use Rattle.rows.specs.Format.{most_links}
use Rattle.rows.specs.Limits.{sheet_atom_limit, sheet_link_limit}
use Rattle.rows.specs.declared.Sheet as form
use Rattle.rows.proofs.RowRange.{le-or-lt}
use Rattle.placing.specs.Net.{Net}
use Rattle.placing.specs.Placing.{cell_at}
use Rattle.placing.proofs.Lists.{member-at, get_d_of}
use Rattle.reading.proofs.normal.Merging.{get_d-in}
use Rattle.network.specs.NetIn.{net_in, Fit}
use Rattle.network.proofs.NetIn.{atoms-length}
use Rattle.completing.specs.Known.{Touches}
use Rattle.stepping.specs.Chains.{node_of, node_count, NodeOn, LastOn, ChainsIn}
use Rattle.stepping.proofs.Chaining.{row_in}

-- the atom of a node
abbrev pub atom_of : ℕ → ℕ
atom_of v = (v - sheet_link_limit) / most_links

-- A node's number says its atom, which is one of a sheet.
pub atom-few : (v : ℕ) → sheet_link_limit ≤ v → v < node_count → atom_of v < sheet_atom_limit
atom-few v h l = omega (arith, h, l)

module _ (S : Net) (y v : ℕ) (o : NodeOn S y v) where
  pub node-atom : atom_of v ≡ o.atom
  node-atom = let e = o.node in let h = o.place-few in omega (arith, e, h)

  -- and it is on the link
  pub node-touches : (atom_of v < length S.atoms) × Touches S (suc (atom_of v)) (suc y)
  node-touches = subst (λ (i : ℕ). (i < length S.atoms) × Touches S (suc i) (suc y)) (sym node-atom)
      (o.atom-in, subst (Touches S (suc o.atom)) o.link (get_d-in (cell_at S.atoms (suc o.atom)).1 o.place 0 o.place_in))

-- At node v of the chain of link y, or at its end where v is 0: the atoms of all nodes above v have P.
pub record Walk (S : Net) (P : ℕ → Type 0) (y v : ℕ) : Type 0 where
  pub here : v ≢ 0 → NodeOn S y v
  pub above : (w : ℕ) → v < w → NodeOn S y w → P (atom_of w)

module _ (sheet : form.Sheet) (f : Fit sheet) (chains : List ℕ) (c : ChainsIn sheet chains) (P : ℕ → Type 0) (y : ℕ) where
  abbrev S : Net
  S = net_in sheet

  below : (w : ℕ) → NodeOn S y w → w < node_of sheet.atom_count 0
  below w o = omega (arith, o.atom-in, o.node, o.place-few, atoms-length sheet f)

  pub walk_start : y < sheet_link_limit → Walk S P y (get_or chains y 0)
  walk_start h = let l = c.last y h in record { here = l.is; above = λ w b o. absurd (l.none w b (below w o) o) }

  pub walk-next : (v : ℕ) → v ≢ 0 → Walk S P y v → P (atom_of v) → Walk S P y (get_or chains v 0)
  walk-next v n w p = record { here = l.is; above = λ z b o. go z b o (ℕ_discrete z v) }
    where
      o : NodeOn S y v
      o = w.here n

      l : LastOn S v y (get_or chains v 0)
      l = c.next y v (below v o) o

      go : (z : ℕ) → get_or chains v 0 < z → NodeOn S y z → Dec (z ≡ v) → P (atom_of z)
      go z b i (yes e) = subst (λ (m : ℕ). P (atom_of m)) (sym e) p
      go z b i (no e) = ⊎_elim (λ m. absurd (l.none z b (omega arith) i)) (λ m. w.above z m i) (le-or-lt z v)

  pub walk_end : (v : ℕ) → v ≡ 0 → Walk S P y v → (j : ℕ) → j < length S.atoms → Touches S (suc j) (suc y) → P j
  walk_end v e w j h m = subst P (node-atom S y (node_of j t.0) o) (w.above (node_of j t.0) (omega arith) o)
    where
      t : (k : ℕ) × (k < length (cell_at S.atoms (suc j)).1) × (get_elem? (cell_at S.atoms (suc j)).1 k ≡ some (suc y))
      t = member-at (cell_at S.atoms (suc j)).1 (suc y) m

      l : j < sheet.atom_count
      l = omega (arith, h, atoms-length sheet f)

      o : NodeOn S y (node_of j t.0)
      o = record {
        atom = j;
        place = t.0;
        atom-in = h;
        place_in = t.1;
        place-few = omega (arith, t.1, (row_in sheet f j l).width, (f.atoms j l).few);
        link = get_d_of (cell_at S.atoms (suc j)).1 t.0 0 (suc y) t.2;
        node = refl;
      }
