-- A filled figure without blanks is too large exactly when its normal text has over 64 symbols or 96 joints.
use Prim.Native.Nat.{ℕ, ◌≤◌, ◌<◌}
use mathlib.Core.Path.{◌≡◌, refl}
use mathlib.Core.Logic.{inl, inr, ◌↔◌, ⊎_elim}
use mathlib.Core.Bool.{Bool, true, false, false≢true}
use native.Mathlib.Omega.{arith}
use borrow.Author.Tests.{ltb-true, le-ltb, lt-ltb}
use lib.Dec.{ltb}
use lib.ListN.{length}
use Rattle.hyperlmntal.specs.Hypergraph.{Flat}
use Rattle.rows.specs.Pick.{or}
use Rattle.rows.specs.Limits.{sheet_atom_limit, sheet_link_limit}
use Rattle.reading.specs.Normal.{normal_form}
use Rattle.reading.proofs.normal.NormalBounds.{class_total}
use Rattle.placing.specs.Net.{Net, net_of}
use Rattle.filling.specs.Fill.{is_too_large}
use Rattle.filling.proofs.ResultNet.{Atoms, result-atoms, result-links}
use Rattle.tasks.specs.Demand.{OverLimits}

module _ (G : Flat ℕ) (atoms : Atoms G.atoms) where
  abbrev N : Net
  N = net_of (normal_form G)

  pub too_large : (is_too_large G ≡ true) ↔ OverLimits (normal_form G)
  too_large = (λ e. go (ltb sheet_atom_limit (length G.atoms)) (ltb sheet_link_limit (class_total G)) refl refl e, λ o. ⊎_elim many long o)
    where
      go : (a b : Bool) → ltb sheet_atom_limit (length G.atoms) ≡ a → ltb sheet_link_limit (class_total G) ≡ b → or a b ≡ true → OverLimits (normal_form G)
      go true b p q e = inl (omega (arith, ltb-true sheet_atom_limit (length G.atoms) p, result-atoms G atoms))
      go false true p q e = inr (omega (arith, ltb-true sheet_link_limit (class_total G) q, result-links G atoms))
      go false false p q e = absurd (false≢true e)

      long : sheet_link_limit < N.links → is_too_large G ≡ true
      long h = rw (lt-ltb sheet_link_limit (class_total G) (omega (arith, h, result-links G atoms))) (either (ltb sheet_atom_limit (length G.atoms)))
        where
          either : (a : Bool) → or a true ≡ true
          either true = refl
          either false = refl

      many : sheet_atom_limit < length N.atoms → is_too_large G ≡ true
      many h = rw (lt-ltb sheet_atom_limit (length G.atoms) (omega (arith, h, result-atoms G atoms)))

  pub not-large : length N.atoms ≤ sheet_atom_limit → N.links ≤ sheet_link_limit → is_too_large G ≡ false
  not-large a b = rw (le-ltb sheet_atom_limit (length G.atoms) (omega (arith, a, result-atoms G atoms)), le-ltb sheet_link_limit (class_total G) (omega (arith, b, result-links G atoms)))
