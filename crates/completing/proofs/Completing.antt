-- When a state can be completed.
use Prim.Native.Nat.{ℕ}
use mathlib.Core.Path.{refl}
use mathlib.Core.List.Memᴰ
use mathlib.Core.List.{List, []}
use Rattle.hyperlmntal.specs.Link.{◌∈◌}
use Rattle.placing.specs.Net.{Net, Normal}
use Rattle.placing.specs.Placing.{Placing, link_target}
use Rattle.completing.specs.Completion.{Partial, Completable, put, remove}
use Rattle.completing.specs.Fault.{Fault, NoFault, completed}
use Rattle.completing.proofs.Needs.{fault-needs}
use Rattle.completing.proofs.Put.{completion-put}
use Rattle.completing.proofs.Completed.{completed-completion}
use Rattle.completing.proofs.NoFault.{least-contexts}

module _ (S F : Net) (NS : Normal S) (NF : Normal F) (q : Placing) (un : List ℕ) (a : Partial S F q un) where
  -- without a fault it can be completed
  pub no-fault-completable : NoFault S F q → Completable S F q un
  no-fault-completable f = let g = least-contexts S F q f in (completed q g.0, completed-completion S F q NS NF un a f.linked g.0 g.1)

  -- With a fault, and if it can be completed, it can with some unsettled link put at a link of the fault's list.
  pub fault-completable : {v : List ℕ} → Fault S F q v → Completable S F q un → (x : ℕ) × (x ∈ un) × ((y : ℕ) × (y ∈ v) × Completable S F (put q x y) (remove x un))
  fault-completable f c =
      let t = fault-needs S F NS NF q un a c.0 c.1 f in
      (t.0, t.1, (link_target c.0 t.0, t.2, (c.0, completion-put S F NF q un a t.0 t.1 (link_target c.0 t.0) c.0 c.1 refl)))

-- Where all links are settled a fault is the end of it.
pub fault-settled : (S F : Net) → Normal S → Normal F → (q : Placing) → Partial S F q [] → {v : List ℕ} → Fault S F q v → ¬ Completable S F q []
fault-settled S F NS NF q a f c = Memᴰ.not-nil (fault-completable S F NS NF q [] a f c).1
