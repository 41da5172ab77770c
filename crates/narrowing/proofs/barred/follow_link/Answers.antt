use Prim.Native.Nat.{ℕ, ◌+◌, ◌*◌, ◌<◌}
use mathlib.Core.Path.{subst}
use mathlib.Core.List.{List}
use lib.ListN.{get_or}
use Rattle.rows.specs.Limits.{sheet_link_limit}
use Rattle.candidates.specs.Laid.{laid_atom}
use Rattle.candidates.specs.Words.{In}
use Rattle.candidates.proofs.Staying.{atoms-then}
use Rattle.narrowing.specs.Steps.{Barred, Fitting}
use Rattle.narrowing.proofs.Barring.{fitting-spared}
use Rattle.narrowing.proofs.barred.follow_link.Goals as goal
use Rattle.narrowing.proofs.barred.follow_link.Goals.{then-some-ne0, else-some-ne0}

pub loop-k-preserved : goal.loop-k-preserved
loop-k-preserved c =
    let a = c.args in
    let k = c.loop-k.k in
    elim c.if-some-ne0.branch [
      | then-some-ne0 w ↦ λ sheet n figure m r u o. rw w.atoms-is (atoms-then a.atoms.now c.loop-k.atoms w.take_from-due.new.atoms (λ i t. (i < m) × (t < n) × Fitting (laid_atom figure i) (laid_atom sheet t) a.links.now) (λ i t. In (get_or a.owners.now (k * sheet_link_limit + a.x) 0) i → ¬ In w.barred-out.result t)
          (c.loop-k.invariant sheet n figure m r u o) w.take_from-due.ensures
          (λ i t h p. fitting-spared sheet n figure m a.users.now a.owners.now a.links.now k a.x w.barred-out.result r u o c.loop-k-test.true c.requires (subst (λ (z : List ℕ). Barred a.users.now k z w.barred-out.result) c.pair_at-left.ensures w.barred-out.ensures) i t p.1 p.2))
      | else-some-ne0 w ↦ rw w.atoms-is c.loop-k.invariant
    ]
