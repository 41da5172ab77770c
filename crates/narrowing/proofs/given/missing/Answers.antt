use Prim.Native.Nat.{ℕ, ◌+◌, ◌*◌}
use mathlib.Core.Path.{subst}
use mathlib.Core.Logic.{⊎_elim}
use native.Mathlib.Omega.{arith}
use lib.ListN.{get_or}
use Rattle.rows.specs.Limits.{sheet_link_limit}
use Rattle.candidates.specs.Words.{In}
use Rattle.candidates.proofs.Digits.{none_in, in_and, alone-in, fewer-smaller}
use Rattle.candidates.proofs.Halves.{in_pair, with-only, empty-pair}
use Rattle.narrowing.proofs.given.missing.Goals as goal

pub loop-rest-init : goal.loop-rest-init
loop-rest-init c = λ y h p. absurd (empty-pair y p)

pub loop-rest-preserved-then-users-k-eq0 : goal.loop-rest-preserved-then-users-k-eq0
loop-rest-preserved-then-users-k-eq0 c =
    let s = c.args in
    λ y h p t r u. ⊎_elim (λ q. c.loop-rest.invariant y h q t r u)
    (λ e. none_in t (subst (λ (w : ℕ). In w t) c.if-users-k-eq0.true (in_and _ s.row t (subst (λ (z : ℕ). In (get_or s.users.now (s.k * sheet_link_limit + z) 0) t) e u) r)))
    (with-only _ _ c.in-Some.ensures.2 _ c.with-more.ensures y (in_pair h) p)

pub loop-rest-smaller-then-users-k-eq0 : goal.loop-rest-smaller-then-users-k-eq0
loop-rest-smaller-then-users-k-eq0 c = fewer-smaller _ _ _ c.minus-rest.ensures c.first-t.result c.first-t.ensures.1 (alone-in _ _ c.one.ensures)

pub loop-rest-smaller-else-users-k-eq0 : goal.loop-rest-smaller-else-users-k-eq0
loop-rest-smaller-else-users-k-eq0 c = fewer-smaller _ _ _ c.minus-rest.ensures c.first-t.result c.first-t.ensures.1 (alone-in _ _ c.one.ensures)

pub loop-rest-smaller-in_default : goal.loop-rest-smaller-in_default
loop-rest-smaller-in_default c = fewer-smaller _ _ _ c.minus-rest.ensures c.first-t.result c.first-t.ensures.1 (alone-in _ _ c.one.ensures)

pub loop-rest-smaller : goal.loop-rest-smaller
loop-rest-smaller c = fewer-smaller _ _ _ c.minus-rest.ensures c.first-t.result c.first-t.ensures.1 (alone-in _ _ c.one.ensures)
