use Prim.Native.Nat.{ℕ}
use mathlib.Core.Path.{subst}
use native.Mathlib.Omega.{arith}
use Rattle.candidates.specs.Words.{In}
use Rattle.candidates.proofs.Digits.{none_in}
use Rattle.narrowing.proofs.Turns.{link-narrows, narrows_then}
use Rattle.narrowing.proofs.follow.follow.Goals as goal
use Rattle.narrowing.proofs.follow.follow.Goals.{in-Some, in_default+else-due-eq0+else-m-i+else-atoms-i-eq0}

pub returns-then-atoms-i-eq0 : goal.returns-then-atoms-i-eq0
returns-then-atoms-i-eq0 c = record {
  narrowed = c.loop.invariant;
  empty = λ e. (c.first-i.result, omega (arith, c.if-m-i.false), λ t m. none_in t (subst (λ (x : ℕ). In x t) c.if-atoms-i-eq0.true m));
}

pub loop-preserved : goal.loop-preserved
loop-preserved c =
    let s = c.args in
    elim c.match-next_link.branch [
      | in-Some w ↦
          let b = w.link_turn-due.new.atoms in
          rw (w.atoms-is, w.links-is)
          (λ kin. narrows_then kin s.laid.now s.n s.parts.now s.m s.atoms.now s.links.now c.loop.atoms c.loop.links b c.loop.links (c.loop.invariant kin)
          (link-narrows kin s.laid.now s.n s.parts.now s.m c.loop.atoms c.loop.links b (w.link_turn-due.ensures s.laid.now s.n s.parts.now s.m c.requires.0 c.requires.1 c.requires.3)))
      | in_default+else-due-eq0+else-m-i+else-atoms-i-eq0 w ↦
          let turn = w.atom_turn-due in
          rw (w.atoms-is, w.links-is)
          (λ kin. narrows_then kin s.laid.now s.n s.parts.now s.m s.atoms.now s.links.now c.loop.atoms c.loop.links turn.new.atoms turn.new.links (c.loop.invariant kin) (turn.ensures kin))
    ]
