-- A closed link other than x loses y.
use Rattle.std.proofs.Common.{◌≡◌, ℕ, ◌+◌, ◌-◌, ◌<◌, List, get_or, sym, subst, ⊎_elim, arith}
use Rattle.rows.specs.Limits.{sheet_link_limit}
use Rattle.candidates.specs.Words.{InPair}
use Rattle.candidates.proofs.Staying.{links-put}
use Rattle.candidates.proofs.Halves.{in_pair, pair-in, in-fewer-pair, with-only, empty-pair}
use Rattle.starting.proofs.start.only_closed.Goals as goal
use Rattle.starting.proofs.start.only_closed.Goals.{then-closed-z-eq1+then-z-x, then-closed-z-eq1+else-z-x, else-closed-z-eq1}

pub loop-z-preserved : goal.loop-z-preserved
loop-z-preserved c = let l = c.loop-z in
    let a = c.args in
    let small : a.y - 1 < sheet_link_limit = omega (arith, c.requires.0.0, c.requires.0.1) in
    let P : ℕ → ℕ → Type 0 = λ z v. v ≡ a.y - 1 → get_or a.closed.now z 0 ≡ 1 → z + 1 ≡ a.x in
    elim c.if-closed-z-eq1.branch [
      | then-closed-z-eq1+then-z-x w ↦ rw w.links-is (rw w.set_pair.ensures (links-put a.links.now l.links P l.invariant l.z w.without.result
          (λ v h p m. in-fewer-pair _ _ _ v h w.without.ensures (subst (λ (k : List ℕ). InPair k v) (sym w.pair_at-before.ensures) (pair-in l.links l.z v h m))
          (λ i. ⊎_elim (empty-pair v) (λ e. w.if-z-x.true (p e w.if-closed-z-eq1.true)) (with-only _ _ small _ c.with-only.ensures v (in_pair h) i)))))
      | then-closed-z-eq1+else-z-x w ↦ rw w.links-is l.invariant
      | else-closed-z-eq1 w ↦ rw w.links-is l.invariant
    ]
