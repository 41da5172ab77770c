-- `remaining::settled_cut` meets its contract. Assumes nothing.
use Prim.Native.Nat.{ℕ, suc, ◌-◌}
use mathlib.Core.Path.{◌≡◌, refl, subst}
use native.Mathlib.Omega.{arith}
use lib.ListN.{get_or}
use Rattle.remaining.specs.Joining.{Closure}
use Rattle.placing.proofs.FirstLaws.{both_ways}
use Rattle.remaining.proofs.remaining.settled_cut.Goals as goal

pub returns : goal.returns
returns c = let s = c in
    let to = s.args.to.now in
    let x = s.args.x in
    let e : get_or to x 0 ≡ suc (get_or to x 0 - 1) = (let r = s.requires.3 x s.requires.1 in omega (arith, r.0)) in (
      c.cut.ensures.0,
      (λ f. both_ways f refl),
      λ S n k taken digits g a. c.cut.ensures.1 S n k taken digits (g x (get_or to x 0 - 1) c.closure-word.result s.requires.1 c.if-y-none.false e
          (subst (λ (y : ℕ). Closure s.args.standing.now s.args.flags.now to s.args.count y (get_or s.args.standing.now x 0) c.closure-word.result) e c.closure-word.ensures)) a,
    )
