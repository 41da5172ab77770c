use Prim.Native.Nat.{ℕ}
use mathlib.Core.Path.{◌≡◌, subst}
use native.Mathlib.Omega.{arith}
use Rattle.stepping.specs.Standing.{StandingTo}
use Rattle.stepping.proofs.StandingWords.{standing-start, standing-next, standing-end}
use Rattle.stepping.proofs.standing.standing.Goals as goal

pub loop-c-init : goal.loop-c-init
loop-c-init c = standing-start c.args.contexts

pub loop-c-preserved : goal.loop-c-preserved
loop-c-preserved c = let l = c.loop-c in
    standing-next c.args.contexts l.c l.words c.mark_links.new.words c.context_word.result c.context_word.ensures l.invariant c.mark_links.ensures

pub returns : goal.returns
returns c = let l = c.loop-c in
    let e : l.c ≡ c.args.rows = omega arith in
    λ figure links o. standing-end figure c.args.contexts c.args.rows links o l.words (subst (λ (n : ℕ). StandingTo c.args.contexts n l.words) e l.invariant)
