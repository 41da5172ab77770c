use Prim.Native.Nat.{ℕ}
use mathlib.Core.Path.{◌≡◌, refl, subst}
use native.Mathlib.Omega.{arith}
use Rattle.deciding.specs.Kinds.{KindsTo}
use Rattle.deciding.proofs.KindLaws.{kinds-start, kinds-end}
use Rattle.deciding.proofs.kinds.kinds.Goals as goal

pub loop-c-init : goal.loop-c-init
loop-c-init c = kinds-start c.args.contexts _ refl

pub returns : goal.returns
returns c =
    let l = c.loop-c in
    let e : l.c ≡ c.args.rows = omega (arith, c.loop-c-test.false, l.auto.c-end) in
    λ figure links o. kinds-end o l.k (subst (λ (n : ℕ). KindsTo c.args.contexts n l.k) e l.invariant)
