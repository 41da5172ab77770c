-- The links of a row lie behind its count.
use Prim.Native.Nat.{◌+◌, ◌<◌}
use mathlib.Core.Path.{subst}
use native.Mathlib.Omega.{arith}
use Rattle.rows.specs.Limits.{sheet_link_limit}
use Rattle.placing.specs.Net.{Range}
use Rattle.candidates.specs.Laid.{laid_at, laid_atom}
use Rattle.candidates.proofs.Laying.{link-laid, count-laid}
use Rattle.narrowing.proofs.given.link_at.Goals as goal
use Rattle.narrowing.proofs.given.link_at.Goals.{Else-laid-at}

pub returns-then-laid-at : goal.returns-then-laid-at
returns-then-laid-at c = omega (arith, count-laid c.args.laid.now c.args.t, c.if-laid-at.true)

placed : (c : Else-laid-at) → c.args.k < (laid_atom c.args.laid.now c.args.t).count
placed c = omega (arith, count-laid c.args.laid.now c.args.t, c.if-laid-at.false)

used : (c : Else-laid-at) → Range sheet_link_limit (laid_at c.args.laid.now c.args.t (2 + c.args.k))
used c = subst (Range sheet_link_limit) (link-laid c.args.laid.now c.args.t c.args.k c.requires.1) (c.requires.2.numbered c.args.k (placed c))

pub overflow_sub-result : goal.overflow_sub-result
overflow_sub-result c = let u = used (goal.at.overflow_sub-result c).Else-laid-at in omega (arith, u.0)

pub returns : goal.returns
returns c =
    let u = used (goal.at.returns c).Else-laid-at in
    (placed (goal.at.returns c).Else-laid-at, omega (arith, link-laid c.args.laid.now c.args.t c.args.k c.requires.1, u.0), omega (arith, u.0, u.1))
