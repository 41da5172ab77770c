-- The first of the set is the only one where nothing else is left.
use native.Mathlib.Omega.{arith}
use Rattle.candidates.proofs.Forcing.{empty-only, several-only, first-only}
use Rattle.candidates.proofs.forced.forced.Goals as goal

pub returns-then-row-eq0 : goal.returns-then-row-eq0
returns-then-row-eq0 c = let a = c.args in empty-only a.atoms.now a.k a.n c.if-row-eq0.true

pub returns-then-minus-ne0 : goal.returns-then-minus-ne0
returns-then-minus-ne0 c = let m = c.minus in
    let o = c.one in
    let f = c.first-t in
    let a = c.args in
    several-only a.atoms.now a.k a.n f.result f.ensures.1 o.result m.result o.ensures m.ensures (omega (arith, c.if-minus-ne0.true)) (omega arith)

pub returns : goal.returns
returns c = let m = c.minus in
    let o = c.one in
    let f = c.first-t in
    let a = c.args in
    first-only a.atoms.now a.k a.n f.result f.ensures.1 o.result m.result o.ensures m.ensures (omega (arith, c.if-minus-ne0.false)) c.if-n-t.false
