-- By what is on each half.
use Rattle.std.proofs.Common.{arith, eq-eqb, ne_eqb}
use Rattle.ways.proofs.Words.{half_is}
use Rattle.ways.proofs.halves.half_of.Goals as goal

pub returns-then-second-eq0 : goal.returns-then-second-eq0
returns-then-second-eq0 c = (half_is _ _ _ _ (eq-eqb _ _ c.if-first-eq0.true) (eq-eqb _ _ c.if-second-eq0.true), omega arith)

pub returns-then-first-eq0 : goal.returns-then-first-eq0
returns-then-first-eq0 c = (half_is _ _ _ _ (eq-eqb _ _ c.if-first-eq0.true) (ne_eqb _ _ c.if-second-eq0.false), omega arith)

pub returns-then-second-eq0-2 : goal.returns-then-second-eq0-2
returns-then-second-eq0-2 c = (half_is _ _ _ _ (ne_eqb _ _ c.if-first-eq0.false) (eq-eqb _ _ c.if-second-eq0-2.true), omega arith)

pub returns : goal.returns
returns c = (half_is _ _ _ _ (ne_eqb _ _ c.if-first-eq0.false) (ne_eqb _ _ c.if-second-eq0-2.false), omega arith)
