-- `plain::step_over` meets its contract. Assumes nothing.
use Rattle.stepping.proofs.PlainSteps.{found-range, step-found}
use Rattle.stepping.proofs.plain.step_over.Goals as goal

pub returns : goal.returns
returns c = let i = c.args in
    let a = c.laid_atom-a in
    let g = c.in_ok-z in
    let k = g.ensures in
    let o = c.only_on in
    let w = c.all_own in (
      found-range i.laid.now i.chains.now i.atoms i.t a.result a.ensures c.requires.2 c.requires.0 g.z k,
      step-found i.laid.now i.chains.now i.atoms i.t a.result a.ensures c.requires.2 i.used.now i.taken.now c.other_on-u.result i.y g.z c.if-taken-t-eq1.false k c.if-z-y.false c.if-used-z-eq1.false
          c.other_on-u.ensures.1 c.if-taken-u-eq1.false (o.ensures c.if-not-only_on.false) (w.ensures c.if-not-all_own.false),
    )
