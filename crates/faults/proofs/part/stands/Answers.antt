use mathlib.Core.Path.{subst}
use Rattle.faults.specs.Parts.{StandsOn}
use Rattle.faults.proofs.AtomRows.{read-stands}
use Rattle.faults.proofs.part.stands.Goals as goal

pub returns-then-links-k : goal.returns-then-links-k
returns-then-links-k c = let t = c.laid_atom-a in
    let h = c.if-j-atoms.true in
    λ e. (h, subst (StandsOn c.args.laid.now c.args.atoms c.args.j) c.if-links-k.true (read-stands c.args.laid.now c.args.atoms c.args.j h t.result t.ensures c.loop-k.k c.loop-k-test.true))
