-- Names and counts as they are laid out.
use mathlib.Core.Path.{sym, subst}
use Rattle.rows.specs.declared.Atom.{Atom}
use Rattle.candidates.specs.Laid.{laid_atom}
use Rattle.starting.specs.Steps.{Alike}
use Rattle.starting.proofs.alike.alike.Goals as goal

pub returns-then-sheet-at : goal.returns-then-sheet-at
unfolding laid_atom
returns-then-sheet-at c = λ f. absurd (c.if-sheet-at.true (sym f.names))

pub returns-then-sheet-at-2 : goal.returns-then-sheet-at-2
unfolding laid_atom
returns-then-sheet-at-2 c = λ f. absurd (c.if-sheet-at-2.true (sym f.counts))

pub returns : goal.returns
returns c = λ f. c.echoes_all.ensures (subst (λ (a : Atom). Alike c.args.here a) (sym c.laid_atom-there.ensures) f).echoes
