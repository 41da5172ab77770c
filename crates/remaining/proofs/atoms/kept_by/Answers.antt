-- `atoms::kept_by` meets its contract. Assumes nothing.
use Rattle.candidates.proofs.Digits.{in_and}
use Rattle.remaining.proofs.atoms.kept_by.Goals as goal

pub returns : goal.returns
returns c = record { kept = λ t i f. in_and c.args.word c.args.closed t i (f c.if-taken-eq1.false) }
