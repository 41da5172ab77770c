-- As the row has it.
use Rattle.std.proofs.Common.{arith}
use Rattle.ways.proofs.Steps.{row-few}
use Rattle.ways.proofs.row.width.Goals as goal

pub returns : goal.returns
returns c = let r = row-few c.args.parts.now c.args.n c.args.row c.requires.0 c.requires.1 in let e = c.wide.ensures.0 in (e, omega arith)
