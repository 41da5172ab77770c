-- `steps::apart` meets its contract. Assumes nothing.
use Rattle.stepping.proofs.Alone.{alone-tied}
use Rattle.stepping.proofs.steps.apart.Goals as goal

pub returns-then-all_alone : goal.returns-then-all_alone
returns-then-all_alone c = alone-tied c.args.contexts c.args.rows c.args.count c.args.to.now c.args.none (c.all_alone.ensures c.if-all_alone.true)
