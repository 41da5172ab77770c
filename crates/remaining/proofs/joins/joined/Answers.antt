-- `joins::joined` meets its contract. Assumes nothing.
use Rattle.remaining.proofs.JoinLaws.{joined-idle, joined-both}
use Rattle.remaining.proofs.joins.joined.Goals as goal

pub returns-then-word-kind-eq0 : goal.returns-then-word-kind-eq0
returns-then-word-kind-eq0 c = joined-idle c.args.flag c.args.at c.args.y c.args.word c.args.kind c.if-word-kind-eq0.true

pub returns-then-flag-eq1 : goal.returns-then-flag-eq1
returns-then-flag-eq1 c = joined-both c.args.flag c.args.at c.args.y c.args.word c.args.kind

pub returns-then-at-y : goal.returns-then-at-y
returns-then-at-y c = joined-both c.args.flag c.args.at c.args.y c.args.word c.args.kind
