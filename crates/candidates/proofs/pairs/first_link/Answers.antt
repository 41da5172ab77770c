use Rattle.candidates.proofs.Halves.{some-high}
use Rattle.candidates.proofs.pairs.first_link.Goals as goal

pub first-requires-2 : goal.first-requires-2
first-requires-2 c = some-high _ c.requires c.if-pair-ne0.false
