-- `standing::context_word` meets its contract. Assumes nothing.
use Rattle.stepping.proofs.StandingWords.{context-shifted}
use Rattle.stepping.proofs.standing.context_word.Goals as goal

pub returns : goal.returns
returns c = context-shifted c.args.k
