use Rattle.settling.proofs.Trying.{described-of}
use Rattle.settling.proofs.obstacle.hopeless.Goals as goal

pub returns-then-refused : goal.returns-then-refused
returns-then-refused c = λ sheet figure o s e. c.refused.ensures sheet figure (described-of _ o s) c.if-refused.true

pub returns : goal.returns
returns c = λ sheet figure o s. c.outnumbered.ensures sheet figure (described-of _ o s) o.nets-in.laid_out
