-- All links, or those of the set.
use Rattle.ways.proofs.GuardedLinks.{all-links}
use Rattle.ways.proofs.guards.guarded_by.Goals as goal

pub returns-then-opens-x-eq1 : goal.returns-then-opens-x-eq1
returns-then-opens-x-eq1 c = λ f b y h may. all-links y h
