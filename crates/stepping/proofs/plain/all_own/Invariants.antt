-- `plain::all_own` meets its contract. The loop's invariant: the first k links are passed. Assumes nothing.
use Rattle.stepping.specs.Plain.{AllOwn}
use Rattle.stepping.proofs.plain.all_own.Given as goal

abbrev pub invariant-loop-k : goal.invariant-loop-k
invariant-loop-k l = AllOwn l.chains l.used l.links l.k l.t l.y l.z
