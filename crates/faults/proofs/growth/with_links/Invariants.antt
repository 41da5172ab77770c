-- Invariant: the links so far were looked at.
use Rattle.candidates.specs.Laid.{laid_atom}
use Rattle.faults.specs.Grows.{growth, Enlarged, WithLinks}
use Rattle.faults.proofs.growth.with_links.Given as goal

abbrev pub invariant-loop-k : goal.invariant-loop-k
invariant-loop-k l = Enlarged l.atoms (growth l.initial.order l.count l.initial.way) l.initial.seen (growth l.order l.next l.way) l.seen l.cuts × WithLinks l.chains l.used l.ports (laid_atom l.laid l.from).links l.k l.atoms l.contexts (growth l.initial.order l.count l.initial.way) l.initial.seen l.initial.cuts (growth l.order l.next l.way) l.seen l.cuts
