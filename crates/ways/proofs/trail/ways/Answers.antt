-- Nothing is seen, and nothing found.
use Rattle.std.proofs.Common.{replicate, refl, arith}
use Rattle.rows.specs.Limits.{sheet_atom_limit, sheet_link_limit}
use Rattle.ways.proofs.Trails.{laid_none}
use Rattle.ways.proofs.trail.ways.Goals as goal

pub loop-at-init : goal.loop-at-init
loop-at-init c = let a = c.args in (omega arith, omega arith, refl, refl, laid_none a.net.now.laid.now a.net.now.taken.now a.net.now.atoms a.guards.now a.net.now.links a.net.now.sorted.now (replicate sheet_link_limit 0) (replicate sheet_atom_limit 0))
