-- Invariant: the places so far are chained.
use mathlib.Core.Path.{◌≡◌}
use lib.ListN.{length}
use Rattle.placing.specs.Net.{Net}
use Rattle.stepping.specs.Chains.{node_of, Chained, RowIn, node_count}
use Rattle.stepping.proofs.chains.chain.Given as goal

abbrev pub invariant-loop-k : goal.invariant-loop-k
invariant-loop-k l = (length l.table ≡ node_count) × ((S : Net) → RowIn S l.j l.links l.count → Chained S (node_of l.j 0) l.initial.table → Chained S (node_of l.j l.k) l.table)
