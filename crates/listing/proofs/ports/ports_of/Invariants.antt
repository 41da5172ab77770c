-- Invariant: where the first k ports stand.
use Prim.Native.Nat.{◌≤◌}
use mathlib.Core.Path.{◌≡◌}
use mathlib.Core.List.{map}
use lib.ListN.{length, take}
use Rattle.rows.specs.Format.{most_links}
use Rattle.rows.specs.Packed.{padded}
use Rattle.listing.specs.Writing.{stands_at}
use Rattle.listing.proofs.ports.ports_of.Given as goal

abbrev pub invariant-loop-k : goal.invariant-loop-k
invariant-loop-k l = (l.k ≤ l.count) × (length l.links ≡ most_links) × (l.ports ≡ padded most_links 0 (map (stands_at l.sheet_links l.links_to) (take l.k l.links)))
