-- Invariant: the first i atoms are counted.
use Prim.Native.Nat.{ℕ, ◌+◌, ◌*◌, ◌<◌}
use mathlib.Core.Path.{◌≡◌}
use mathlib.Core.List.{map}
use lib.ListN.{get_or, take}
use Rattle.rows.specs.Format.{most_links}
use Rattle.rows.specs.Limits.{sheet_link_limit}
use Rattle.rows.specs.declared.Sheet.{Sheet as NormalForm}
use Rattle.placing.specs.Net.{cell_links}
use Rattle.network.specs.NetIn.{atom_in}
use Rattle.candidates.specs.Laid.{LaidOut}
use Rattle.starting.specs.Count.{count}
use Rattle.starting.specs.Steps.{Tally}
use Rattle.starting.proofs.profile.place_counts.Given as goal

abbrev pub invariant-loop-i : goal.invariant-loop-i
invariant-loop-i l = Tally l.counts (l.i * most_links) × ((net : NormalForm) → LaidOut net l.laid l.n → (x : ℕ) → x < sheet_link_limit → get_or l.counts x 0 ≡ count (x + 1) (cell_links (map atom_in (take l.i net.atoms))))
