-- Invariant: the first k ports are numbered, their rows are written over the slip, and the rest of it is as it was.
use Prim.Native.Nat.{ℕ, ◌≤◌, ◌*◌}
use mathlib.Core.Path.{◌≡◌}
use mathlib.Core.List.{List}
use lib.ListN.{length, take}
use Rattle.rows.specs.Format.{most_links, row_width}
use Rattle.writing.proofs.RowBytes.{over}
use Rattle.numbering.specs.Numbering.{numbering, with_classes}
use Rattle.listing.specs.Writing.{number_in, ports_bytes}
use Rattle.listing.proofs.put_rows.put_ports.Given as goal

abbrev pub invariant-loop-k : goal.invariant-loop-k
invariant-loop-k l = (l.k ≤ l.count) × (length l.out ≡ length l.initial.out) × (length l.ports ≡ most_links) × (numbering l.numbers l.numbered ≡ with_classes (numbering l.initial.numbers l.initial.numbered) (take l.k l.ports))
    × ((later : List ℕ) → l.out ≡ over l.initial.out l.at (ports_bytes (number_in (with_classes (numbering l.numbers l.numbered) later).numbers) 1 (take l.k l.ports)) (l.k * row_width))
