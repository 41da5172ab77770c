-- Invariant: the links of the atoms before i that are given are numbered, the rows of these atoms are written over the slip, and the rest of it is as it was.
use Prim.Native.Nat.{ℕ, ◌≤◌, ◌+◌, ◌*◌}
use mathlib.Core.Path.{◌≡◌}
use mathlib.Core.List.{List}
use lib.ListN.{length}
use Rattle.rows.specs.Format.{row_width}
use Rattle.writing.proofs.RowBytes.{over}
use Rattle.numbering.specs.Numbering.{numbering, with_classes}
use Rattle.placing.specs.Net.{cell_links}
use Rattle.listing.specs.Writing.{number_in, given_below, symbols_bytes}
use Rattle.listing.proofs.put_rows.put_symbols.Given as goal

abbrev pub invariant-loop-i : goal.invariant-loop-i
invariant-loop-i l = (l.i ≤ l.sheet.atom_count) × (length l.out ≡ length l.initial.out) × (l.end ≡ l.at + length (given_below l.sheet l.given l.number l.i) * row_width)
    × (numbering l.numbers l.numbered ≡ with_classes (numbering l.initial.numbers l.initial.numbered) (cell_links (given_below l.sheet l.given l.number l.i)))
    × ((later : List ℕ) → l.out ≡ over l.initial.out l.at (symbols_bytes (number_in (with_classes (numbering l.numbers l.numbered) later).numbers) (given_below l.sheet l.given l.number l.i)) (length (given_below l.sheet l.given l.number l.i) * row_width))
