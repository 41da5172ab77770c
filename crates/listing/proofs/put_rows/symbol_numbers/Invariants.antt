-- Invariant: the first k links are numbered, and stand after two numbers in the row.
use Prim.Native.Nat.{ℕ, ◌≤◌}
use mathlib.Core.Path.{◌≡◌}
use mathlib.Core.List.{List, ◌∷◌, map}
use lib.ListN.{length, take}
use Rattle.rows.specs.Format.{most_links, field_count}
use Rattle.rows.specs.Packed.{padded}
use Rattle.numbering.specs.Numbering.{numbering, with_classes}
use Rattle.listing.specs.Writing.{number_in}
use Rattle.listing.proofs.put_rows.symbol_numbers.Given as goal

abbrev pub invariant-loop-k : goal.invariant-loop-k
invariant-loop-k l = (l.k ≤ l.count) × (length l.links ≡ most_links) × (numbering l.numbers l.numbered ≡ with_classes (numbering l.initial.numbers l.initial.numbered) (take l.k l.links))
    × ((later : List ℕ) → l.nums ≡ padded field_count 0 (l.name ∷ l.count ∷ map (number_in (with_classes (numbering l.numbers l.numbered) later).numbers) (take l.k l.links)))
