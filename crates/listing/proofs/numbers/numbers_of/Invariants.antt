-- Invariant: the first k links are numbered, and their numbers stand in the array.
use Prim.Native.Nat.{ℕ, ◌≤◌}
use mathlib.Core.Path.{◌≡◌}
use mathlib.Core.List.{List, map}
use lib.ListN.{length, take}
use Rattle.rows.specs.Format.{most_links}
use Rattle.rows.specs.Packed.{padded}
use Rattle.numbering.specs.Numbering.{numbering, with_classes}
use Rattle.listing.specs.Writing.{number_in}
use Rattle.listing.proofs.numbers.numbers_of.Given as goal

abbrev pub invariant-loop-k : goal.invariant-loop-k
invariant-loop-k l = (l.k ≤ l.count) × (length l.links ≡ most_links) × (numbering l.numbers l.numbered ≡ with_classes (numbering l.initial.numbers l.initial.numbered) (take l.k l.links))
    × ((later : List ℕ) → l.more ≡ padded most_links 0 (map (number_in (with_classes (numbering l.numbers l.numbered) later).numbers) (take l.k l.links)))
