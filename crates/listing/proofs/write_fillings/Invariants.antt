-- Invariant: the text of the fillings of the first i contexts in order, and the rest of the slip as it was.
use Prim.Native.Nat.{◌≤◌}
use mathlib.Core.Path.{◌≡◌}
use mathlib.Core.List.{◌++◌}
use lib.ListN.{length, drop}
use Rattle.listing.proofs.Listed.{text_to}
use Rattle.listing.proofs.write_fillings.Given as goal

abbrev pub invariant-loop-i : goal.invariant-loop-i
invariant-loop-i l = (l.i ≤ l.figure.context_count) × (length l.out ≡ length l.initial.out) × (l.at ≡ length (text_to l.sheet l.figure l.links_to l.given l.i)) × (l.out ≡ text_to l.sheet l.figure l.links_to l.given l.i ++ drop (length (text_to l.sheet l.figure l.links_to l.given l.i)) l.initial.out)
