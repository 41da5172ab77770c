-- Invariant: what the first k places add is added.
use Rattle.std.proofs.Common.{◌≡◌, ℕ, suc, ◌+◌, ◌%◌, ◌<◌, length, get_or, take}
use Rattle.rows.specs.Limits.{sheet_link_limit}
use Rattle.colours.specs.Colours.{places_at}
use Rattle.colours.specs.Mixed.{word_size, mixing}
use Rattle.colours.proofs.atom.add_around.Given as goal

abbrev pub invariant-loop-k : goal.invariant-loop-k
invariant-loop-k l = (length l.around ≡ sheet_link_limit)
    × ((sums : ℕ → ℕ) → ((x : ℕ) → x < sheet_link_limit → get_or l.initial.around x 0 ≡ sums x % word_size) → (x : ℕ) → x < sheet_link_limit → get_or l.around x 0 ≡ (sums x + places_at (mixing.at_place l.colour) (suc x) 0 (take l.k l.atom.links)) % word_size)
