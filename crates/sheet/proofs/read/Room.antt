-- What is held within the limits leaves a sheet room for one row more, and a good row is in range.
use Prim.Native.Nat.{ℕ, zero, suc, ◌+◌, ◌-◌, ◌<◌, ◌≤◌}
use mathlib.Core.Path.{◌≡◌}
use mathlib.Core.List.{List, [], ◌∷◌, ◌++◌}
use mathlib.Core.Bool.{true}
use native.Mathlib.Omega.{arith}
use lib.ListN.{length, get_or, replicate}
use Rattle.rows.specs.Limits.{sheet_atom_limit, filling_links, mark_room}
use Rattle.rows.specs.Row.{row_of}
use Rattle.rows.specs.Held.{Held}
use Rattle.rows.specs.Packed.{padded}
use Rattle.rows.specs.TextArrays.{packed}
use Rattle.linking.specs.Steps.{Room}
use Rattle.rows.specs.Entry.{Ranged}
use Rattle.rows.proofs.Padding.{get_d-filled}
use Rattle.rows.proofs.RowRange.{good-letter, atom-range, context-range, head-range}
use Rattle.sheet.specs.Kinds.{atom_limit, link_limit}
use Rattle.sheet.specs.declared.kind.Kind.{Kind}
use Rattle.sheet.specs.declared.kind.Kind.TheVariants.{Plain, Pattern, Figure, Replacement, Fillings}
use Rattle.sheet.specs.HeldLimits.{WithinLimits}

-- No kind's limits are greater than what a sheet has room for.
pub limits-most : (kind : Kind) → (atom_limit kind ≤ sheet_atom_limit) × (link_limit kind ≤ filling_links)
limits-most Plain = omega arith
limits-most Pattern = omega arith
limits-most Figure = omega arith
limits-most Replacement = omega arith
limits-most Fillings = omega arith

-- Behind a list there are zeros.
pub zeros-below : (n m : ℕ) (l : List ℕ) → 0 < m → ((p : ℕ) → p < length l → get_or l p 0 < m) → (p : ℕ) → get_or (l ++ replicate n 0) p 0 < m
zeros-below n m [] z h p = rw (get_d-filled {A = ℕ} 0 n p) z
zeros-below n m (x ∷ l) z h zero = h 0 (omega arith)
zeros-below n m (x ∷ l) z h (suc p) = zeros-below n m l z (λ q k. h (suc q) (omega arith)) p

pub within-room : (kind : Kind) (h : Held) → WithinLimits kind h → Room (packed h)
unfolding padded
within-room kind h w =
    let most = limits-most kind in
    record {
      atoms = omega arith;
      contexts = w.contexts;
      links = omega arith;
      marks = w.marks;
      places = zeros-below (mark_room - length h.wiring.marked) filling_links h.wiring.marked (omega arith) (λ p l. omega (arith, w.wired.within p (omega arith)));
    }

pub good-ranged : (s : List ℕ) → (row_of s).good ≡ true → Ranged (row_of s)
good-ranged s g =
    record {
      known = good-letter s g;
      atom = λ e. (atom-range s g e).links.count;
      context = λ e. let r = context-range s g e in (omega (arith, r.number), r.links.count);
      head = λ e. let r = head-range s g e in (omega (arith, r.number), r.count);
    }
