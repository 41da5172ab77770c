-- Invariant: with the ports that are left, all are joined.
use borrow.Author.Rules.{rules}
use native.Mathlib.Omega.{arith}
use Prim.Native.Nat.{◌≤◌, ◌+◌, ◌*◌, ◌-◌}
use mathlib.Core.Path.{◌≡◌, refl, sym, ◌∙◌, ap, subst}
use lib.ListN.{length, get_or, take, drop}
use Rattle.rows.specs.Format.{most_links}
use Rattle.filling.specs.Parts.{part_room}
use Rattle.filling.specs.Glued.{place_of, FreshFrom, joined_all, port_pairs}
use Rattle.filling.proofs.Fresh.{fresh-joined}
use Rattle.filling.proofs.Loops.{ports-next, ports-end}
use Rattle.filling.proofs.glue.with_ports.Statement.{statement}
use Rattle.filling.proofs.glue.with_ports.Tie as tie

abbrev invariant-loop : tie.invariant-loop-k
invariant-loop labels₀ p count marked links k₀ labels k = (k ≤ count) × (length links ≡ most_links) × (count ≤ length marked) × FreshFrom ((p + 1) * part_room) labels × (joined_all labels (port_pairs p (drop k (take count links)) (drop k (take count marked))) ≡ joined_all labels₀ (port_pairs p (take count links) (take count marked)))

abbrev decreases-loop : tie.decreases-loop-k
decreases-loop labels₀ p count marked links k₀ labels k = count - k

loop-holds : tie.Need-loop-k-init invariant-loop decreases-loop
loop-holds c = (search rules, search rules, c.requires.0.4, c.requires.0.2, refl)

add-merged : tie.Need-overflow_add-p invariant-loop decreases-loop
add-merged c = let l = c in
    omega (arith, l.requires.0.0, l.requires.0.1, (l.requires.1 l.loop-k.k).0, (l.requires.1 l.loop-k.k).1)

mul-merged : tie.Need-overflow_mul-p invariant-loop decreases-loop
mul-merged c = let l = c in
    omega (arith, l.requires.0.0, l.requires.0.1, (l.requires.1 l.loop-k.k).0, (l.requires.1 l.loop-k.k).1)

mul-merged-2 : tie.Need-offset_bounds-links-k invariant-loop decreases-loop
mul-merged-2 c = let l = c in
    omega (arith, l.requires.0.0, l.requires.0.1, (l.requires.1 l.loop-k.k).0, (l.requires.1 l.loop-k.k).1)

array-read-merged : tie.Need-bounds-links-k invariant-loop decreases-loop
array-read-merged c = let l = c in
    omega (arith, l.requires.0.0, l.requires.0.1, (l.requires.1 l.loop-k.k).0, (l.requires.1 l.loop-k.k).1)

cast-merged : tie.Need-overflow_cast-links invariant-loop decreases-loop
cast-merged c = let l = c in
    omega (arith, l.requires.0.0, l.requires.0.1, (l.requires.1 l.loop-k.k).0, (l.requires.1 l.loop-k.k).1)

mul-merged-3 : tie.Need-overflow_mul-p-in-loop-k invariant-loop decreases-loop
mul-merged-3 c = let l = c in
    omega (arith, l.requires.0.0, l.requires.0.1, (l.requires.1 l.loop-k.k).0, (l.requires.1 l.loop-k.k).1)

mul-merged-4 : tie.Need-offset_bounds-marked-k invariant-loop decreases-loop
mul-merged-4 c = let l = c in
    omega (arith, l.requires.0.0, l.requires.0.1, (l.requires.1 l.loop-k.k).0, (l.requires.1 l.loop-k.k).1)

shared-slice-read-merged : tie.Need-bounds-marked-k invariant-loop decreases-loop
shared-slice-read-merged c = let l = c in
    omega (arith, l.requires.0.0, l.requires.0.1, (l.requires.1 l.loop-k.k).0, (l.requires.1 l.loop-k.k).1)

cast-merged-2 : tie.Need-overflow_cast-marked invariant-loop decreases-loop
cast-merged-2 c = let l = c in
    omega (arith, l.requires.0.0, l.requires.0.1, (l.requires.1 l.loop-k.k).0, (l.requires.1 l.loop-k.k).1)

add-merged-2 : tie.Need-overflow_add-p-in-loop-k invariant-loop decreases-loop
add-merged-2 c = let l = c in
    omega (arith, l.requires.0.0, l.requires.0.1, (l.requires.1 l.loop-k.k).0, (l.requires.1 l.loop-k.k).1)

merged-requires : tie.Need-merged-requires invariant-loop decreases-loop
merged-requires c κs = let l = c in
    let h = l.requires in
    (omega (arith, (h.1 l.loop-k.k).0), omega (arith, (h.1 l.loop-k.k).1), omega (arith, h.0.0), l.loop-k.invariant.3, omega (arith, h.0.3))

add-k : tie.Need-overflow_add-k invariant-loop decreases-loop
add-k c = search rules

loop-less : tie.Need-loop-k-smaller invariant-loop decreases-loop
loop-less c = search rules

loop-again : tie.Need-loop-k-preserved invariant-loop decreases-loop
loop-again c = let l = c in
    let a = l.args in
    let h = l.requires in (
      search rules,
      l.loop-k.invariant.1,
      l.loop-k.invariant.2,
      subst (FreshFrom ((a.p + 1) * part_room)) (sym c.merged.ensures)
          (fresh-joined l.loop-k.labels ((a.p + 1) * part_room) (get_or a.links l.loop-k.k 0) (place_of a.p (get_or a.marked.now l.loop-k.k 0)) (omega (arith, (h.1 l.loop-k.k).0)) (omega (arith, (h.1 l.loop-k.k).1)) l.loop-k.invariant.3 (omega (arith, h.0.3)) (omega (arith, h.0.0))),
      ap (λ m. joined_all m (port_pairs a.p (drop (l.loop-k.k + 1) (take a.count a.links)) (drop (l.loop-k.k + 1) (take a.count a.marked.now)))) c.merged.ensures
          ∙ sym (ports-next a.p a.count l.loop-k.k a.links a.marked.now l.loop-k.labels (omega (arith, l.loop-k.invariant.1, h.0.1)) (omega (arith, l.loop-k.invariant.2, h.0.1)) c.loop-k-test.true) ∙ l.loop-k.invariant.4,
    )

returns : tie.Need-returns invariant-loop decreases-loop
returns c = let l = c in
    let a = l.args in
    (sym (ports-end a.p a.count l.loop-k.k a.links a.marked.now l.loop-k.labels c.loop-k-test.false) ∙ l.loop-k.invariant.4, l.loop-k.invariant.3)

pub with_ports_spec : {M : Type 1} → statement M
with_ports_spec =
    tie.close
    (tie.spec
    invariant-loop
    decreases-loop
    loop-holds
    add-merged
    mul-merged
    mul-merged-2
    array-read-merged
    cast-merged
    mul-merged-3
    mul-merged-4
    shared-slice-read-merged
    cast-merged-2
    add-merged-2
    merged-requires
    add-k
    loop-less
    loop-again
    returns)
