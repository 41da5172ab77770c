-- Invariant: the first i atoms of the part are behind the others.
use borrow.Author.Rules.{rules}
use native.Mathlib.Omega.{arith}
use Prim.Native.Nat.{ℕ, ◌≤◌, ◌+◌, ◌-◌}
use mathlib.Core.Path.{◌≡◌, ◌∙◌, ap, subst}
use mathlib.Core.Logic.{⊎_elim}
use mathlib.Core.List.{List, [], ◌∷◌, map}
use lib.ListN.{length, get_or, take, length-set}
use Rattle.rows.specs.Limits.{atom_room}
use Rattle.rows.specs.declared.Atom.{Atom}
use Rattle.normalising.specs.NormalRows.{past_atoms}
use Rattle.numbering.proofs.Turns.{unmapped}
use Rattle.filling.specs.Whole.{placed_atom, Grown}
use Rattle.filling.specs.declared.whole.Whole.{Whole}
use Rattle.filling.proofs.Loops.{grown-none, grown-one, grown-full, grown-then, mapped_next}
use Rattle.filling.proofs.whole.Whole.with_part.Statement.{statement}
use Rattle.filling.proofs.whole.Whole.with_part.Tie as tie

abbrev invariant-loop : tie.invariant-loop-i
invariant-loop p count self₀ atoms i₀ self i = (i ≤ count) × (length atoms ≡ atom_room) × (length self.atoms ≡ atom_room) × Grown self₀ self (map (placed_atom p) (take i atoms))

abbrev decreases-loop : tie.decreases-loop-i
decreases-loop p count self₀ atoms i₀ self i = count - i

loop-holds : tie.Need-loop-i-init invariant-loop decreases-loop
loop-holds c = (search rules, search (rules, unmapped), search (rules, unmapped), grown-none c.args.self c.requires.0)

mul-atom : tie.Need-offset_bounds-atoms-i invariant-loop decreases-loop
mul-atom c = omega (arith, c.requires.2)

array-copy-out-atom : tie.Need-bounds-atoms-i invariant-loop decreases-loop
array-copy-out-atom c = omega (arith, c.requires.2)

placed-requires : tie.Need-placed-links-requires invariant-loop decreases-loop
placed-requires c κs = let l = c in
    let h = l.requires in
    (h.1, λ k. h.3 l.loop-i.i k)

mul-t18 : tie.Need-offset_bounds-self-n invariant-loop decreases-loop
mul-t18 c = search rules

element-set-from-self : tie.Need-bounds-self-n invariant-loop decreases-loop
element-set-from-self c = search rules

add-self : tie.Need-overflow_add-self invariant-loop decreases-loop
add-self c = search rules

add-i : tie.Need-overflow_add-i invariant-loop decreases-loop
add-i c = search rules

loop-less : tie.Need-loop-i-smaller invariant-loop decreases-loop
loop-less c = search rules

loop-again : tie.Need-loop-i-preserved invariant-loop decreases-loop
loop-again c = let l = c in
    let a = l.args in
    let x = get_or a.atoms l.loop-i.i past_atoms in
    let f = placed_atom a.p in
    let y : Atom = record { name = x.name; count = x.count; links = c.placed-links.result } in
    let w = l.loop-i.self in
    let r = c.if-n-lt-ATOM_ROOM.self in
    let n = l.loop-i.invariant.2 in
    let g : (length r.atoms ≡ atom_room) × Grown w r (y ∷ []) = ⊎_elim
    (λ t. (ap (λ (u : Whole). length u.atoms) t.self-is ∙ simp length-set n, grown-one w r y n t.if-n-lt-ATOM_ROOM.true t.self-is))
    (λ t. (ap (λ (u : Whole). length u.atoms) t.self-is ∙ n, grown-full w r y n l.loop-i.invariant.3.few t.if-n-lt-ATOM_ROOM.false t.self-is))
    c.if-n-lt-ATOM_ROOM.branch-raw in
    let h : Grown w r (f x ∷ []) = subst (λ (k : List ℕ). Grown w r (record { name = x.name; count = x.count; links = k } ∷ [])) c.placed-links.ensures g.1 in (
      search rules,
      l.loop-i.invariant.1,
      g.0,
      subst (λ (k : List Atom). Grown a.self r k) (mapped_next f a.atoms l.loop-i.i past_atoms (omega (arith, l.loop-i.invariant.1, l.requires.2)))
          (grown-then a.self w r (map f (take l.loop-i.i a.atoms)) (f x ∷ []) l.loop-i.invariant.3 h),
    )

returns : tie.Need-returns invariant-loop decreases-loop
returns c = let l = c in
    let a = l.args in
    let e : l.loop-i.i ≡ a.count = omega arith in
    rw e at l.loop-i.invariant.3

pub with_part_spec : {M : Type 1} → statement M
with_part_spec =
    tie.close
    (tie.spec
    invariant-loop
    decreases-loop
    loop-holds
    mul-atom
    array-copy-out-atom
    placed-requires
    mul-t18
    element-set-from-self
    add-self
    add-i
    loop-less
    loop-again
    returns)
