-- Invariant: the atoms before place i that are given are there, and their links are numbered.
use borrow.Author.Rules.{rules}
use native.Mathlib.Omega.{arith}
use Prim.Native.Nat.{◌≤◌, ◌+◌, ◌-◌}
use mathlib.Core.Path.{◌≡◌, ◌∙◌, ap, ap₂, sym, subst}
use mathlib.Core.Logic.{⊎_elim}
use mathlib.Core.List.{[]}
use lib.ListN.{length, length-set}
use Rattle.rows.specs.declared.Atom.{Atom}
use Rattle.numbering.specs.Numbering.{Numbering, numbering, with_classes}
use Rattle.numbering.proofs.Turns.{unmapped}
use Rattle.network.specs.NetIn.{atom_at}
use Rattle.listing.specs.Writing.{given_below}
use Rattle.listing.proofs.Atoms.{atom-low}
use Rattle.filling.specs.declared.whole.Whole.{Whole}
use Rattle.filling.proofs.Loops.{grown-none, grown-one, grown-full}
use Rattle.swapping.proofs.GivenTurns.{GivenTo, few-numbers, other-turn, turn_low, given-turn}
use Rattle.swapping.proofs.given.with_given.Statement.{statement}
use Rattle.swapping.proofs.given.with_given.Tie as tie

abbrev invariant-loop : tie.invariant-loop-i
invariant-loop p numbers₀ numbered₀ given number whole₀ sheet i₀ numbers numbered whole i = (i ≤ sheet.atom_count) × GivenTo sheet given number p whole₀ whole (numbering numbers numbered) i

abbrev decreases-loop : tie.decreases-loop-i
decreases-loop p numbers₀ numbered₀ given number whole₀ sheet i₀ numbers numbered whole i = sheet.atom_count - i

loop-holds : tie.Need-loop-i-init invariant-loop decreases-loop
unfolding given_below with_classes
loop-holds c = let s = c in
    (omega arith, record { size = search (rules, unmapped); table = s.requires.4; grown = λ later. grown-none s.args.whole s.requires.3 })

mul-if1 : tie.Need-offset_bounds-given-i invariant-loop decreases-loop
mul-if1 c = search rules

shared-slice-read-if1 : tie.Need-bounds-given-i invariant-loop decreases-loop
shared-slice-read-if1 c = let s = c in
    omega (arith, s.requires.1, s.requires.0.atom-count, c.loop-i-test.true)

mul-atom : tie.Need-offset_bounds-sheet-i invariant-loop decreases-loop
mul-atom c = search rules

element-copy-out-atom : tie.Need-bounds-sheet-i invariant-loop decreases-loop
element-copy-out-atom c = let s = c in
    omega (arith, s.requires.0.atom-count, c.loop-i-test.true)

cast-numbers-of : tie.Need-overflow_cast-atom invariant-loop decreases-loop
cast-numbers-of c = search rules

numbers-of-requires : tie.Need-numbers_of-more-requires invariant-loop decreases-loop
numbers-of-requires c κs = let t = c in
    let l = t in
    let s = l in
    let a = s.args in
    let v = l.loop-i in
    let fit = s.requires.0 in
    let u = fit.atoms v.i t.loop-i-test.true in
    (u.few, omega (arith, u.few, ap (λ n. n.count) v.invariant.1.table, few-numbers a.sheet a.given.now a.number a.p fit v.i v.invariant.0), atom-low a.sheet fit a.given.now a.number v.i t.loop-i-test.true)

placed-requires : tie.Need-placed-links-requires invariant-loop decreases-loop
placed-requires c κs = let o = c in
    let t = o in
    let l = t in
    let s = l in
    let a = s.args in
    let v = l.loop-i in
    let g = c.numbers_of-more in
    let n = numbering v.numbers v.numbered in
    let m = numbering g.new.numbers g.new.numbered in
    (s.requires.2, turn_low a.sheet a.given.now a.number a.p a.whole v.whole n v.i v.invariant.1 s.requires.0 t.loop-i-test.true o.if-given-i.true m g.result g.ensures.0 g.ensures.1)

mul-t28 : tie.Need-offset_bounds-whole-n invariant-loop decreases-loop
mul-t28 c = search rules

element-set-from-whole : tie.Need-bounds-whole-n invariant-loop decreases-loop
element-set-from-whole c = search rules

add-whole : tie.Need-overflow_add-whole invariant-loop decreases-loop
add-whole c = search rules

add-i : tie.Need-overflow_add-i invariant-loop decreases-loop
add-i c = search rules

loop-less : tie.Need-loop-i-smaller invariant-loop decreases-loop
loop-less c = search rules

loop-again : tie.Need-loop-i-preserved invariant-loop decreases-loop
loop-again c = let t = c.before.before in
    let l = t.before in
    let s = l.before.before in
    let a = s.args in
    let v = l.loop-i in
    let w = v.whole in
    let r = c.if-given-i.whole in
    let n = numbering v.numbers v.numbered in
    let x = atom_at a.sheet v.i in
    let old = v.invariant.1 in (
      search rules,
      ⊎_elim
          (λ z. let y : Atom = record { name = x.name; count = x.count; links = z.placed-links.result } in
          subst (λ (t : Numbering). GivenTo a.sheet a.given.now a.number a.p a.whole r t (v.i + 1)) (sym (ap₂ numbering z.numbers-is z.numbered-is))
          (given-turn a.sheet a.given.now a.number a.p a.whole w n v.i old s.requires.0 t.loop-i-test.true z.if-given-i.true (numbering z.numbers_of-more.new.numbers z.numbers_of-more.new.numbered) z.numbers_of-more.result z.numbers_of-more.ensures.0 z.numbers_of-more.ensures.1 z.placed-links.result r z.placed-links.ensures
          (ap (λ (u : Whole). length u.atoms) z.whole-is ∙ simp length-set old.size) (grown-one w r y old.size z.if-n-lt-ATOM_ROOM.true z.whole-is)))
          (λ q. ⊎_elim
          (λ z. let y : Atom = record { name = x.name; count = x.count; links = z.placed-links.result } in
          subst (λ (t : Numbering). GivenTo a.sheet a.given.now a.number a.p a.whole r t (v.i + 1)) (sym (ap₂ numbering z.numbers-is z.numbered-is))
          (given-turn a.sheet a.given.now a.number a.p a.whole w n v.i old s.requires.0 t.loop-i-test.true z.if-given-i.true (numbering z.numbers_of-more.new.numbers z.numbers_of-more.new.numbered) z.numbers_of-more.result z.numbers_of-more.ensures.0 z.numbers_of-more.ensures.1 z.placed-links.result r z.placed-links.ensures
          (ap (λ (u : Whole). length u.atoms) z.whole-is ∙ old.size) (grown-full w r y old.size (old.grown []).few z.if-n-lt-ATOM_ROOM.false z.whole-is)))
          (λ z. subst (λ (u : Whole × Numbering). GivenTo a.sheet a.given.now a.number a.p a.whole u.0 u.1 (v.i + 1)) (λ j. (sym z.whole-is j, sym (ap₂ numbering z.numbers-is z.numbered-is) j))
          (other-turn a.sheet a.given.now a.number a.p a.whole w n v.i old z.if-given-i.false))
          q)
          c.if-given-i.branch-raw,
    )

returns : tie.Need-returns invariant-loop decreases-loop
returns c = let v = c.loop-i in
    let a = c.args in
    let e : v.i ≡ a.sheet.atom_count = omega arith in
    (rw e at v.invariant.1.table, rw e at v.invariant.1.grown)

pub with_given_spec : {M : Type 1} → statement M
with_given_spec =
    tie.close
    (tie.spec
    invariant-loop
    decreases-loop
    loop-holds
    mul-if1
    shared-slice-read-if1
    mul-atom
    element-copy-out-atom
    cast-numbers-of
    numbers-of-requires
    placed-requires
    mul-t28
    element-set-from-whole
    add-whole
    add-i
    loop-less
    loop-again
    returns)
