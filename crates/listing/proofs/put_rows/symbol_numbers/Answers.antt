use borrow.Author.Rules.{rules}
use Prim.Native.Nat.{◌+◌}
use mathlib.Core.Path.{◌≡◌, refl, ◌∙◌}
use mathlib.Core.List.{[], ◌∷◌}
use native.Mathlib.Omega.{arith}
use lib.ListN.{get_or}
use Rattle.rows.specs.Format.{field_count}
use Rattle.rows.specs.Packed.{padded}
use Rattle.numbering.specs.Numbering.{numbering, with_classes}
use Rattle.listing.specs.Writing.{number_in}
use Rattle.listing.proofs.Steps.{links-next, links-few, number_put, number-later, numbers-next}
use Rattle.listing.proofs.put_rows.symbol_numbers.Goals as goal

pub loop-k-init : goal.loop-k-init
unfolding padded with_classes
loop-k-init c = (search rules, search rules, refl, λ later. refl)

pub number_class-requires : goal.number_class-requires
number_class-requires c = let a = c.args in
    let v = c.loop-k in
    (c.requires.2 v.k (omega arith), omega (arith, c.requires.1, links-few (numbering a.numbers.now a.numbered.now) (numbering v.numbers v.numbered) a.links v.k v.invariant.2))

pub loop-k-preserved : goal.loop-k-preserved
loop-k-preserved c = let a = c.args in
    let v = c.loop-k in
    let g = c.number_class in
    let n = numbering v.numbers v.numbered in
    let m = numbering g.new.numbers g.new.count in
    let x = get_or a.links v.k 0 in (
      omega arith,
      v.invariant.1,
      g.ensures.count_after ∙ links-next (numbering a.numbers.now a.numbered.now) n a.links v.k (omega arith) v.invariant.2,
      λ later. rw (number_put n m x g.ensures.count_after later g.result g.ensures.value)
          (numbers-next field_count (number_in (with_classes m later).numbers) (a.name ∷ a.count ∷ []) a.links v.nums v.k (v.k + 2) (omega arith) (rw (number-later n m x g.ensures.count_after later) at (v.invariant.3 (x ∷ later))) (omega arith) (omega (arith, c.requires.0))),
    )

pub returns : goal.returns
returns c = let v = c.loop-k in
    let e : v.k ≡ c.args.count = omega arith in
    record { numbered_after = rw e at v.invariant.2; by_index = λ later. rw e at (v.invariant.3 later) }
