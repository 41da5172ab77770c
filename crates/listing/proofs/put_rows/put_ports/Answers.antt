use borrow.Author.Rules.{rules}
use mathlib.Core.Path.{◌≡◌, refl, ◌∙◌}
use mathlib.Core.List.{[], ◌∷◌}
use native.Mathlib.Omega.{arith}
use lib.ListN.{take, get_or, length-take}
use Rattle.writing.proofs.RowBytes.{over_none}
use Rattle.numbering.specs.Numbering.{numbering, with_classes}
use Rattle.listing.specs.Writing.{number_in, ports_bytes}
use Rattle.listing.proofs.Steps.{links-next, links-few, number_put, number-few, number-later, ports-put}
use Rattle.listing.proofs.put_rows.put_ports.Goals as goal

pub loop-k-init : goal.loop-k-init
unfolding ports_bytes with_classes
loop-k-init c = (omega arith, refl, search rules, refl, λ later. over_none c.args.out.now c.args.at)

pub number_class-x-requires : goal.number_class-x-requires
number_class-x-requires c = let a = c.args in
    let v = c.loop-k in
    (c.requires.count_le_most_links.1 v.k (omega arith), omega (arith, c.requires.count_bound.0, links-few (numbering a.numbers.now a.numbered.now) (numbering v.numbers v.numbered) a.ports v.k v.invariant.3))

pub put_pair-requires : goal.put_pair-requires
put_pair-requires c = let a = c.args in
    let v = c.loop-k in
    let g = c.number_class-x in
    let few = number-few (numbering v.numbers v.numbered) (numbering g.new.numbers g.new.count) (get_or a.ports v.k 0) g.ensures.count_after [] (numbering a.numbers.now a.numbered.now) (take v.k a.ports) g.result
    c.requires.count_bound.1 v.invariant.3 g.ensures.value in
    record { row_width_in_bounds = omega (arith, v.invariant.1, c.requires.row_width_in_bounds); first_le_most_number = (omega (arith, few, length-take v.k a.ports, c.requires.count_bound.0), omega (arith, c.requires.count_le_most_links.0)) }

pub loop-k-preserved : goal.loop-k-preserved
loop-k-preserved c = let t = c.loop-k-test.true in
    let a = c.args in
    let v = c.loop-k in
    let p = c.put_pair in
    let g = c.number_class-x in
    let n = numbering v.numbers v.numbered in
    let m = numbering g.new.numbers g.new.count in
    let x = get_or a.ports v.k 0 in (
      omega arith,
      p.auto.out ∙ v.invariant.1,
      v.invariant.2,
      g.ensures.count_after ∙ links-next (numbering a.numbers.now a.numbered.now) n a.ports v.k (omega (arith, v.invariant.2, c.requires.count_le_most_links.0)) v.invariant.3,
      λ later. ports-put (number_in (with_classes m later).numbers) a.out.now p.new.out a.at a.ports v.k (omega (arith, v.invariant.2, c.requires.count_le_most_links.0)) (omega (arith, c.requires.row_width_in_bounds))
          (rw (v.invariant.4 (x ∷ later), number-later n m x g.ensures.count_after later, number_put n m x g.ensures.count_after later g.result g.ensures.value) at p.ensures),
    )

pub returns : goal.returns
unfolding with_classes
returns c = let v = c.loop-k in
    let e : v.k ≡ c.args.count = omega arith in
    record { value = omega arith; numbered_after = rw e at v.invariant.3; out_after = rw e at (v.invariant.4 []) }
