-- The classes of the two links' places are merged.
use borrow.Author.Rules.{rules}
use mathlib.Core.Path.{◌∙◌}
use native.Mathlib.Omega.{arith}
use Rattle.linking.proofs.Arrays.{links-fused}
use Rattle.linking.proofs.take.add_fusion.Statement.{statement}
use Rattle.linking.proofs.take.add_fusion.Tie as tie

place-link-requires : tie.Need-place_link-i-requires
place-link-requires c κs = search rules

count-with-requires : tie.Need-count_with-m-requires
count-with-requires c κs = search rules

place-link-requires-2 : tie.Need-place_link-j-requires
place-link-requires-2 c κs = let s = c in
    let x = c.place_link-i in
    (omega (arith, s.requires.0, c.count_with-m.ensures.0), x.auto.links ∙ s.requires.1, x.auto.classes ∙ s.requires.2, rw c.count_with-m.ensures.1 x.ensures.2)

count-with-requires-2 : tie.Need-count_with-count-requires
count-with-requires-2 c κs = omega (arith, c.requires.0, c.count_with-m.ensures.0)

merge-requires : tie.Need-merge-requires
merge-requires c κs = let s = c in
    let x = c.place_link-i in
    let m = c.count_with-m.ensures.0 in
    let y = c.place_link-j in
    let wide = y.auto.classes ∙ x.auto.classes ∙ s.requires.2 in
    (omega (arith, wide, s.requires.0, m, c.count_with-count.ensures.0), omega (arith, wide, s.requires.0, x.ensures.0), omega (arith, wide, s.requires.0, m, y.ensures.0))

same_length : tie.Need-shape_of-links
same_length c = search rules

same-length-2 : tie.Need-shape_of-classes
same-length-2 c = search rules

returns : tie.Need-returns
returns c = let a = c.args in
    let x = c.place_link-i in
    let m = c.count_with-m in
    let y = c.place_link-j in
    let o = c.count_with-count in (
      links-fused a.links.now a.classes.now a.n x.new.links x.new.classes m.result y.new.links y.new.classes o.result a.a a.b x.result y.result c.merge.new.classes
          x.ensures.1 m.ensures.1 y.ensures.1 o.ensures.1 c.merge.ensures,
      rw o.ensures.1 y.ensures.2,
    )

pub add_fusion_spec : {M : Type 1} → statement M
add_fusion_spec =
    tie.close
    (tie.spec
    place-link-requires
    count-with-requires
    place-link-requires-2
    count-with-requires-2
    merge-requires
    same_length
    same-length-2
    returns)
