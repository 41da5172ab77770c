-- A known link leaves the arrays as they are; a new one is stored after the others.
use borrow.Author.Rules.{rules}
use mathlib.Core.Path.{◌∙◌}
use native.Mathlib.Omega.{arith}
use Rattle.linking.proofs.Arrays.{link-old, link-added}
use Rattle.linking.proofs.Hints.{hinted-old, hinted-new, place-within, place_found}
use Rattle.linking.proofs.place.place_link.Statement.{statement}
use Rattle.linking.proofs.place.place_link.Tie as tie

place-of-requires : tie.Need-place_of-p-requires
place-of-requires c κs = search rules

add-hints : tie.Need-overflow_add-hints
add-hints c = let a = c.args in search (rules, c.place_of-p.ensures, place-within a.links.now a.n a.x a.hints.now)

cast-hints : tie.Need-overflow_cast-hints
cast-hints c = let a = c.args in search (rules, c.place_of-p.ensures, place-within a.links.now a.n a.x a.hints.now)

hint-at-requires : tie.Need-hint_at-requires
hint-at-requires c κs = search rules

element-write-hints : tie.Need-bounds-hints-hint_at
element-write-hints c = search rules

same_length : tie.Need-shape_of-links-then-p-n
same_length c = search rules

returns : tie.Need-returns-then-p-n
returns c = let s = c in
    let a = s.args in
    let p = c.place_of-p in
    let h = c.hint_at in
    (omega arith, λ w wired k. link-old w wired a.links.now a.classes.now a.n k a.x p.result (λ once. p.ensures ∙ place_found a.links.now a.n a.x a.hints.now (omega (arith, s.requires.0, s.requires.1)) s.requires.3 once) c.if-p-n.true, hinted-old a.hints.now a.links.now a.n s.requires.3 a.x h.result p.result h.ensures.1 h.ensures.0 p.result c.if-p-n.true)

mul-links : tie.Need-offset_bounds-links-n
mul-links c = search rules

slice-write-links : tie.Need-bounds-links-n
slice-write-links c = search rules

cast-classes : tie.Need-overflow_cast-classes
cast-classes c = search rules

mul-classes : tie.Need-offset_bounds-classes-n
mul-classes c = search rules

slice-write-classes : tie.Need-bounds-classes-n
slice-write-classes c = search rules

same-length-2 : tie.Need-shape_of-links
same-length-2 c = search rules

same-length-3 : tie.Need-shape_of-classes
same-length-3 c = search rules

returns-2 : tie.Need-returns
returns-2 c = let s = c in
    let a = s.args in
    let p = c.place_of-p in
    let h = c.hint_at in
    (omega arith, λ w wired k. link-added w wired a.links.now a.classes.now a.n k a.x p.result (λ once. p.ensures ∙ place_found a.links.now a.n a.x a.hints.now (omega (arith, s.requires.0, s.requires.1)) s.requires.3 once) c.if-p-n.false (omega (arith, p.ensures, place-within a.links.now a.n a.x a.hints.now)) s.requires.0, hinted-new a.hints.now a.links.now a.n s.requires.3 a.x h.result p.result h.ensures.1 h.ensures.0 (omega (arith, s.requires.0, s.requires.1)))

pub place_link_spec : {M : Type 1} → statement M
place_link_spec =
    tie.close
    (tie.spec
    place-of-requires
    add-hints
    cast-hints
    hint-at-requires
    element-write-hints
    same_length
    returns
    mul-links
    slice-write-links
    cast-classes
    mul-classes
    slice-write-classes
    same-length-2
    same-length-3
    returns-2)
