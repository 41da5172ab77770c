use borrow.Author.Rules.{rules}
use Prim.Native.Nat.{ℕ}
use mathlib.Core.Path.{◌≡◌, ◌∙◌, ap}
use mathlib.Core.List.{List}
use native.Mathlib.Omega.{arith}
use lib.ListN.{get_or}
use Rattle.rows.specs.declared.row.Rule.{Rule}
use Rattle.linking.specs.Steps.{first_link_in, link_count_in, first_link, link_total}
use Rattle.linking.proofs.Hints.{hinted-left}
use Rattle.linking.proofs.RowLinks.{count_fits, count-one, fusion-first, row-linked, row-fused}
use Rattle.linking.proofs.take.add_row_links.Statement.{statement}
use Rattle.linking.proofs.take.add_row_links.Tie as tie

-- the first link's field and the count of links are those of the row's letter
from_is : (c : tie.After-first_link-from) → c.first_link-from.result ≡ first_link c.args.row.letter
from_is c = c.first_link-from.ensures ∙ ap first_link_in c.rules_of-own.ensures

count-is : (c : tie.After-link_count-count) → let r = c.args.row in c.link_count-count.result ≡ link_total r.letter r.nums
count-is c = c.link_count-count.ensures ∙ ap (λ (own : List Rule). link_count_in own (get_or c.args.row.nums 1 0)) c.rules_of-own.ensures

from_zero : (c : tie.Then-letter-eq-FUSION) → c.first_link-from.result ≡ 0
from_zero c = from_is c.before ∙ fusion-first c.args.row.letter c.if-letter-eq-FUSION.true

clear-gone-requires : tie.Need-clear_gone-kept-requires
clear-gone-requires c κs = search rules

rules-of-requires : tie.Need-rules_of-own-requires
rules-of-requires c κs = search rules

first-link-requires : tie.Need-first_link-from-requires
first-link-requires c κs = search rules

mul-add-fusion : tie.Need-offset_bounds-nums-from
mul-add-fusion c = search (rules, from_zero c.before.before)

array-read-add-fusion : tie.Need-bounds-nums-from
array-read-add-fusion c = search (rules, from_zero c.before.before)

add-add-fusion : tie.Need-overflow_add-from
add-add-fusion c = search (rules, from_zero c.before.before)

mul-add-fusion-2 : tie.Need-offset_bounds-nums-from-then-letter-eq-FUSION
mul-add-fusion-2 c = search (rules, from_zero c.before.before)

array-read-add-fusion-2 : tie.Need-bounds-nums-from-then-letter-eq-FUSION
array-read-add-fusion-2 c = search (rules, from_zero c.before.before)

add-fusion-requires : tie.Need-add_fusion-requires
add-fusion-requires c κs = let s = c in
    let x = c.clear_gone-kept in
    (search rules, x.auto.a ∙ s.requires.2, x.auto.b ∙ s.requires.3, hinted-left s.args.hints.now s.args.links.now s.args.n s.requires.4 s.args.row.letter x.result x.new.a x.ensures.0 x.ensures.1)

same_length : tie.Need-shape_of-links-then-letter-eq-FUSION
same_length c = search rules

same-length-2 : tie.Need-shape_of-classes-then-letter-eq-FUSION
same-length-2 c = search rules

returns : tie.Need-returns-then-letter-eq-FUSION
returns c = let s = c in
    let a = s.args in
    let x = c.clear_gone-kept in
    let y = c.add_fusion in
    let two = c.if-letter-eq-FUSION.true in
    (λ e. absurd (omega (arith, two, e)), row-fused a.row a.links.now a.classes.now a.n x.result x.new.a x.new.b y.new.links y.new.classes y.result s.requires.0 x.ensures.0 x.ensures.1 x.ensures.2 (search rules) two c.first_link-from.result (from_is c.before.before.before.before.before.before.before.before.before) y.ensures.0, y.ensures.1)

array-read-link-count : tie.Need-bounds-nums-1
array-read-link-count c = search rules

link-count-requires : tie.Need-link_count-count-requires
link-count-requires c κs = search rules

add-links-requires : tie.Need-add_links-requires
add-links-requires c κs = let s = c in
    let r = s.args.row in
    let fits = count_fits r.letter r.nums s.requires.1.known s.requires.1.atom (λ e. (s.requires.1.context e).1) in
    let x = c.clear_gone-kept in
    let from = from_is c.before.before.before.before.before in
    let count = count-is c.before.before.before in
    (omega (arith, s.requires.0, x.ensures.0), omega (arith, count, fits.0), omega (arith, from, count, fits.1), x.auto.a ∙ s.requires.2, x.auto.b ∙ s.requires.3, hinted-left s.args.hints.now s.args.links.now s.args.n s.requires.4 r.letter x.result x.new.a x.ensures.0 x.ensures.1)

same-length-3 : tie.Need-shape_of-links
same-length-3 c = search rules

same-length-4 : tie.Need-shape_of-classes
same-length-4 c = search rules

returns-2 : tie.Need-returns
returns-2 c = let s = c in
    let a = s.args in
    let x = c.clear_gone-kept in
    let from = c.before.before.before.before.before.before.before.before.before.before in
    let count = c.before.before.before.before.before.before.before.before in
    let y = c.add_links in
    (λ e. omega (arith, count-is count, count-one a.row.letter a.row.nums e, y.ensures.0, x.ensures.0), row-linked a.row a.links.now a.classes.now a.n x.result x.new.a x.new.b y.new.links y.new.classes y.result s.requires.0 x.ensures.0 x.ensures.1 x.ensures.2 from.first_link-from.result count.link_count-count.result (from_is from) (count-is count) y.ensures.1 c.if-letter-eq-FUSION.false, y.ensures.2)

pub add_row_links_spec : {M : Type 1} → statement M
add_row_links_spec =
    tie.close
    (tie.spec
    clear-gone-requires
    rules-of-requires
    first-link-requires
    mul-add-fusion
    array-read-add-fusion
    add-add-fusion
    mul-add-fusion-2
    array-read-add-fusion-2
    add-fusion-requires
    same_length
    same-length-2
    returns
    array-read-link-count
    link-count-requires
    add-links-requires
    same-length-3
    same-length-4
    returns-2)
