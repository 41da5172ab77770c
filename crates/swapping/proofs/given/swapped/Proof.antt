-- The replacement and what is given to its contexts put together, with the numbers of their labels.
use borrow.Author.Rules.{rules}
use native.Mathlib.Omega.{arith}
use mathlib.Core.Path.{refl, sym, subst}
use Rattle.sheet.specs.declared.kind.Kind.TheVariants.{Figure}
use Rattle.numbering.proofs.Turns.{unmapped}
use Rattle.filling.specs.Fill.{figure_held}
use Rattle.filling.specs.Parts.{Low}
use Rattle.filling.proofs.Parts.{figure-within, figure-agrees, normal-low}
use Rattle.filling.proofs.Making.{low-ported, put_linked}
use Rattle.filling.proofs.FilledIs.{filled_is}
use Rattle.swapping.proofs.given.swapped.Statement.{statement}
use Rattle.swapping.proofs.given.swapped.Tie as tie

own-labels-requires : tie.Need-own_labels-requires
own-labels-requires c κs = search rules

slice-aggregate-whole-given : tie.Need-slice_bounds-whole_given-end
slice-aggregate-whole-given c = search rules

slice-aggregate-whole-given-2 : tie.Need-slice_bounds-whole_given-end-2
slice-aggregate-whole-given-2 c = search rules

low : (s : tie.Start) → Low s.args.replacement
low s = let T = s.requires.1.0.0 in
    subst Low (sym s.requires.1.0.1) (normal-low Figure (figure_held T) (figure-within T) (figure-agrees T))

whole-given-requires : tie.Need-whole_given-whole-requires
whole-given-requires c κs = let o = c in
    let s = o in
    ((low-ported s.args.replacement (low s.before.before.before.before.before.before.before), omega (arith, (low s.before.before.before.before.before.before.before).atoms), o.own_labels.ensures), s.requires.0)

numbered-whole-requires : tie.Need-numbered_whole-requires
numbered-whole-requires c κs = let w = c in
    let s = w in
    let a = s.args in
    let list = s.requires.1.1 in
    let P = w.whole_given-whole.ensures list.0 list.1 in
    (P.few, put_linked list.0 a.replacement _ _ w.whole_given-whole.result P (low s.before.before.before.before.before.before.before.before.before.before.before), (low s.before.before.before.before.before.before.before.before.before.before.before).marks, (low s.before.before.before.before.before.before.before.before.before.before.before).marked)

returns : tie.Need-returns
returns c = let w = c in
    let o = w in
    let s = o in
    λ list T parts q a b. filled_is s.args.replacement list T q a b c.numbered_whole.result (c.numbered_whole.ensures list _ s.args.replacement refl refl refl o.own_labels.ensures (w.whole_given-whole.ensures list parts))
    (search (rules, unmapped, c.numbered_whole.type_inv.1.1)) (search (rules, unmapped, c.numbered_whole.type_inv.1.1))

pub swapped_spec : {M : Type 1} → statement M
swapped_spec = tie.close (tie.spec own-labels-requires slice-aggregate-whole-given slice-aggregate-whole-given-2 whole-given-requires numbered-whole-requires returns)
