-- The figure and its fillings put together, with the numbers of their labels.
use borrow.Author.Rules.{rules}
use native.Mathlib.Omega.{arith}
use mathlib.Core.Path.{refl, sym, subst}
use Rattle.sheet.specs.declared.kind.Kind.TheVariants.{Figure}
use Rattle.numbering.proofs.Turns.{unmapped}
use Rattle.filling.specs.Fill.{figure_held}
use Rattle.filling.specs.Parts.{Low}
use Rattle.filling.proofs.Parts.{figure-within, figure-agrees, normal-low}
use Rattle.filling.proofs.Making.{low-ported, put_linked}
use Rattle.filling.proofs.FilledIs.{filled_is}
use Rattle.filling.proofs.filled.normal_filled.Statement.{statement}
use Rattle.filling.proofs.filled.normal_filled.Tie as tie

own-labels-requires : tie.Need-own_labels-requires
own-labels-requires c κs = search rules

low : (s : tie.Start) → Low s.args.figure
low s = let T = s.requires.0.0 in
    subst Low (sym s.requires.0.1) (normal-low Figure (figure_held T) (figure-within T) (figure-agrees T))

whole-of-requires : tie.Need-whole_of-whole-requires
whole-of-requires c κs = let o = c in
    let s = o in
    (low-ported s.args.figure (low s.before.before.before.before.before.before.before), omega (arith, (low s.before.before.before.before.before.before.before).atoms), s.requires.1, o.own_labels.ensures, s.requires.2)

numbered-whole-requires : tie.Need-numbered_whole-requires
numbered-whole-requires c κs = let w = c in
    let s = w in
    let P = w.whole_of-whole.ensures.1 in
    (P.few, put_linked s.args.list.now s.args.figure _ _ w.whole_of-whole.result P (low s.before.before.before.before.before.before.before.before.before.before.before), (low s.before.before.before.before.before.before.before.before.before.before.before).marks, (low s.before.before.before.before.before.before.before.before.before.before.before).marked)

returns : tie.Need-returns
returns c = let w = c in
    let o = w in
    let s = o in (
      w.whole_of-whole.ensures.0,
      λ T q a b. filled_is s.args.figure s.args.list.now T q a b c.numbered_whole.result (c.numbered_whole.ensures s.args.list.now _ s.args.figure refl refl refl o.own_labels.ensures w.whole_of-whole.ensures.1)
          (search (rules, unmapped, c.numbered_whole.type_inv.1.1)) (search (rules, unmapped, c.numbered_whole.type_inv.1.1)),
    )

pub normal_filled_spec : {M : Type 1} → statement M
normal_filled_spec = tie.close (tie.spec own-labels-requires whole-of-requires numbered-whole-requires returns)
