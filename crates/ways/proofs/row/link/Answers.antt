-- The number that the row has, from 1.
use Rattle.std.proofs.Common.{sym, subst, arith}
use Rattle.rows.specs.Limits.{sheet_link_limit}
use Rattle.placing.specs.Net.{Range}
use Rattle.ways.proofs.Steps.{row-few, place-range}
use Rattle.ways.proofs.row.link.Goals as goal

pub bounds-parts-row : goal.bounds-parts-row
bounds-parts-row c = omega (arith, row-few c.args.parts.now c.args.n c.args.row c.requires.0 c.requires.1, c.requires.0.few, c.requires.1, c.requires.2)

pub overflow_sub-result : goal.overflow_sub-result
overflow_sub-result c = let r = subst (Range sheet_link_limit) (sym c.wide-x.ensures.0) (place-range c.args.parts.now c.args.n c.args.row c.requires.0 c.requires.1 c.args.k c.requires.2) in r.0

pub returns : goal.returns
returns c = let r = subst (Range sheet_link_limit) (sym c.wide-x.ensures.0) (place-range c.args.parts.now c.args.n c.args.row c.requires.0 c.requires.1 c.args.k c.requires.2) in
    let e = c.wide-x.ensures.0 in
    (omega (arith, r.0, e), omega (arith, r.0, r.1))
