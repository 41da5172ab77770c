-- One row for an atom that is given, and none for another.
use Prim.Native.Nat.{◌+◌, ◌*◌}
use mathlib.Core.Path.{◌≡◌, ap, sym, ◌∙◌}
use mathlib.Core.List.{[]}
use native.Mathlib.Omega.{arith}
use lib.ListN.{length}
use Rattle.rows.specs.Format.{row_width}
use Rattle.writing.proofs.RowBytes.{over_none}
use Rattle.numbering.specs.Numbering.{numbering, with_classes}
use Rattle.listing.specs.Writing.{number_in, cell_if, symbols_bytes}
use Rattle.listing.proofs.Atoms.{given-one, given-links, given-symbol, row_low, row-taken}
use Rattle.listing.proofs.Steps.{links-low}
use Rattle.listing.proofs.put_rows.put_symbol.Goals as goal

pub put_row-requires : goal.put_row-requires
put_row-requires c = let a = c.args in
    let b = a.atom in
    let p = c.symbol_numbers-nums in
    let m = numbering p.new.numbers p.new.numbered in
    let q = given-one a.given b c.if-given.true in record {
      row_width_in_bounds = omega (arith, c.requires.row_width_in_bounds);
      count_le_field_count = omega (arith, c.requires.name_le_most_name.1);
      by_index = λ k h. row_low (number_in (with_classes m []).numbers) b.name b.count b.links p.result (p.ensures.by_index []) (omega (arith, c.requires.name_le_most_name.0)) (omega (arith, c.requires.name_le_most_name.1))
          (links-low (numbering a.numbers.now a.numbered.now) m b.links b.count c.requires.most_links_bound.1 p.ensures.numbered_after (omega (arith, c.requires.most_links_bound.0, c.requires.name_le_most_name.1))) k;
    }

pub returns-then-given : goal.returns-then-given
returns-then-given c = let a = c.args in
    let b = a.atom in
    let p = c.symbol_numbers-nums in
    let m = numbering p.new.numbers p.new.numbered in
    let q = given-one a.given b c.if-given.true in
    let z : a.at + length (cell_if a.given b) * row_width ≡ a.at + row_width = omega arith in record {
      value = omega arith;
      numbered_after = p.ensures.numbered_after ∙ ap (with_classes (numbering a.numbers.now a.numbered.now)) (sym (given-links a.given b c.if-given.true));
      by_index = λ later. rw (given-symbol a.given b c.if-given.true (number_in (with_classes m later).numbers) (omega (arith, c.requires.name_le_most_name.1, c.requires.name_le_most_name.2)), z)
          (c.put_row.ensures ∙ rw (row-taken (number_in (with_classes m later).numbers) b.name b.count b.links p.result (p.ensures.by_index later) (omega (arith, c.requires.name_le_most_name.1, c.requires.name_le_most_name.2))));
    }

pub returns : goal.returns
unfolding symbols_bytes with_classes
returns c = let a = c.args in
    let e = c.if-given.false in record {
      value = rw e (omega arith);
      numbered_after = rw e;
      by_index = λ later. rw e (over_none a.out.now a.at);
    }
