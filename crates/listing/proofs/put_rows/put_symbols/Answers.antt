use Prim.Native.Nat.{◌+◌}
use mathlib.Core.Path.{◌≡◌, refl, sym, ap, ◌∙◌}
use mathlib.Core.List.{◌++◌}
use native.Mathlib.Omega.{arith}
use Rattle.writing.proofs.RowBytes.{over_none}
use Rattle.numbering.specs.Numbering.{numbering, with_classes}
use Rattle.numbering.proofs.Turns.{with-classes-count}
use Rattle.numbering.proofs.Kept.{low-after, later-all}
use Rattle.placing.specs.Net.{cell_links}
use Rattle.listing.specs.Writing.{number_in, given_at, given_below, symbols_bytes}
use Rattle.listing.proofs.Atoms.{below-grows, atom-low, below-few}
use Rattle.listing.proofs.Steps.{atoms-next, below_length, symbols-put}
use Rattle.listing.proofs.put_rows.put_symbols.Goals as goal

pub loop-i-init : goal.loop-i-init
unfolding symbols_bytes given_below with_classes
loop-i-init c = (omega arith, refl, omega arith, refl, λ later. over_none c.args.out.now c.args.at)

pub put_symbol-end-requires : goal.put_symbol-end-requires
put_symbol-end-requires c = let a = c.args in
    let fit = c.requires.fit.0 in
    let v = c.loop-i in
    let i = v.i in
    let from = numbering a.numbers.now a.numbered.now in
    let done = cell_links (given_below a.sheet a.given.now a.number i) in
    let u = fit.atoms i (omega arith) in record {
      name_le_most_name = (c.requires.fit.2 i (omega arith), u.few, u.width, atom-low a.sheet fit a.given.now a.number i (omega arith));
      most_links_bound = (
        omega (arith, ap (λ n. n.count) v.invariant.3, with-classes-count from done, below-few a.sheet fit a.given.now a.number i (omega arith), fit.atom-count, c.requires.sheet_atoms_bound.0),
        low-after from (numbering v.numbers v.numbered) done v.invariant.3 c.requires.sheet_atoms_bound.1,
      );
      row_width_in_bounds = omega (arith, v.invariant.1, v.invariant.2, c.requires.row_width_in_bounds, below_length a.sheet a.given.now a.number i, below-grows a.sheet a.given.now a.number (i + 1) a.sheet.atom_count (omega arith));
    }

pub loop-i-preserved : goal.loop-i-preserved
loop-i-preserved c = let p = c.put_symbol-end in
    let h = c.loop-i-test.true in
    let a = c.args in
    let v = c.loop-i in
    let i = v.i in
    let n = numbering v.numbers v.numbered in
    let m = numbering p.new.numbers p.new.numbered in
    let cell = cell_links (given_at a.sheet a.given.now a.number i) in (
      omega arith,
      p.auto.out ∙ v.invariant.1,
      omega (arith, p.ensures.value, v.invariant.2, below_length a.sheet a.given.now a.number i),
      p.ensures.numbered_after ∙ atoms-next a.sheet a.given.now a.number i (numbering a.numbers.now a.numbered.now) n v.invariant.3,
      λ later. symbols-put a.sheet a.given.now a.number i (number_in (with_classes m later).numbers) a.out.now p.new.out a.at
          (omega (arith, c.requires.row_width_in_bounds, below-grows a.sheet a.given.now a.number i a.sheet.atom_count (omega arith)))
          (rw (v.invariant.2, v.invariant.4 (cell ++ later), later-all n m cell later (sym p.ensures.numbered_after)) at (p.ensures.by_index later)),
    )

pub returns : goal.returns
returns c = let v = c.loop-i in
    let e : v.i ≡ c.args.sheet.atom_count = omega arith in
    record { value = rw e at v.invariant.2; numbered_after = rw e at v.invariant.3; by_index = λ later. rw e at (v.invariant.4 later) }
