-- The head, the S rows and the E rows are written, each link with the number that it gets on the way.
use mathlib.Core.Path.{ap, sym, ◌∙◌}
use native.Mathlib.Omega.{arith}
use lib.ListN.{take}
use Rattle.numbering.specs.Numbering.{numbering, no_numbers, with_classes}
use Rattle.numbering.proofs.Turns.{with-classes-count}
use Rattle.numbering.proofs.Kept.{low-none, low-after}
use Rattle.placing.specs.Net.{cell_links}
use Rattle.listing.specs.Writing.{given_cells}
use Rattle.listing.proofs.Filled.{few-cells, filling-size, port-low, filling-put}
use Rattle.listing.proofs.put_filling.Goals as goal

pub put_pair-requires : goal.put_pair-requires
put_pair-requires c = let a = c.args in
    let u = c.requires.fit.4 in record {
      row_width_in_bounds = omega (arith, c.requires.context_in_bounds, filling-size a.sheet c.requires.fit.0 a.links_to.now a.given.now a.context u);
      first_le_most_number = (c.requires.fit.5, omega (arith, u.few));
    }

pub put_symbols-end-requires : goal.put_symbols-end-requires
put_symbols-end-requires c = let a = c.args in
    let u = c.requires.fit.4 in record {
      fit = (c.requires.fit.0, c.requires.fit.2, c.requires.fit.3);
      sheet_atoms_bound = (omega arith, low-none);
      row_width_in_bounds = omega (arith, c.requires.context_in_bounds, filling-size a.sheet c.requires.fit.0 a.links_to.now a.given.now a.context u, c.put_pair.auto.out);
    }

pub put_ports-requires : goal.put_ports-requires
put_ports-requires c = let a = c.args in
    let x = a.context in
    let u = c.requires.fit.4 in
    let ports = c.ports_of-ports in
    let p = c.put_pair in
    let q = c.put_symbols-end in
    let cells = given_cells a.sheet a.given.now x.number in record {
      count_le_most_links = (u.few, port-low a.sheet c.requires.fit.0 a.links_to.now a.given.now x u c.requires.by_index ports.result ports.ensures);
      count_bound = (
        omega (arith, ap (λ n. n.count) q.ensures.numbered_after, with-classes-count no_numbers (cell_links cells), few-cells a.sheet c.requires.fit.0 a.links_to.now a.given.now x u, c.requires.fit.0.atom-count, u.few),
        low-after no_numbers (numbering q.new.numbers q.new.numbered) (cell_links cells) q.ensures.numbered_after low-none,
      );
      row_width_in_bounds = omega (arith, q.ensures.value, c.requires.context_in_bounds, filling-size a.sheet c.requires.fit.0 a.links_to.now a.given.now x u, p.auto.out, q.auto.out);
    }

pub returns : goal.returns
returns c = let a = c.args in
    let x = a.context in
    let u = c.requires.fit.4 in
    let ports = c.ports_of-ports in
    let p = c.put_pair in
    let q = c.put_symbols-end in
    let r = c.put_ports in
    let used = take x.count ports.result in record {
      value = omega (arith, q.ensures.value, r.ensures.value, filling-size a.sheet c.requires.fit.0 a.links_to.now a.given.now x u);
      out_after = filling-put a.sheet c.requires.fit.0 a.links_to.now a.given.now x u c.requires.by_index ports.result ports.ensures
          (numbering r.new.numbers r.new.numbered) (r.ensures.numbered_after ∙ ap (λ n. with_classes n used) q.ensures.numbered_after)
          a.out.now p.new.out q.new.out r.new.out a.at c.requires.context_in_bounds p.ensures (rw (sym r.ensures.numbered_after) at (q.ensures.by_index used)) (rw q.ensures.value at r.ensures.out_after);
    }
