use borrow.Author.Rules.{rules}
use Rattle.rows.specs.Packed.{padded, ports_of}
use Rattle.numbering.specs.Numbering.{with_classes, atom_labels, context_labels, sorted_into}
use Rattle.reading.proofs.read.turned_down.Statement.{statement}
use Rattle.reading.proofs.read.turned_down.Tie as tie

empty-requires : tie.Need-empty-requires
empty-requires c κs = search rules

returns : tie.Need-returns
unfolding padded ports_of with_classes atom_labels context_labels sorted_into
returns c = rw c.empty.ensures

pub turned_down_spec : {M : Type 1} → statement M
turned_down_spec = tie.close (tie.spec empty-requires returns)
