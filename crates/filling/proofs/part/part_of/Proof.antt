-- The part of a list that is one filling agrees with its hypergraph.
use borrow.Author.Rules.{rules}
use Prim.Native.Nat.{ℕ}
use mathlib.Core.Path.{ap, ◌∙◌}
use mathlib.Core.List.{List}
use Rattle.sheet.specs.Reading.{outcome_of, no_ports}
use Rattle.sheet.specs.declared.kind.Kind.TheVariants.{Fillings}
use Rattle.reading.specs.Made.{reading_of}
use Rattle.reading.specs.declared.read.Reading.{Reading}
use Rattle.filling.proofs.Parts.{part-made}
use Rattle.filling.proofs.part.part_of.Statement.{statement}
use Rattle.filling.proofs.part.part_of.Tie as tie

part-for-requires : tie.Need-part_for-requires
part-for-requires c κs = c.requires

read-list-requires : tie.Need-read_list-requires
read-list-requires c κs = search rules

returns : tie.Need-returns
returns c = let f = c in
    let a = f.args in
    ap (λ (x : Reading). x.normal) (c.read_list.ensures ∙ ap (λ (t : List ℕ). reading_of Fillings (outcome_of Fillings no_ports t)) f.part_for.ensures) ∙ part-made a.list.now a.number

pub part_of_spec : {M : Type 1} → statement M
part_of_spec = tie.close (tie.spec part-for-requires read-list-requires returns)
