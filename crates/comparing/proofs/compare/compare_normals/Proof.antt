-- `compare::compare_normals` meets its contract: a placing was found, or none. Assumes nothing.
use borrow.Author.Rules.{rules}
use mathlib.Core.Path.{ap, sym}
use mathlib.Core.Bool.{true, false}
use mathlib.Core.Option.{Option}
use Rattle.rows.specs.Pick.{pick}
use Rattle.placing.specs.Placing.{Placing}
use Rattle.answers.specs.declared.outcome.Compared.TheVariants.{Same, Differs}
use Rattle.comparing.specs.Compare.{is_placed}
use Rattle.comparing.proofs.Comparing.{compared-by}
use Rattle.comparing.proofs.compare.compare_normals.Statement.{statement}
use Rattle.comparing.proofs.compare.compare_normals.Tie as tie

identical-requires : tie.Need-identical-requires
identical-requires c κs = search rules

returns : tie.Need-returns-then-identical
returns c = ap (λ (o : Option Placing). pick (is_placed o) Same Differs) (sym (c.identical.ensures c.if-identical.true).1)

smallest-placing-requires : tie.Need-smallest_placing-found-requires
smallest-placing-requires c κs = search rules

returns-2 : tie.Need-returns-then-found
returns-2 c =
    let a = c.args in
    compared-by a.sheet a.other c.smallest_placing-found.result true c.smallest_placing-found.ensures c.if-found.true

returns-3 : tie.Need-returns
returns-3 c =
    let a = c.args in
    compared-by a.sheet a.other c.smallest_placing-found.result false c.smallest_placing-found.ensures c.if-found.false

pub compare_normals_spec : {M : Type 1} → statement M
compare_normals_spec = tie.close (tie.spec identical-requires returns smallest-placing-requires returns-2 returns-3)
