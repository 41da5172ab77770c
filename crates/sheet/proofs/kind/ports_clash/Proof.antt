-- Each kind by its own line of the definition.
use borrow.Author.Rules.{rules}
use lib.Dec.{eqb}
use Rattle.rows.proofs.Bools.{not-not}
use Rattle.sheet.specs.Reading.{clash_of}
use Rattle.sheet.proofs.kind.ports_clash.Statement.{statement}
use Rattle.sheet.proofs.kind.ports_clash.Tie as tie

enum_told : tie.Need-enum_told-1
enum_told c = search rules

enum-told-2 : tie.Need-enum_told-in-Fillings
enum-told-2 c = search rules

enum-told-3 : tie.Need-enum_told-in-Pattern
enum-told-3 c = search rules

enum-told-4 : tie.Need-enum_told-in-Figure
enum-told-4 c = search rules

ports-differ-requires : tie.Need-ports_differ-requires
ports-differ-requires c κs = search rules

enum-told-5 : tie.Need-enum_told-in-Replacement
enum-told-5 c = search rules

ports-differ-requires-2 : tie.Need-ports_differ-requires-in-Replacement
ports-differ-requires-2 c κs = search rules

returns : tie.Need-returns-then-ports_differ
unfolding clash_of
returns c = rw c.in-Replacement.is (rw (← c.ports_differ-in-Replacement.ensures) (rw c.if-ports_differ.true))

returns-2 : tie.Need-returns-in-Plain
unfolding clash_of
returns-2 c = rw c.in-Plain.is

returns-3 : tie.Need-returns-in-Fillings
unfolding clash_of
returns-3 c = rw c.in-Fillings.is

returns-4 : tie.Need-returns-in-Pattern
unfolding clash_of
returns-4 c = rw c.in-Pattern.is (not-not (eqb c.args.before 0))

returns-5 : tie.Need-returns-in-Figure
unfolding clash_of
returns-5 c = rw c.in-Figure.is c.ports_differ.ensures

returns-6 : tie.Need-returns-else-ports_differ
unfolding clash_of
returns-6 c = let a = c.args in
    rw c.in-Replacement.is (rw (← c.ports_differ-in-Replacement.ensures) (rw c.if-ports_differ.false (not-not (eqb a.given a.ports))))

pub ports_clash_spec : {M : Type 1} → statement M
ports_clash_spec =
    tie.close
    (tie.spec
    enum_told
    enum-told-2
    enum-told-3
    enum-told-4
    ports-differ-requires
    enum-told-5
    ports-differ-requires-2
    returns
    returns-2
    returns-3
    returns-4
    returns-5
    returns-6)
