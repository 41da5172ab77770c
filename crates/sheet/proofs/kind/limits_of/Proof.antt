-- Each kind by its own line of the definition.
use borrow.Author.Rules.{rules}
use Rattle.sheet.proofs.kind.limits_of.Statement.{statement}
use Rattle.sheet.proofs.kind.limits_of.Tie as tie

enum_told : tie.Need-enum_told-1
enum_told c = search rules

enum-told-2 : tie.Need-enum_told-in-Pattern
enum-told-2 c = search rules

enum-told-3 : tie.Need-enum_told-in-Figure
enum-told-3 c = search rules

enum-told-4 : tie.Need-enum_told-in-Replacement
enum-told-4 c = search rules

enum-told-5 : tie.Need-enum_told-in-Fillings
enum-told-5 c = search rules

returns : tie.Need-returns-in-Plain
returns c = rw c.in-Plain.is

returns-2 : tie.Need-returns-in-Pattern
returns-2 c = rw c.in-Pattern.is

returns-3 : tie.Need-returns-in-Figure
returns-3 c = rw c.in-Figure.is

returns-4 : tie.Need-returns-in-Replacement
returns-4 c = rw c.in-Replacement.is

returns-5 : tie.Need-returns-in-Fillings
returns-5 c = rw c.in-Fillings.is

pub limits_of_spec : {M : Type 1} → statement M
limits_of_spec =
    tie.close
    (tie.spec
    enum_told
    enum-told-2
    enum-told-3
    enum-told-4
    enum-told-5
    returns
    returns-2
    returns-3
    returns-4
    returns-5)
