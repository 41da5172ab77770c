-- Case by case: the case that was found, then what `decided` or `denied` makes of it.
use borrow.Author.Rules.{rules}
use mathlib.Core.Path.{◌∙◌}
use Rattle.answers.proofs.of_compared.Statement.{statement}
use Rattle.answers.proofs.of_compared.Tie as tie

enum_told : tie.Need-enum_told-1
enum_told c = search rules

decided-requires : tie.Need-decided-requires
decided-requires c κs = search rules

enum-told-2 : tie.Need-enum_told-in-Differs
enum-told-2 c = search rules

decided-requires-2 : tie.Need-decided-requires-in-Differs
decided-requires-2 c κs = search rules

enum-known-done : tie.Need-enum_known-done
enum-known-done c = search rules

refusal-number-requires : tie.Need-refusal_number-requires
refusal-number-requires c κs = search rules

denied-requires : tie.Need-denied-requires
denied-requires c κs = search rules

returns : tie.Need-returns-in-Same
returns c = rw c.in-Same.is c.decided.ensures

returns-2 : tie.Need-returns-in-Differs
returns-2 c = rw c.in-Differs.is c.decided-in-Differs.ensures

returns-3 : tie.Need-returns-in-Refused
returns-3 c = rw c.in-Refused.is (c.denied.ensures ∙ rw c.refusal_number.ensures)

pub of_compared_spec : {M : Type 1} → statement M
of_compared_spec =
    tie.close
    (tie.spec
    enum_told
    decided-requires
    enum-told-2
    decided-requires-2
    enum-known-done
    refusal-number-requires
    denied-requires
    returns
    returns-2
    returns-3)
