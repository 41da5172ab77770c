-- Case by case: the case that was found, then what `written` or `refused` makes of it.
use borrow.Author.Rules.{rules}
use mathlib.Core.Path.{◌∙◌}
use Rattle.answers.proofs.of_normalised.Statement.{statement}
use Rattle.answers.proofs.of_normalised.Tie as tie

enum-known-done : tie.Need-enum_known-done
enum-known-done c = search rules

written-requires : tie.Need-written-requires
written-requires c κs = search rules

enum_told : tie.Need-enum_told-1
enum_told c = search rules

refused-requires : tie.Need-refused-requires
refused-requires c κs = search rules

enum-known-done-2 : tie.Need-enum_known-done-in-Refused-1
enum-known-done-2 c = search rules

refusal-number-requires : tie.Need-refusal_number-requires
refusal-number-requires c κs = search rules

refused-requires-2 : tie.Need-refused-requires-in-Refused
refused-requires-2 c κs = search rules

returns : tie.Need-returns-in-Written
returns c = rw c.in-Written.is c.written.ensures

returns-2 : tie.Need-returns-in-ShortSlip
returns-2 c = rw c.in-ShortSlip.is c.refused.ensures

returns-3 : tie.Need-returns-in-Refused
returns-3 c = rw c.in-Refused.is (c.refused-in-Refused.ensures ∙ rw c.refusal_number.ensures)

pub of_normalised_spec : {M : Type 1} → statement M
of_normalised_spec =
    tie.close
    (tie.spec
    enum-known-done
    written-requires
    enum_told
    refused-requires
    enum-known-done-2
    refusal-number-requires
    refused-requires-2
    returns
    returns-2
    returns-3)
