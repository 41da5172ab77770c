-- Case by case: the case that was found, then what `written` or `refused` makes of it.
use borrow.Author.Rules.{rules}
use mathlib.Core.Path.{◌∙◌}
use Rattle.answers.proofs.of_reading.Statement.{statement}
use Rattle.answers.proofs.of_reading.Tie as tie

enum_told : tie.Need-enum_told-1
enum_told c = search rules

written-requires : tie.Need-written-requires
written-requires c κs = search rules

enum-known-answer : tie.Need-enum_known-answer
enum-known-answer c = search rules

refusal-number-requires : tie.Need-refusal_number-requires
refusal-number-requires c κs = search rules

refused-requires : tie.Need-refused-requires
refused-requires c κs = search rules

returns : tie.Need-returns-in-Passed
returns c = rw c.in-Passed.is c.written.ensures

returns-2 : tie.Need-returns-in-Refused
returns-2 c = rw c.in-Refused.is (c.refused.ensures ∙ rw c.refusal_number.ensures)

pub of_reading_spec : {M : Type 1} → statement M
of_reading_spec =
    tie.close
    (tie.spec
    enum_told
    written-requires
    enum-known-answer
    refusal-number-requires
    refused-requires
    returns
    returns-2)
