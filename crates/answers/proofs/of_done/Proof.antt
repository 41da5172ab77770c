-- Case by case: the case that was found, then what `written` or `refused` makes of it.
use borrow.Author.Rules.{rules}
use mathlib.Core.Path.{◌∙◌}
use Rattle.answers.proofs.of_done.Statement.{statement}
use Rattle.answers.proofs.of_done.Tie as tie

enum-known-done : tie.Need-enum_known-done
enum-known-done c = search rules

written-requires : tie.Need-written-requires
written-requires c κs = search rules

enum_told : tie.Need-enum_told-1
enum_told c = search rules

refused-requires : tie.Need-refused-requires
refused-requires c κs = search rules

enum-known-done-2 : tie.Need-enum_known-done-in-Refused-1
enum-known-done-2 c = search rules

refusal-number-requires : tie.Need-refusal_number-requires
refusal-number-requires c κs = search rules

refused-requires-2 : tie.Need-refused-requires-in-Refused
refused-requires-2 c κs = search rules

enum-known-done-3 : tie.Need-enum_known-done-in-BlankClash-1
enum-known-done-3 c = search rules

refused-requires-3 : tie.Need-refused-requires-in-BlankClash
refused-requires-3 c κs = search rules

enum-known-done-4 : tie.Need-enum_known-done-in-EdgeDiffers-1
enum-known-done-4 c = search rules

refused-requires-4 : tie.Need-refused-requires-in-EdgeDiffers
refused-requires-4 c κs = search rules

enum-told-2 : tie.Need-enum_told-in-NoPlacing
enum-told-2 c = search rules

refused-requires-5 : tie.Need-refused-requires-in-NoPlacing
refused-requires-5 c κs = search rules

enum-told-3 : tie.Need-enum_told-in-TooLarge
enum-told-3 c = search rules

refused-requires-6 : tie.Need-refused-requires-in-TooLarge
refused-requires-6 c κs = search rules

returns : tie.Need-returns-in-Written
returns c = rw c.in-Written.is c.written.ensures

returns-2 : tie.Need-returns-in-ShortSlip
returns-2 c = rw c.in-ShortSlip.is c.refused.ensures

returns-3 : tie.Need-returns-in-Refused
returns-3 c = rw c.in-Refused.is (c.refused-in-Refused.ensures ∙ rw c.refusal_number.ensures)

returns-4 : tie.Need-returns-in-BlankClash
returns-4 c = rw c.in-BlankClash.is c.refused-in-BlankClash.ensures

returns-5 : tie.Need-returns-in-EdgeDiffers
returns-5 c = rw c.in-EdgeDiffers.is c.refused-in-EdgeDiffers.ensures

returns-6 : tie.Need-returns-in-NoPlacing
returns-6 c = rw c.in-NoPlacing.is c.refused-in-NoPlacing.ensures

returns-7 : tie.Need-returns-in-TooLarge
returns-7 c = rw c.in-TooLarge.is c.refused-in-TooLarge.ensures

pub of_done_spec : {M : Type 1} → statement M
of_done_spec =
    tie.close
    (tie.spec
    enum-known-done
    written-requires
    enum_told
    refused-requires
    enum-known-done-2
    refusal-number-requires
    refused-requires-2
    enum-known-done-3
    refused-requires-3
    enum-known-done-4
    refused-requires-4
    enum-told-2
    refused-requires-5
    enum-told-3
    refused-requires-6
    returns
    returns-2
    returns-3
    returns-4
    returns-5
    returns-6
    returns-7)
