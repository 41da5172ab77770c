-- Case by case: the case that was found, then what `decided` or `denied` makes of it.
use borrow.Author.Rules.{rules}
use mathlib.Core.Path.{◌∙◌}
use Rattle.answers.proofs.of_claimed.Statement.{statement}
use Rattle.answers.proofs.of_claimed.Tie as tie

enum_told : tie.Need-enum_told-1
enum_told c = search rules

decided-requires : tie.Need-decided-requires
decided-requires c κs = search rules

enum-told-2 : tie.Need-enum_told-in-Differs
enum-told-2 c = search rules

decided-requires-2 : tie.Need-decided-requires-in-Differs
decided-requires-2 c κs = search rules

enum-known-claimed : tie.Need-enum_known-claimed
enum-known-claimed c = search rules

refusal-number-requires : tie.Need-refusal_number-requires
refusal-number-requires c κs = search rules

denied-requires : tie.Need-denied-requires
denied-requires c κs = search rules

enum-known-claimed-2 : tie.Need-enum_known-claimed-in-BlankClash-1
enum-known-claimed-2 c = search rules

denied-requires-2 : tie.Need-denied-requires-in-BlankClash
denied-requires-2 c κs = search rules

enum-known-claimed-3 : tie.Need-enum_known-claimed-in-EdgeDiffers-1
enum-known-claimed-3 c = search rules

denied-requires-3 : tie.Need-denied-requires-in-EdgeDiffers
denied-requires-3 c κs = search rules

returns : tie.Need-returns-in-Holds
returns c = rw c.in-Holds.is c.decided.ensures

returns-2 : tie.Need-returns-in-Differs
returns-2 c = rw c.in-Differs.is c.decided-in-Differs.ensures

returns-3 : tie.Need-returns-in-Refused
returns-3 c = rw c.in-Refused.is (c.denied.ensures ∙ rw c.refusal_number.ensures)

returns-4 : tie.Need-returns-in-BlankClash
returns-4 c = rw c.in-BlankClash.is c.denied-in-BlankClash.ensures

returns-5 : tie.Need-returns-in-EdgeDiffers
returns-5 c = rw c.in-EdgeDiffers.is c.denied-in-EdgeDiffers.ensures

pub of_claimed_spec : {M : Type 1} → statement M
of_claimed_spec =
    tie.close
    (tie.spec
    enum_told
    decided-requires
    enum-told-2
    decided-requires-2
    enum-known-claimed
    refusal-number-requires
    denied-requires
    enum-known-claimed-2
    denied-requires-2
    enum-known-claimed-3
    denied-requires-3
    returns
    returns-2
    returns-3
    returns-4
    returns-5)
