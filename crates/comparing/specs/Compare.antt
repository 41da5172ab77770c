-- Document 01, 'Compare two sheets (same or differs)': the answer.
use Rattle.std.specs.Prelude.{ℕ, List, Bool, true, false}
use Rattle.std.proofs.Math.Option.{Option, none, some}
use Rattle.rows.specs.Pick.{pick}
use Rattle.rows.specs.Held.{Held}
use Rattle.sheet.specs.Reading.{outcome_of, no_ports}
use Rattle.sheet.specs.declared.kind.Kind.TheVariants.{Plain}
use Rattle.sheet.specs.declared.answer.Answer.{Answer}
use Rattle.sheet.specs.declared.answer.Answer.TheVariants as read
use Rattle.placing.specs.Net.{normal_net}
use Rattle.placing.specs.Placing.{Placing}
use Rattle.placing.specs.Smallest.{smallest}
use Rattle.placing.specs.TextNets.{sheet_held}
use Rattle.answers.specs.declared.outcome.Compared.{Compared}
use Rattle.answers.specs.declared.outcome.Compared.TheVariants.{Same, Differs, Refused}

abbrev pub is_placed : Option Placing → Bool
is_placed none = false
is_placed (some p) = true

-- the second sheet, as a figure without blanks, can be placed in the first
unfoldable pub same_test : Held → Held → Bool
same_test a b = is_placed (smallest (normal_net a) (normal_net b))

-- the inputs in task order: the first that is refused, with its row; else whether they are the same
abbrev pub compared_by : Answer → Answer → Bool → Compared
compared_by (read.Refused why row) second same = Refused 1 why row
compared_by read.Passed (read.Refused why row) same = Refused 2 why row
compared_by read.Passed read.Passed same = pick same Same Differs

-- what comparing two texts answers
unfoldable pub compare_answer : List ℕ → List ℕ → Compared
compare_answer a b =
    compared_by (outcome_of Plain no_ports a).answer (outcome_of Plain no_ports b).answer (same_test (sheet_held a) (sheet_held b))
