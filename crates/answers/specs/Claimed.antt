-- Document 01, 'Numbers': the number, input, row, bytes written and yes or no of each answer of claim.
use Rattle.std.specs.Prelude.{ℕ, Bool, true, false}
use Rattle.sheet.specs.Answer.{refusal_number}
use Rattle.answers.specs.declared.outcome.Claimed.{Claimed}
use Rattle.answers.specs.declared.outcome.Claimed.TheVariants.{Holds, Differs, Refused, BlankClash, EdgeDiffers}

abbrev pub claimed_number : Claimed → ℕ
claimed_number Holds = 0
claimed_number Differs = 0
claimed_number (Refused input why row) = refusal_number why
claimed_number (BlankClash input row) = 8
claimed_number (EdgeDiffers input row) = 9

abbrev pub claimed_input : Claimed → ℕ
claimed_input Holds = 0
claimed_input Differs = 0
claimed_input (Refused input why row) = input
claimed_input (BlankClash input row) = input
claimed_input (EdgeDiffers input row) = input

abbrev pub claimed_row : Claimed → ℕ
claimed_row Holds = 0
claimed_row Differs = 0
claimed_row (Refused input why row) = row
claimed_row (BlankClash input row) = row
claimed_row (EdgeDiffers input row) = row

-- there is no output
abbrev pub claimed_bytes : Claimed → ℕ
claimed_bytes Holds = 0
claimed_bytes Differs = 0
claimed_bytes (Refused input why row) = 0
claimed_bytes (BlankClash input row) = 0
claimed_bytes (EdgeDiffers input row) = 0

-- 'compare and claim add their yes or no, which is no in a refusal'
abbrev pub claimed_yes : Claimed → Bool
claimed_yes Holds = true
claimed_yes Differs = false
claimed_yes (Refused input why row) = false
claimed_yes (BlankClash input row) = false
claimed_yes (EdgeDiffers input row) = false
