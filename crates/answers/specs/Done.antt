-- Document 01, 'Numbers': the number, input, row and bytes written of each answer of fill, place and swap.
use Rattle.std.specs.Prelude.{ℕ, List, ◌++◌, drop}
use Rattle.sheet.specs.Answer.{refusal_number}
use Rattle.answers.specs.declared.outcome.Done.{Done}
use Rattle.answers.specs.declared.outcome.Done.TheVariants as done

abbrev pub done_number : Done → ℕ
done_number (done.Written bytes) = 0
done_number done.ShortSlip = 10
done_number (done.Refused input why row) = refusal_number why
done_number (done.BlankClash input row) = 8
done_number (done.EdgeDiffers input row) = 9
done_number done.NoPlacing = 11
done_number done.TooLarge = 12

-- '10, 11 and 12 name no input and no row'
abbrev pub done_input : Done → ℕ
done_input (done.Written bytes) = 0
done_input done.ShortSlip = 0
done_input (done.Refused input why row) = input
done_input (done.BlankClash input row) = input
done_input (done.EdgeDiffers input row) = input
done_input done.NoPlacing = 0
done_input done.TooLarge = 0

abbrev pub done_row : Done → ℕ
done_row (done.Written bytes) = 0
done_row done.ShortSlip = 0
done_row (done.Refused input why row) = row
done_row (done.BlankClash input row) = row
done_row (done.EdgeDiffers input row) = row
done_row done.NoPlacing = 0
done_row done.TooLarge = 0

-- 'A refusal writes none'
abbrev pub done_bytes : Done → ℕ
done_bytes (done.Written bytes) = bytes
done_bytes done.ShortSlip = 0
done_bytes (done.Refused input why row) = 0
done_bytes (done.BlankClash input row) = 0
done_bytes (done.EdgeDiffers input row) = 0
done_bytes done.NoPlacing = 0
done_bytes done.TooLarge = 0

-- the slip at exit: 'the slip stays; success changes only the bytes counted'
abbrev pub slip_after : Done → List ℕ → List ℕ → List ℕ
slip_after (done.Written bytes) text slip = text ++ drop bytes slip
slip_after done.ShortSlip text slip = slip
slip_after (done.Refused input why row) text slip = slip
slip_after (done.BlankClash input row) text slip = slip
slip_after (done.EdgeDiffers input row) text slip = slip
slip_after done.NoPlacing text slip = slip
slip_after done.TooLarge text slip = slip
