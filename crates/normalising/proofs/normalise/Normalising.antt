-- What normalising answers and writes, in each of its cases.
use Prim.Native.Nat.{ℕ, ◌+◌, ◌*◌, ◌<◌, ◌≤◌}
use mathlib.Core.Path.{◌≡◌}
use mathlib.Core.List.{List, ◌++◌}
use mathlib.Core.Bool.{false}
use borrow.Author.Tests.{lt-ltb, le-ltb}
use lib.ListN.{length, drop}
use Rattle.rows.specs.Format.{row_width}
use Rattle.sheet.specs.Kinds.{is_list}
use Rattle.sheet.specs.Reading.{outcome_of, no_ports}
use Rattle.reading.specs.NormalSheet.{packed_normal}
use Rattle.normalising.specs.NormalText.{slip_length, normal_text_of, normalised_answer, normalised_slip}
use Rattle.normalising.specs.NormalRows.{normal_rows, Writable}
use Rattle.sheet.specs.declared.kind.Kind.{Kind}
use Rattle.rows.specs.declared.Sheet.{Sheet as Normal}
use Rattle.sheet.specs.declared.answer.Refusal.{Refusal}
use Rattle.sheet.specs.declared.answer.Answer.TheVariants.{Passed, Refused}
use Rattle.normalising.specs.declared.normalise.Normalised.TheVariants as done
use Rattle.sheet.proofs.read.HeldLimits.{held-within}
use Rattle.reading.proofs.normal.Connected.{agrees-read}
use Rattle.normalising.proofs.normal_text.NormalWritten.{normal-rows, normal-writable, rows_fit}

module _ (kind : Kind) (text slip : List ℕ) where
  pub slip-short : length slip < slip_length → (done.ShortSlip ≡ normalised_answer kind text (length slip)) × (slip ≡ normalised_slip kind text slip)
  unfolding normalised_answer normalised_slip
  slip-short h = (rw (lt-ltb (length slip) slip_length h), rw (lt-ltb (length slip) slip_length h))

  pub slip-refused : slip_length ≤ length slip → (why : Refusal) (row : ℕ) → (outcome_of kind no_ports text).answer ≡ Refused why row
      → (done.Refused why row ≡ normalised_answer kind text (length slip)) × (slip ≡ normalised_slip kind text slip)
  unfolding normalised_answer normalised_slip
  slip-refused h why row e = (rw (le-ltb (length slip) slip_length h, e), rw (le-ltb (length slip) slip_length h, e))

  pub slip-written : slip_length ≤ length slip → (outcome_of kind no_ports text).answer ≡ Passed
      → (normal : Normal) → normal ≡ packed_normal (outcome_of kind no_ports text).held
      → (done.Written (length (normal_rows normal)) ≡ normalised_answer kind text (length slip)) × (normal_rows normal ++ drop (length (normal_rows normal)) slip ≡ normalised_slip kind text slip)
  unfolding normalised_answer normalised_slip
  slip-written h e normal q =
      let r : normal_rows normal ≡ normal_text_of kind text = rw q (normal-rows kind (outcome_of kind no_ports text).held (held-within kind no_ports text)) in
      (rw (le-ltb (length slip) slip_length h, e, r), rw (le-ltb (length slip) slip_length h, e, r))

-- The normal form of a sheet or a figure can be written into a slip of the full length.
pub read-writable : (kind : Kind) (text : List ℕ) → is_list kind ≡ false → (normal : Normal) → normal ≡ packed_normal (outcome_of kind no_ports text).held
    → Writable normal × ((normal.atom_count + normal.context_count + normal.mark_count) * row_width ≤ slip_length)
read-writable kind text plain normal e =
    let h = (outcome_of kind no_ports text).held in
    let w = held-within kind no_ports text in
    let A = agrees-read kind no_ports text plain in
    rw e (normal-writable kind h w A, rows_fit kind h w A)
