-- The mark of a row, by its letter, put into arrays from which those of another filling are gone.
use Prim.Native.Nat.{ℕ, ◌+◌, ◌-◌, ◌≤◌}
use mathlib.Core.Path.{◌≡◌, ◌∙◌, sym}
use mathlib.Core.List.{List}
use mathlib.Core.Bool.{Bool, true, false}
use native.Mathlib.Omega.{arith}
use lib.Dec.{eqb}
use lib.ListN.{get_or}
use borrow.Author.Tests.{ne_eqb}
use Rattle.rows.specs.Pick.{pick}
use Rattle.rows.specs.Format.{edge_letter, head_letter}
use Rattle.rows.specs.Limits.{sheet_marks, mark_room}
use Rattle.rows.specs.Held.{Wiring, with_mark}
use Rattle.linking.specs.Steps.{gone, cleared, Wired, Linked, Marked, Tied, first_link_in, first_link, no_marks, marked_by}
use Rattle.rows.specs.declared.row.Row.{Row}
use Rattle.linking.proofs.Loops.{cleared-padded}

module _ (r : Row) (links classes marks marked marks₁ marked₁ : List ℕ) (n m kept : ℕ) (room : m ≤ sheet_marks)
    (ek : kept ≡ m - gone r.letter m) (em : marks₁ ≡ cleared (gone r.letter m) marks) (ed : marked₁ ≡ cleared (gone r.letter m) marked)
    (w v : Wiring) (wired : Wired v) (k : Linked w links classes n) (t : Marked (pick (eqb r.letter head_letter) v w) marks marked m) where
  pub row-unmarked : (r.letter ≡ edge_letter → ⊥) → Tied (marked_by r w) links classes n marks₁ marked₁ kept
  row-unmarked h = rw (ne_eqb r.letter edge_letter h) (go (eqb r.letter head_letter) t ek em ed)
    where
      go : (b : Bool) → Marked (pick b v w) marks marked m → kept ≡ m - pick b m 0 → marks₁ ≡ cleared (pick b m 0) marks → marked₁ ≡ cleared (pick b m 0) marked
          → Tied (pick b (no_marks w) w) links classes n marks₁ marked₁ kept
      go true t q p d = (
        record { numbers = k.numbers; labels = k.labels; count = k.count },
        record {
          numbers = p ∙ rw t.numbers (cleared-padded mark_room v.marks m t.count (omega (arith, t.count)));
          places = d ∙ rw t.places (cleared-padded mark_room v.marked m (t.count ∙ sym wired.placed) (omega (arith, t.count, wired.placed)));
          count = omega arith;
        },
      )
      go false t q p d = (k, record { numbers = p ∙ t.numbers; places = d ∙ t.places; count = omega (arith, t.count) })

  pub row-marked : r.letter ≡ edge_letter → (from : ℕ) → from ≡ first_link r.letter → (labels marks' marked' : List ℕ) (m' : ℕ)
      → (Tied w links classes n marks₁ marked₁ kept → Tied (with_mark w (get_or r.nums from 0) (get_or r.nums 1 0)) links labels n marks' marked' m') → Tied (marked_by r w) links labels n marks' marked' m'
  unfolding first_link_in
  row-marked e from ef labels marks' marked' m' g =
      let t' : Marked w marks marked m = rw e at t in
      let q : kept ≡ m - 0 = rw e at ek in
      let p : marks₁ ≡ marks = rw e at em in
      let d : marked₁ ≡ marked = rw e at ed in
      rw e (rw (ef, e) at (g (k, record { numbers = p ∙ t'.numbers; places = d ∙ t'.places; count = omega (arith, t'.count) })))
