-- One more atom is alike, or is not.
use Rattle.std.proofs.Common.{ℕ, below_more}
use lib.Bits.{bit_or}
use Rattle.placing.proofs.FirstLaws.{both_ways}
use Rattle.candidates.specs.Laid.{laid_atom}
use Rattle.candidates.specs.Words.{In}
use Rattle.candidates.proofs.Digits.{in-or-left, in-or-right, alone-in}
use Rattle.starting.specs.Steps.{Alike}
use Rattle.starting.proofs.alike.alike_to.Goals as goal
use Rattle.starting.proofs.alike.alike_to.Goals.{then-alike, else-alike}

pub loop-t-preserved : goal.loop-t-preserved
loop-t-preserved c = let l = c.loop-t in
    let P : ℕ → ℕ → Type 0 = λ r u. Alike c.args.here (laid_atom c.args.sheet.now u) → In r u in
    elim c.if-alike.branch [
      | then-alike w ↦ rw w.row-is (below_more (P (bit_or l.row w.one-row.result)) l.t (λ u h a. in-or-left l.row w.one-row.result u (l.invariant u h a)) (λ a. in-or-right l.row w.one-row.result l.t (alone-in _ _ w.one-row.ensures)))
      | else-alike w ↦ rw w.row-is (below_more (P l.row) l.t l.invariant (λ a. absurd (both_ways (c.alike.ensures a) w.if-alike.false)))
    ]
