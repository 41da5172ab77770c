use Rattle.std.proofs.Common.{◌≡◌, ℕ, get_or, sym, below_more}
use lib.Bits.{bit_or}
use Rattle.candidates.specs.Words.{In}
use Rattle.candidates.proofs.Digits.{in-or-left, in-or-right, alone-in}
use Rattle.colours.proofs.sets.atoms_of.Goals as goal
use Rattle.colours.proofs.sets.atoms_of.Goals.{then-colours-t, else-colours-t}

pub loop-t-preserved : goal.loop-t-preserved
loop-t-preserved c = let s = c.args in
    elim c.if-colours-t.branch [
      | then-colours-t w ↦ rw w.row-is (below_more (λ (u : ℕ). s.colour ≡ get_or s.colours.now u 0 → In (bit_or c.loop-t.row w.one-row.result) u) c.loop-t.t (λ u h a. in-or-left c.loop-t.row w.one-row.result u (c.loop-t.invariant u h a)) (λ a. in-or-right c.loop-t.row w.one-row.result c.loop-t.t (alone-in _ _ w.one-row.ensures)))
      | else-colours-t w ↦ rw w.row-is (below_more (λ (u : ℕ). s.colour ≡ get_or s.colours.now u 0 → In c.loop-t.row u) c.loop-t.t c.loop-t.invariant (λ a. absurd (w.if-colours-t.false (sym a))))
    ]
