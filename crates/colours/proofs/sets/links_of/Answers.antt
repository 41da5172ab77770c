use Rattle.std.proofs.Common.{◌≡◌, ℕ, ◌<◌, get_or, sym, arith, below_more}
use Rattle.candidates.specs.Words.{InPair}
use Rattle.candidates.proofs.Halves.{with-kept, with-there}
use Rattle.rows.specs.Limits.{sheet_link_limit}
use Rattle.colours.proofs.sets.links_of.Goals as goal
use Rattle.colours.proofs.sets.links_of.Goals.{then-colours-y, else-colours-y}

pub loop-y-preserved : goal.loop-y-preserved
loop-y-preserved c = let s = c.args in
    let small : c.loop-y.y < sheet_link_limit = omega (arith, c.loop-y-test.true, c.requires) in
    elim c.if-colours-y.branch [
      | then-colours-y w ↦ rw w.pair-is (below_more (λ (u : ℕ). s.colour ≡ get_or s.colours.now u 0 → InPair w.with-more.result u) c.loop-y.y (λ u h a. with-kept _ _ small _ w.with-more.ensures u (omega (arith, h, small)) (c.loop-y.invariant u h a)) (λ a. with-there _ _ small _ w.with-more.ensures))
      | else-colours-y w ↦ rw w.pair-is (below_more (λ (u : ℕ). s.colour ≡ get_or s.colours.now u 0 → InPair c.loop-y.pair u) c.loop-y.y c.loop-y.invariant (λ a. absurd (w.if-colours-y.false (sym a))))
    ]
