-- The halves of the links so far, and of one more.
use Rattle.std.proofs.Common.{◌≡◌, ℕ, ◌+◌, ◌-◌, get_or, ap, ◌∙◌, subst, inl, inr, ⊎_elim, arith}
use borrow.Author.Tests.{eqb-false, not-true}
use lib.Bits.{and_le_l}
use Rattle.candidates.specs.Laid.{laid_at}
use Rattle.candidates.specs.Words.{In}
use Rattle.candidates.proofs.Digits.{and_in}
use Rattle.stepping.proofs.Tables.{below_next}
use Rattle.ways.specs.Halves.{half_of}
use Rattle.ways.proofs.Words.{some-half}
use Rattle.ways.proofs.guarded.on_one_half.Goals as goal

pub loop-k-preserved : goal.loop-k-preserved
loop-k-preserved c = let a = c.args in
    let l = c.loop-k in
    let x = c.link-x in
    let half = c.half_of-halves in
    let at : x.result ≡ laid_at a.parts.now a.row (2 + l.k) - 1 = (let e = x.ensures.0 in omega arith) in (
      (let h = l.invariant.0 in omega (arith, and_le_l l.halves half.result)),
      λ h i. below_next (λ j. In (half_of (get_or a.standing.now (laid_at a.parts.now a.row (2 + j) - 1) 0) a.side) h) l.k (l.invariant.1 h (and_in l.halves half.result h i).0)
          (subst (λ (w : ℕ). In w h) (half.ensures.0 ∙ ap (λ (w : ℕ). half_of (get_or a.standing.now w 0) a.side) at) (and_in l.halves half.result h i).1),
    )

pub returns : goal.returns
returns c = let l = c.loop-k in
    let w = c.width-most.ensures.0 in
    λ e. ⊎_elim (λ i. inl (λ k h. l.invariant.1 0 i k (omega arith))) (λ i. inr (λ k h. l.invariant.1 1 i k (omega arith))) (some-half l.halves l.invariant.0 (eqb-false _ _ (not-true _ e)))
