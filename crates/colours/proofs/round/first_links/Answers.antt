use Rattle.std.proofs.Common.{◌≡◌, ℕ, suc, ◌-◌, List, length, get_or, take, ap, ◌∙◌, ap₂, arith, length-set, take_all}
use lib.ListN.{length-replicate}
use Rattle.rows.proofs.Padding.{get_d-filled}
use Rattle.rows.specs.Limits.{sheet_link_limit}
use Rattle.network.specs.NetIn.{net_in}
use Rattle.network.proofs.NetIn.{marks-length, mark-at}
use Rattle.colours.specs.Colours.{marks_at}
use Rattle.colours.specs.Mixed.{joined_marks}
use Rattle.colours.proofs.MarkLaws.{marks-next}
use lib.Bits.{bit_or}
use Rattle.colours.proofs.round.first_links.Goals as goal

pub loop-p-init : goal.loop-p-init
unfolding marks_at joined_marks
loop-p-init c = (ap length c.requires.1 ∙ length-replicate {A = ℕ} sheet_link_limit 0, λ net m x h. ap (λ (l : List ℕ). get_or l x 0) c.requires.1 ∙ get_d-filled {A = ℕ} 0 sheet_link_limit x)

pub loop-p-preserved : goal.loop-p-preserved
loop-p-preserved c = let s = c.args in
    let p = c.loop-p.p in (
      simp length-set c.loop-p.invariant.0,
      λ net m. marks-next (net_in net).marks c.loop-p.links sheet_link_limit p (get_or s.marked.now p 0) (get_or s.marks p 0) _ c.loop-p.invariant.0
          (omega (arith, c.loop-p-test.true, marks-length net m.fit, m.count))
          (mark-at net m.fit p (omega (arith, c.loop-p-test.true, m.count)) ∙ ap₂ (λ (a b : List ℕ). (get_or a p 0, get_or b p 0)) m.same-marked m.same-marks)
          (c.requires.0.numbered c.loop-p.p c.loop-p-test.true) (c.loop-p.invariant.1 net m) (ap (λ (z : ℕ). bit_or (get_or c.loop-p.links (get_or s.marked.now p 0 - 1) 0) z) c.mix.ensures),
    )

pub returns : goal.returns
returns c = let s = c.args in
    let e : c.loop-p.p ≡ s.n = omega arith in
    (c.loop-p.invariant.0, λ net m x h. c.loop-p.invariant.1 net m x h ∙ ap (λ (k : List (ℕ × ℕ)). joined_marks (marks_at (suc x) k)) (ap (λ (z : ℕ). take z (net_in net).marks) e ∙ take_all s.n (net_in net).marks (omega (arith, marks-length net m.fit, m.count))))
