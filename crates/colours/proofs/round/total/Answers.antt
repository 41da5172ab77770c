use Rattle.std.proofs.Common.{◌≡◌, ℕ, suc, ◌+◌, ◌-◌, ◌%◌, List, get_or, refl, ap, ◌∙◌, arith}
use Rattle.network.specs.Sums.{sum_to}
use Rattle.colours.specs.Mixed.{word_size}
use Rattle.colours.specs.Arrays.{held}
use Rattle.colours.proofs.RoundCode.{sum-next}
use Rattle.colours.proofs.round.total.Goals as goal

-- the number at a place, counted from 0
same_place : (l : List ℕ) (t : ℕ) → get_or l t 0 ≡ get_or l (suc t - 1) 0
same_place l t = ap (λ (i : ℕ). get_or l i 0) (let e : t ≡ suc t - 1 = omega arith in e)

pub loop-t-init : goal.loop-t-init
unfolding sum_to
loop-t-init c = refl

pub loop-t-preserved : goal.loop-t-preserved
loop-t-preserved c = let s = c.args in
    sum-next word_size (held s.atoms.now s.links.now).of_atom 0 c.loop-t.t c.loop-t.sum _ c.wrapping_add_u64-sum.result c.loop-t.invariant (same_place s.atoms.now c.loop-t.t) c.wrapping_add_u64-sum.ensures.value

pub loop-x-init : goal.loop-x-init
unfolding sum_to
loop-x-init c = let s = c.args in
    let f = (held s.atoms.now s.links.now).of_atom in
    c.loop-t.invariant ∙ ap (λ (z : ℕ). (0 + sum_to f z) % word_size) (let e : c.loop-t.t ≡ s.n = omega arith in e) ∙ ap (λ (z : ℕ). z % word_size) (let e : 0 + sum_to f s.n ≡ sum_to f s.n + 0 = omega arith in e)

pub loop-x-preserved : goal.loop-x-preserved
loop-x-preserved c = let s = c.args in
    sum-next word_size (held s.atoms.now s.links.now).of_link (sum_to (held s.atoms.now s.links.now).of_atom s.n) c.loop-x.x c.loop-x.sum _ c.wrapping_add_u64-sum-in-loop-x.result c.loop-x.invariant (same_place s.links.now c.loop-x.x) c.wrapping_add_u64-sum-in-loop-x.ensures.value
