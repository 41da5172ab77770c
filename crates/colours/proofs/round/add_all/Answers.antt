use Rattle.std.proofs.Common.{◌≡◌, ℕ, ◌%◌, List, length, get_or, ap, ◌∙◌, arith}
use lib.ListN.{length-replicate}
use Rattle.rows.specs.Limits.{sheet_link_limit}
use Rattle.rows.proofs.Padding.{get_d-filled}
use Rattle.network.specs.NetIn.{net_in}
use Rattle.network.specs.Sums.{sum_to}
use Rattle.network.proofs.NetIn.{atoms-length}
use Rattle.colours.specs.Mixed.{word_size}
use Rattle.colours.proofs.RoundCode.{added, added_next}
use Rattle.colours.proofs.round.add_all.Goals as goal

pub loop-t-init : goal.loop-t-init
unfolding sum_to
loop-t-init c = (ap length c.requires.1 ∙ length-replicate {A = ℕ} sheet_link_limit 0, λ net o x h. ap (λ (l : List ℕ). get_or l x 0) c.requires.1 ∙ get_d-filled {A = ℕ} 0 sheet_link_limit x)

pub loop-t-preserved : goal.loop-t-preserved
loop-t-preserved c = let a = c.laid_atom-atom in
    let s = c.args in
    let t = c.loop-t.t in
    let e = c.add_around.ensures in (
      e.0,
      λ net o x h. e.1 (λ z. sum_to (added (net_in net) s.atoms.now z) t) (c.loop-t.invariant.1 net o) x h ∙ added_next net s.laid.now s.n o s.atoms.now t c.loop-t-test.true a.result a.ensures x,
    )

pub returns : goal.returns
returns c = let s = c.args in
    (c.loop-t.invariant.0, λ net o x h links. c.loop-t.invariant.1 net o x h ∙ ap (λ (z : ℕ). sum_to (added (net_in net) s.atoms.now x) z % word_size) (let e : c.loop-t.t ≡ length (net_in net).atoms = omega (arith, atoms-length net o.fit, o.count) in e))
