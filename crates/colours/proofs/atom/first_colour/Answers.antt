use Rattle.std.proofs.Common.{ℕ, take, ap, ◌∙◌, arith}
use Rattle.candidates.specs.Laid.{link_of}
use Rattle.colours.specs.Colours.{first_at}
use Rattle.colours.specs.Mixed.{mixed, mixed_all}
use Rattle.colours.proofs.MixLaws.{mixed-next}
use Rattle.colours.proofs.atom.first_colour.Goals as goal

pub loop-k-init : goal.loop-k-init
unfolding mixed_all
loop-k-init c = c.mix-colour.ensures ∙ ap (λ (z : ℕ). mixed z c.args.size) c.mix.ensures

pub loop-k-preserved : goal.loop-k-preserved
loop-k-preserved c = let a = c.args.atom in
    let f : ℕ → ℕ = λ x. first_at x (take a.count a.links) in
    c.mix-colour-in-loop-k.ensures ∙ ap (mixed c.loop-k.colour) c.first_place.ensures ∙ ap (λ (z : ℕ). mixed z (f (link_of a c.loop-k.k))) c.loop-k.invariant ∙ mixed-next f _ a.links c.loop-k.k (omega (arith, c.loop-k-test.true, c.requires.few, c.requires.width))
