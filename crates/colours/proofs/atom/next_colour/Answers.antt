use Rattle.std.proofs.Common.{ℕ, refl, ap, ◌∙◌, arith}
use Rattle.candidates.specs.Laid.{link_of}
use Rattle.colours.specs.Mixed.{mixed, mixed_all}
use Rattle.colours.specs.Arrays.{link_colour}
use Rattle.colours.proofs.MixLaws.{mixed-next}
use Rattle.colours.proofs.atom.next_colour.Goals as goal

pub loop-k-init : goal.loop-k-init
unfolding mixed_all
loop-k-init c = refl

pub loop-k-preserved : goal.loop-k-preserved
loop-k-preserved c = c.mix-colour.ensures ∙ ap (λ (z : ℕ). mixed z (link_colour c.args.links.now (link_of c.args.atom c.loop-k.k))) c.loop-k.invariant ∙ mixed-next (link_colour c.args.links.now) c.args.before c.args.atom.links c.loop-k.k (omega (arith, c.loop-k-test.true, c.requires.few, c.requires.width))
