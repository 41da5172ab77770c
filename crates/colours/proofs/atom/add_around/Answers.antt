use Rattle.std.proofs.Common.{◌≡◌, ℕ, ◌+◌, ◌-◌, ◌%◌, get_or, ap, ◌∙◌, arith, length-set}
use Rattle.rows.specs.Limits.{sheet_link_limit}
use Rattle.colours.specs.Colours.{places_at}
use Rattle.colours.specs.Mixed.{word_size, mixing}
use Rattle.colours.proofs.SumLaws.{around-next}
use Rattle.colours.proofs.atom.add_around.Goals as goal

pub loop-k-init : goal.loop-k-init
unfolding places_at
loop-k-init c = (c.requires.1, λ sums h x b. h x b ∙ ap (λ (z : ℕ). z % word_size) (let e : sums x ≡ sums x + 0 = omega arith in e))

pub loop-k-preserved : goal.loop-k-preserved
loop-k-preserved c = let links = c.args.atom.links in
    let more = c.mix-more in (
      simp length-set c.loop-k.invariant.0,
      λ sums h. around-next word_size sums (mixing.at_place c.args.colour) c.loop-k.around links sheet_link_limit c.loop-k.k c.wrapping_add_u64.result c.loop-k.invariant.0 (omega (arith, c.loop-k-test.true, c.requires.0.few, c.requires.0.width)) (c.requires.0.numbered c.loop-k.k c.loop-k-test.true) (c.loop-k.invariant.1 sums h)
          (c.wrapping_add_u64.ensures.value ∙ ap (λ (z : ℕ). (get_or c.loop-k.around (get_or links c.loop-k.k 0 - 1) 0 + z) % word_size) more.ensures),
    )
