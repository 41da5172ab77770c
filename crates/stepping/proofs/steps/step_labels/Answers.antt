use native.Mathlib.Omega.{arith}
use Rattle.stepping.proofs.Labels.{own-sound, own-bounded}
use Rattle.stepping.proofs.steps.step_labels.Goals as goal

pub loop-c-init : goal.loop-c-init
loop-c-init c = let a = c.args in
    let o = c.own_labels in (
      o.ensures.0,
      own-sound a.contexts a.count a.to.now o.new.labels o.ensures.1,
      (λ i h. absurd (omega arith)),
      own-bounded a.n c.requires.0.links-few o.new.labels o.ensures.1,
    )
