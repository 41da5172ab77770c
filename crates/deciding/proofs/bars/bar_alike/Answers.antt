use Prim.Native.Nat.{ℕ}
use mathlib.Core.Path.{◌∙◌, ap}
use mathlib.Core.List.{List}
use Rattle.candidates.specs.Words.{with_link}
use Rattle.deciding.proofs.BarLaws.{one-barred}
use Rattle.deciding.proofs.bars.bar_alike.Goals as goal

pub returns : goal.returns
returns c =
    let a = c.args in
    rw c.set_pair.ensures (one-barred a.kinds.now a.x a.y a.bars.now a.z c.if-kinds-z.false c.requires.2 c.with.result
    (c.with.ensures ∙ ap (λ (p : List ℕ). with_link p a.y) c.pair_at-pair.ensures))
