-- Invariant: of the first c contexts, links of `fresh` are on none, links of `single` on at most one.
use Rattle.deciding.specs.Several.{OnOne}
use Rattle.deciding.proofs.SeveralLaws.{OnNone}
use Rattle.deciding.proofs.several.on_one.Given as goal

abbrev pub invariant-loop-c : goal.invariant-loop-c
invariant-loop-c l = OnNone l.contexts l.c l.fresh × OnOne l.contexts l.c l.single
