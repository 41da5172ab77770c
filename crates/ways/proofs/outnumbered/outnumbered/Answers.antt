use Rattle.std.proofs.Common.{[], arith}
use Rattle.ways.proofs.Refusing.{completion-agrees}
use Rattle.ways.proofs.outnumbered.outnumbered.Goals as goal

pub returns-then-outnumbered_by : goal.returns-then-outnumbered_by
returns-then-outnumbered_by c = λ sheet figure d out e list un t a f k. c.outnumbered_by.ensures sheet figure d out c.if-outnumbered_by.true [] (omega arith) k.0
    (completion-agrees sheet figure d.ready _ list c.args.to.now c.args.flags.now c.args.taken.now un t a f k.0 k.1)
