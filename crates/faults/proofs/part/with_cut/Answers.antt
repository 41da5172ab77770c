-- The way, and the link at its end.
use native.Mathlib.Omega.{arith}
use Prim.Native.Nat.{◌-◌, ◌/◌}
use lib.ListN.{set}
use lib.Seq.{get_or-set_same}
use Rattle.rows.specs.Limits.{sheet_atom_limit}
use Rattle.faults.proofs.Parting.{stepped_then, step-looked}
use Rattle.faults.proofs.part.with_cut.Goals as goal

pub returns-then-ports-c-ne1 : goal.returns-then-ports-c-ne1
returns-then-ports-c-ne1 c = let a = c.args in
    let w = c.with_way in
    let m = c.member_on.ensures c.if-member_on.true in
    let room = w.ensures.flags-room in
    let y = c.wide-z.result / sheet_atom_limit - 1 in (
      stepped_then a.laid.now a.atoms a.links a.used.now a.members.now a.seen.now w.new.members w.new.seen w.new.members (set w.new.seen y 1) w.ensures (step-looked a.laid.now a.atoms a.links a.used.now w.new.members w.new.seen _ _ c.requires.1 w.ensures.members-room room m),
      λ e. (y, omega (arith, m.link-in.0, m.link-in.1), get_or-set_same w.new.seen y 1 0 (omega (arith, m.link-in.0, m.link-in.1, c.requires.1)), c.if-used-z-eq1.true, c.if-ports-c-ne1.true),
    )
