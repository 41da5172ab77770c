-- What is new is looked at: its atoms join, or contexts leave.
use Prim.Native.Nat.{◌<◌}
use mathlib.Core.Logic.{inl}
use native.Mathlib.Omega.{arith}
use lib.ListN.{length, length-set}
use lib.Seq.{get_or-set_same}
use Rattle.faults.specs.Grows.{growth}
use Rattle.stepping.proofs.Tables.{store-flag}
use Rattle.faults.proofs.Growing.{longer-same, grows-used, grows-unused}
use Rattle.faults.proofs.growth.with_link.Goals as goal

pub returns-then-used-y-eq1 : goal.returns-then-used-y-eq1
returns-then-used-y-eq1 c = let a = c.args in
    let g = growth a.order.now a.count a.way.now in
    let room : a.y < length a.seen.now = (let e = c.requires.4 in omega (arith, c.requires.0)) in (
      record { sized = c.requires.3; longer = longer-same g; flags-room = simp length-set c.requires.4; flags-kept = λ z e. (store-flag a.seen.now a.y room z).1 (inl e); cuts-room = c.cut_at.ensures.0 },
      get_or-set_same a.seen.now a.y 1 0 room,
      grows-used a.chains.now a.used.now a.ports.now a.y a.atoms a.contexts g a.seen.now a.cuts.now room c.cut_at.new.cuts c.if-used-y-eq1.true c.cut_at.ensures.1,
    )

pub returns : goal.returns
returns c = let a = c.args in
    let g = growth a.order.now a.count a.way.now in
    let v = c.with_atoms.ensures in
    let room : a.y < length a.seen.now = (let e = c.requires.4 in omega (arith, c.requires.0)) in (
      record { sized = v.0; longer = v.1; flags-room = simp length-set c.requires.4; flags-kept = λ z e. (store-flag a.seen.now a.y room z).1 (inl e); cuts-room = c.requires.5 },
      get_or-set_same a.seen.now a.y 1 0 room,
      grows-unused a.chains.now a.used.now a.ports.now a.y a.atoms a.contexts g a.seen.now a.cuts.now room (growth c.with_atoms.new.order c.with_atoms.result c.with_atoms.new.way) v.0 v.1 c.if-used-y-eq1.false v.2,
    )
