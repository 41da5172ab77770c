-- A row with one place, a row on one half, a breaking row.
use Rattle.std.proofs.Common.{arith}
use Rattle.ways.proofs.Guarding.{guards-taken, guards-half, guards-breaking}
use Rattle.ways.proofs.guarded.guard_row.Goals as goal

pub bounds-taken-t : goal.bounds-taken-t
bounds-taken-t c = let only = (c.forced.ensures c.in-Some.t).0 c.in-Some.is in omega (arith, only.0, c.requires.2)

pub returns-in-Some : goal.returns-in-Some
returns-in-Some c = let a = c.args in
    let only = (c.forced.ensures c.in-Some.t).0 c.in-Some.is in
    (let h = c.requires.3 in omega arith, guards-taken a.parts.now a.standing.now a.atoms.now a.n a.side a.row a.taken.now a.breaking c.requires.4 c.in-Some.t (omega (arith, only.0, c.requires.2)) only)

pub returns-then-on_one_half : goal.returns-then-on_one_half
returns-then-on_one_half c = let a = c.args in
    (let h = c.requires.3 in omega arith, guards-half a.parts.now a.standing.now a.atoms.now a.n a.side a.row a.taken.now a.breaking c.requires.4 (c.on_one_half.ensures c.if-on_one_half.true))

pub returns : goal.returns
returns c = let a = c.args in
    let g = c.guard.ensures in
    (let h = c.requires.3 in omega arith, guards-breaking a.parts.now a.standing.now a.atoms.now a.n a.side a.row a.taken.now a.breaking c.requires.4 _ g.0 g.1 g.2)
