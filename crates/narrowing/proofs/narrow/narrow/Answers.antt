use mathlib.Core.Path.{refl}
use Rattle.placing.proofs.FirstLaws.{both_ways}
use Rattle.narrowing.proofs.Turns.{narrows_then}
use Rattle.narrowing.proofs.narrow.narrow.Goals as goal

pub returns-then-follow : goal.returns-then-follow
returns-then-follow c =
    let s = c.args in
    let f = c.follow.new in
    record {
      narrowed = narrows_then s.kin.now s.laid.now s.n s.parts.now s.m s.atoms.now s.links.now c.loop.atoms c.loop.links f.atoms f.links c.loop.invariant (c.follow.ensures.narrowed s.kin.now);
      empty = λ e. c.follow.ensures.empty c.if-follow.true;
    }

pub returns-then-is_empty : goal.returns-then-is_empty
returns-then-is_empty c =
    let s = c.args in
    let f = c.follow.new in
    let g = narrows_then s.kin.now s.laid.now s.n s.parts.now s.m in
    record {
      narrowed = g s.atoms.now s.links.now f.atoms f.links f.atoms c.kin_turns.new.links
          (g s.atoms.now s.links.now c.loop.atoms c.loop.links f.atoms f.links c.loop.invariant (c.follow.ensures.narrowed s.kin.now))
          (c.kin_turns.ensures s.laid.now s.n s.parts.now s.m f.atoms c.requires.3);
      empty = λ e. both_ways e refl;
    }

pub loop-preserved : goal.loop-preserved
loop-preserved c =
    let s = c.args in
    let f = c.follow.new in
    let g = narrows_then s.kin.now s.laid.now s.n s.parts.now s.m in
    g s.atoms.now s.links.now f.atoms f.links f.atoms c.kin_turns.new.links
    (g s.atoms.now s.links.now c.loop.atoms c.loop.links f.atoms f.links c.loop.invariant (c.follow.ensures.narrowed s.kin.now))
    (c.kin_turns.ensures s.laid.now s.n s.parts.now s.m f.atoms c.requires.3)
