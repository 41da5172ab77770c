use Rattle.std.proofs.Common.{arith}
use Rattle.candidates.proofs.Walking.{next_below}
use Rattle.matching.specs.Search.{sheet_of, figure_of}
use Rattle.matching.proofs.SearchTurns.{nothing-begun, tries-same}
use Rattle.matching.proofs.Searching.{all-placed, all-found, walk-begun, walk-ended, walk-past, next-stands, next-fewer, try-hit, try-missed}
use Rattle.matching.proofs.search.+search.Goals as goal
use Rattle.matching.proofs.search.+search.Goals.{then-failed-t-ne1+else-r, else-failed-t-ne1}

pub returns-then-state : goal.returns-then-state
returns-then-state t c =
    let s = c.args.state in
    nothing-begun (sheet_of s c.args.laid.now) (figure_of s c.args.parts.now) c.requires.lends.ready s.chosen s.placed c.requires.within c.requires.atoms-in (c.requires.kept.none c.if-state.true) c.nothing.result c.nothing.ensures

pub leaf-requires : goal.leaf-requires
leaf-requires t c = let l = c.requires.lends in (l.ready, all-placed c.requires c.advance-k.ensures c.if-k-m.true, l.sheet-laid, l.figure-laid)

pub returns-then-k-m : goal.returns-then-k-m
returns-then-k-m t c = all-found c.requires c.advance-k.ensures c.if-k-m.true c.leaf.result c.leaf.ensures

pub loop-candidate-init : goal.loop-candidate-init
loop-candidate-init t c =
    let first = c.next_from-candidate in
    record { below = next_below _ _ _ first.result first.ensures; tries = walk-begun c.requires c.advance-k.ensures c.if-k-m.false first.result first.ensures }

pub search-r-requires : goal.search-r-requires
search-r-requires t c =
    let l = c.loop-candidate in
    let w = c.with_atom-next in (
      omega (arith, c.decreases, next-fewer c.requires c.advance-k.ensures c.if-k-m.false l.failed l.work l.candidate c.in-Some.t c.in-Some.is l.invariant.below l.invariant.tries w.result _ w.ensures),
      next-stands c.requires c.advance-k.ensures c.if-k-m.false l.failed l.work l.candidate c.in-Some.t c.in-Some.is l.invariant.below l.invariant.tries w.result _ w.ensures _ _ c.try_atom-none.ensures,
    )

pub returns-then-r : goal.returns-then-r
returns-then-r t c =
    let l = c.loop-candidate in
    let w = c.with_atom-next in
    try-hit c.requires c.advance-k.ensures c.if-k-m.false l.failed l.work l.candidate c.in-Some.t c.in-Some.is l.invariant.below l.invariant.tries w.result _ w.ensures c.search-r.result c.search-r.ensures c.if-r.true

pub loop-candidate-preserved : goal.loop-candidate-preserved
loop-candidate-preserved t c =
    let l = c.loop-candidate in
    let next = c.next_from-candidate-in-Some in
    record {
      below = next_below _ _ _ next.result next.ensures;
      tries = elim c.if-failed-t-ne1.branch [
        | then-failed-t-ne1+else-r w ↦
            let r = w.search-r in
            tries-same w.failed-is w.work-is
            (try-missed c.requires c.advance-k.ensures c.if-k-m.false l.failed l.work l.candidate c.in-Some.t c.in-Some.is l.invariant.below l.invariant.tries w.with_atom-next.result _ w.with_atom-next.ensures r.result r.ensures w.if-r.false w.excuse_failed.new.failed w.excuse_failed.ensures w.tally-work.result w.tally-work.ensures next.result next.ensures)
        | else-failed-t-ne1 w ↦
            tries-same w.failed-is w.work-is
            (walk-past c.requires c.advance-k.ensures c.if-k-m.false l.failed l.work l.candidate c.in-Some.t c.in-Some.is l.invariant.below l.invariant.tries w.if-failed-t-ne1.false next.result next.ensures)
      ];
    }

pub returns : goal.returns
returns t c =
    let l = c.loop-candidate in
    walk-ended c.requires c.advance-k.ensures c.if-k-m.false l.failed l.work l.candidate c.in_default.is l.invariant.tries c.nothing-2.result c.nothing-2.ensures
