-- The classes of what is shown are numbered in order, so each has the number of its class.
use Prim.Native.Nat.{◌+◌}
use mathlib.Core.Path.{ap, ◌∙◌}
use native.Mathlib.Omega.{arith}
use borrow.Author.Rules.{rules}
use lib.ListN.{length}
use Rattle.rows.specs.Limits.{mark_room}
use Rattle.numbering.specs.Numbering.{numbering}
use Rattle.numbering.proofs.Carrying.{sorted-width}
use Rattle.reading.specs.Made.{arrays}
use Rattle.reading.proofs.normal.NormalMade.{normal-steps}
use Rattle.reading.proofs.normal.normal_from.Statement.{statement}
use Rattle.reading.proofs.normal.normal_from.Tie as tie

numbered-atoms-requires : tie.Need-numbered_atoms-atoms-requires
numbered-atoms-requires c κs =
    let s = c in
    let n = s.requires.0 in
    let w = s.requires.1 in
    let i = s.requires.2 in
    (((omega (arith, w.0, n.room.links), omega (arith, w.1, n.room.links), n.labels, s.requires.4, s.requires.5), omega (arith, i, n.room.atoms), omega (arith, i, n.room.atoms)), n.atom_links)

numbered-contexts-requires : tie.Need-numbered_contexts-contexts-requires
numbered-contexts-requires c κs =
    let s = c in
    let p = c.numbered_atoms-atoms in
    let n = s.requires.0 in
    let w = s.requires.1 in
    let i = s.requires.2 in
    let k = s.requires.3 in
    (((omega (arith, w.0, n.room.links), omega (arith, w.1, n.room.links), n.labels, s.requires.4, s.requires.5), omega (arith, k, n.room.contexts), omega (arith, i, k, p.ensures.1.0, n.room.atoms, n.room.contexts)), n.context_links)

ascending-marks-requires : tie.Need-ascending_marks-sorted-requires
ascending-marks-requires c κs = search rules

slice-aggregate-numbered-marks : tie.Need-slice_bounds-numbered_marks-end
slice-aggregate-numbered-marks c = search rules

numbered-marks-requires : tie.Need-numbered_marks-numbered-requires
numbered-marks-requires c κs =
    let s = c in
    let p = c.numbered_atoms-atoms in
    let q = c.numbered_contexts-contexts in
    let m = c.ascending_marks-sorted in
    let n = s.requires.0 in
    let v = s.requires.1 in
    let i = s.requires.2 in
    let k = s.requires.3 in
    let w = ap length m.ensures ∙ sorted-width mark_room s.args.m s.args.marks.now (omega (arith, n.room.marks)) in (
      (omega (arith, v.2, n.room.marks), omega (arith, v.3, n.room.marks), omega (arith, v.1), n.room.places, n.labels),
      n.room.marks,
      omega (arith, w, n.room.marks),
      omega (arith, i, k, p.ensures.1.0, q.ensures.1.0, n.room.atoms, n.room.contexts, n.room.marks),
    )

returns : tie.Need-returns
returns c =
    let a = c.args in
    let p = c.numbered_atoms-atoms in
    let q = c.numbered_contexts-contexts in
    let m = c.ascending_marks-sorted in
    let r = c.numbered_marks-numbered in
    normal-steps a.some a.shown (arrays a.atoms a.a a.contexts a.c a.links.now a.classes.now a.n a.marks.now a.marked.now a.m)
    (numbering p.new.numbers p.new.count) (numbering q.new.numbers q.new.count) (numbering r.new.numbers r.new.count) p.result q.result m.result r.result
    p.ensures.0 p.ensures.1.1 q.ensures.0 q.ensures.1.1 m.ensures r.ensures.0 r.ensures.1

pub normal_from_spec : {M : Type 1} → statement M
normal_from_spec =
    tie.close
    (tie.spec
    numbered-atoms-requires
    numbered-contexts-requires
    ascending-marks-requires
    slice-aggregate-numbered-marks
    numbered-marks-requires
    returns)
