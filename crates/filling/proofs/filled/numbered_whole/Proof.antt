-- The atoms and marks of the filled figure, with the numbers of their labels.
use borrow.Author.Rules.{rules}
use native.Mathlib.Omega.{arith}
use Prim.Native.Nat.{◌+◌}
use mathlib.Core.Path.{◌≡◌, refl, ap, ap₂, sym, ◌∙◌, subst}
use mathlib.Core.List.{map}
use lib.ListN.{take}
use Rattle.rows.specs.Limits.{mark_room}
use Rattle.rows.specs.Packed.{padded}
use Rattle.filling.specs.Whole.{labels_at}
use Rattle.filling.specs.Classes.{Sees, number_in, mark_labels}
use Rattle.filling.proofs.Making.{made_of}
use Rattle.filling.proofs.filled.numbered_whole.Statement.{statement}
use Rattle.filling.proofs.filled.numbered_whole.Tie as tie

slice-aggregate-numbered-atoms : tie.Need-slice_bounds-numbered_atoms-end
slice-aggregate-numbered-atoms c = search rules

numbered-atoms-requires : tie.Need-numbered_atoms-atoms-requires
numbered-atoms-requires c κs = let s = c in
    ((search rules, search rules), s.requires.0, s.requires.1)

slice-aggregate-numbered-marks : tie.Need-slice_bounds-numbered_marks-end
slice-aggregate-numbered-marks c = search rules

numbered-marks-requires : tie.Need-numbered_marks-marked-requires
numbered-marks-requires c κs = let t = c in
    let s = t in
    (t.numbered_atoms-atoms.ensures.0.room, s.requires.2, λ k. omega (arith, s.requires.3 k))

none-requires : tie.Need-none-context-requires
none-requires c κs = search rules

returns : tie.Need-returns
returns c = let k = c in
    let t = k in
    let s = t in
    let a = s.args in
    λ list own figure e f g O P. let q : labels_at a.labels.now a.m a.places ≡ mark_labels a.labels.now figure = ap₂ (labels_at a.labels.now) (sym g) (sym f) in
    made_of list figure own _ a.whole P _ t.numbered_atoms-atoms.new.known k.numbered_marks-marked.new.known t.numbered_atoms-atoms.new.n k.numbered_marks-marked.new.n
    t.numbered_atoms-atoms.ensures.0 (subst (Sees t.numbered_atoms-atoms.new.known t.numbered_atoms-atoms.new.n k.numbered_marks-marked.new.known k.numbered_marks-marked.new.n) q k.numbered_marks-marked.ensures.0) O t.numbered_atoms-atoms.ensures.1.1 _ t.numbered_atoms-atoms.ensures.1.0 refl refl (sym e)
    (k.numbered_marks-marked.ensures.1 ∙ ap (λ l. padded mark_room 0 (map (number_in (take k.numbered_marks-marked.new.n k.numbered_marks-marked.new.known)) l)) q) (sym g) refl

pub numbered_whole_spec : {M : Type 1} → statement M
numbered_whole_spec =
    tie.close
    (tie.spec
    slice-aggregate-numbered-atoms
    numbered-atoms-requires
    slice-aggregate-numbered-marks
    numbered-marks-requires
    none-requires
    returns)
