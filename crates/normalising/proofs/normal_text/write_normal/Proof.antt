-- `normal_text::write_normal` meets its contract: the three parts, each after the one before. Assumes nothing.
use Prim.Native.Nat.{◌+◌, ◌*◌}
use mathlib.Core.Path.{◌≡◌, ◌∙◌}
use native.Mathlib.Omega.{arith}
use Rattle.rows.specs.Format.{row_width}
use Rattle.normalising.proofs.normal_text.NormalRows.{normal-length, normal-put}
use borrow.Author.Rules.{rules}
use Rattle.normalising.proofs.normal_text.write_normal.Statement.{statement}
use Rattle.normalising.proofs.normal_text.write_normal.Tie as tie

put-atoms-requires : tie.Need-put_atoms-end-requires
put-atoms-requires c κs = search rules

put-contexts-requires : tie.Need-put_contexts-end-requires
put-contexts-requires c κs = search rules

put-marks-requires : tie.Need-put_marks-requires
put-marks-requires c κs = search rules

same_length : tie.Need-shape_of-out
same_length c = search rules

returns : tie.Need-returns
returns c = let m = c in
    let p = m in
    let a = p in
    let s = a in
    let n = s.args.normal in
    let one = a.put_atoms-end.ensures in
    let two : p.put_contexts-end.result ≡ 0 + n.atom_count * row_width + n.context_count * row_width = rw one.0 at p.put_contexts-end.ensures.0 in (
      m.put_marks.ensures.0 ∙ rw two (omega (arith, normal-length n)),
      normal-put n s.args.out.now a.put_atoms-end.new.out p.put_contexts-end.new.out m.put_marks.new.out s.requires.1 one.1
          (rw one.0 at p.put_contexts-end.ensures.1) (rw two at m.put_marks.ensures.1),
    )

pub write_normal_spec : {M : Type 1} → statement M
write_normal_spec =
    tie.close
    (tie.spec put-atoms-requires put-contexts-requires put-marks-requires same_length returns)
