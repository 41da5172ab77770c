-- Refusals 8 and 9, too large a result, and one that is written.
use borrow.Author.Rules.{rules}
use native.Mathlib.Omega.{arith}
use mathlib.Core.Path.{refl, sym, ◌∙◌, subst}
use Rattle.rows.specs.Format.{context_bound}
use Rattle.sheet.specs.declared.kind.Kind.TheVariants.{Figure}
use Rattle.filling.specs.Fill.{figure_held}
use Rattle.filling.specs.Parts.{Low}
use Rattle.filling.proofs.Parts.{figure-within, figure-agrees, normal-low, low-counted}
use Rattle.filling.proofs.Loops.{exacts-none}
use Rattle.filling.proofs.Says.{says-lacking, says-differing, says-many, says-wide, says-writable, says-written, says-slip}
use Rattle.filling.proofs.fill.fill_read.Statement.{statement}
use Rattle.filling.proofs.fill.fill_read.Tie as tie

first-lacking-requires : tie.Need-first_lacking-lacking-requires
first-lacking-requires c κs = let s = c in
    let T = s.requires.0.0.0 in
    low-counted s.args.figure (subst Low (sym s.requires.0.0.1) (normal-low Figure (figure_held T) (figure-within T) (figure-agrees T)))

returns : tie.Need-returns-then-lacking-ne0
returns c = let f = c in
    let s = f in
    (λ T q. says-lacking s.args.figure s.args.heads s.args.head_count s.args.ports s.args.list.now s.requires.0.1 f.first_lacking-lacking.result f.first_lacking-lacking.ensures T q c.if-lacking-ne0.true, λ T q. refl)

normal-filled-requires : tie.Need-normal_filled-normal-requires
normal-filled-requires c κs = let s = c in
    (s.requires.0.0, s.requires.0.1.read, exacts-none s.args.list.now context_bound)

first-differing-requires : tie.Need-first_differing-other-requires
first-differing-requires c κs = let n = c in
    let s = n in
    (s.requires.0.1.read, n.normal_filled-normal.ensures.0)

returns-2 : tie.Need-returns-then-other-ne0
returns-2 c = let d = c in
    let n = d in
    let e = n in
    let f = e in
    let s = f in
    (λ T q. says-differing s.args.figure s.args.heads s.args.head_count s.args.ports s.args.list.now s.requires.0.1 f.first_lacking-lacking.result f.first_lacking-lacking.ensures T q e.if-lacking-ne0.false d.first_differing-other.result d.first_differing-other.ensures c.if-other-ne0.true, λ T q. refl)

returns-3 : tie.Need-returns-then-normal-gt-ATOMS
returns-3 c = let y = c in
    let d = y in
    let n = d in
    let e = n in
    let f = e in
    let s = f in
    (λ T q. says-many s.args.figure s.args.heads s.args.head_count s.args.ports s.args.list.now s.requires.0.1 f.first_lacking-lacking.result f.first_lacking-lacking.ensures T q e.if-lacking-ne0.false d.first_differing-other.result d.first_differing-other.ensures y.if-other-ne0.false n.normal_filled-normal.result n.normal_filled-normal.ensures.1 c.if-normal-gt-ATOMS.true, λ T q. refl)

returns-4 : tie.Need-returns-then-normal-gt-LINKS
returns-4 c = let y = c in
    let d = y in
    let n = d in
    let e = n in
    let f = e in
    let s = f in
    (λ T q. says-wide s.args.figure s.args.heads s.args.head_count s.args.ports s.args.list.now s.requires.0.1 f.first_lacking-lacking.result f.first_lacking-lacking.ensures T q e.if-lacking-ne0.false d.first_differing-other.result d.first_differing-other.ensures y.if-other-ne0.false n.normal_filled-normal.result n.normal_filled-normal.ensures.1 c.if-normal-gt-LINKS.true, λ T q. refl)

write-normal-requires : tie.Need-write_normal-bytes-requires
write-normal-requires c κs = let z = c in
    let m = z in
    let y = m in
    let d = y in
    let n = d in
    let e = n in
    let f = e in
    let s = f in
    let T = s.requires.0.0.0 in
    let q = s.requires.0.0.1 in
    let w = says-writable s.args.figure s.args.heads s.args.head_count s.args.ports s.args.list.now s.requires.0.1 f.first_lacking-lacking.result f.first_lacking-lacking.ensures T q e.if-lacking-ne0.false d.first_differing-other.result d.first_differing-other.ensures y.if-other-ne0.false n.normal_filled-normal.result n.normal_filled-normal.ensures.1 m.if-normal-gt-ATOMS.false z.if-normal-gt-LINKS.false in
    (w.0, omega (arith, w.1, s.requires.1))

same_length : tie.Need-shape_of-out
same_length c = search rules

returns-5 : tie.Need-returns
returns-5 c = let w = c in
    let z = w in
    let m = z in
    let y = m in
    let d = y in
    let n = d in
    let e = n in
    let f = e in
    let s = f in (
      λ T q. says-written s.args.figure s.args.heads s.args.head_count s.args.ports s.args.list.now s.requires.0.1 f.first_lacking-lacking.result f.first_lacking-lacking.ensures T q e.if-lacking-ne0.false d.first_differing-other.result d.first_differing-other.ensures y.if-other-ne0.false n.normal_filled-normal.result n.normal_filled-normal.ensures.1 m.if-normal-gt-ATOMS.false z.if-normal-gt-LINKS.false w.write_normal-bytes.result w.write_normal-bytes.ensures.0,
      λ T q. w.write_normal-bytes.ensures.1 ∙ says-slip s.args.figure s.args.heads s.args.head_count s.args.ports s.args.list.now s.requires.0.1 f.first_lacking-lacking.result f.first_lacking-lacking.ensures T q e.if-lacking-ne0.false d.first_differing-other.result d.first_differing-other.ensures y.if-other-ne0.false n.normal_filled-normal.result n.normal_filled-normal.ensures.1 m.if-normal-gt-ATOMS.false z.if-normal-gt-LINKS.false w.write_normal-bytes.result w.write_normal-bytes.ensures.0 s.args.out.now,
    )

pub fill_read_spec : {M : Type 1} → statement M
fill_read_spec =
    tie.close
    (tie.spec
    first-lacking-requires
    returns
    normal-filled-requires
    first-differing-requires
    returns-2
    returns-3
    returns-4
    write-normal-requires
    same_length
    returns-5)
