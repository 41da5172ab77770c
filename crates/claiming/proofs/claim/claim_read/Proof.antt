-- Refusals 8 and 9, too large a filled figure, and one that is placed or not.
use mathlib.Core.Path.{◌∙◌}
use Rattle.rows.specs.Format.{context_bound}
use Rattle.filling.proofs.Loops.{exacts-none}
use Rattle.claiming.proofs.ClaimCode.{figure-counted, says-lacking, says-differing, says-many, says-wide, filled-ready, says-placed}
use Rattle.claiming.proofs.claim.claim_read.Statement.{statement}
use Rattle.claiming.proofs.claim.claim_read.Tie as tie

first-lacking-requires : tie.Need-first_lacking-clash-requires
first-lacking-requires c κs =
    let t = c in
    let i = t.requires.0 in
    figure-counted t.args.sheet t.args.figure i.0 i.1.0 i.1.1

returns : tie.Need-returns-then-clash-ne0
returns c =
    let l = c in
    let t = l in
    let a = t.args in
    λ s f I. says-lacking a.sheet a.figure a.heads a.head_count a.ports a.list.now t.requires.1 s f I l.first_lacking-clash.result l.first_lacking-clash.ensures c.if-clash-ne0.true

normal-filled-requires : tie.Need-normal_filled-filled-requires
normal-filled-requires c κs =
    let t = c in
    let i = t.requires.0 in
    ((i.1.0, i.1.1.of-figure), t.requires.1.read, exacts-none t.args.list.now context_bound)

first-differing-requires : tie.Need-first_differing-other-requires
first-differing-requires c κs =
    let n = c in
    let t = n in
    (t.requires.1.read, n.normal_filled-filled.ensures.0)

returns-2 : tie.Need-returns-then-other-ne0
returns-2 c =
    let d = c in
    let n = d in
    let e = n in
    let l = e in
    let t = l in
    let a = t.args in
    λ s f I. says-differing a.sheet a.figure a.heads a.head_count a.ports a.list.now t.requires.1 s f I l.first_lacking-clash.result l.first_lacking-clash.ensures e.if-clash-ne0.false d.first_differing-other.result d.first_differing-other.ensures c.if-other-ne0.true

returns-3 : tie.Need-returns-then-filled-gt-ATOMS
returns-3 c =
    let y = c in
    let d = y in
    let n = d in
    let e = n in
    let l = e in
    let t = l in
    let a = t.args in
    λ s f I. says-many a.sheet a.figure a.heads a.head_count a.ports a.list.now t.requires.1 s f I l.first_lacking-clash.result l.first_lacking-clash.ensures e.if-clash-ne0.false d.first_differing-other.result d.first_differing-other.ensures
    y.if-other-ne0.false n.normal_filled-filled.result n.normal_filled-filled.ensures.1 c.if-filled-gt-ATOMS.true

returns-4 : tie.Need-returns-then-filled-gt-LINKS
returns-4 c =
    let y = c in
    let d = y in
    let n = d in
    let e = n in
    let l = e in
    let t = l in
    let a = t.args in
    λ s f I. says-wide a.sheet a.figure a.heads a.head_count a.ports a.list.now t.requires.1 s f I l.first_lacking-clash.result l.first_lacking-clash.ensures e.if-clash-ne0.false d.first_differing-other.result d.first_differing-other.ensures
    y.if-other-ne0.false n.normal_filled-filled.result n.normal_filled-filled.ensures.1 c.if-filled-gt-LINKS.true

claim-filled-requires : tie.Need-claim_filled-requires
claim-filled-requires c κs =
    let m = c in
    let y = m in
    let d = y in
    let n = d in
    let e = n in
    let l = e in
    let t = l in
    let a = t.args in
    let i = t.requires.0 in
    filled-ready a.sheet a.figure a.heads a.head_count a.ports a.list.now t.requires.1 i.0 i.1.0 i.1.1 l.first_lacking-clash.result l.first_lacking-clash.ensures e.if-clash-ne0.false d.first_differing-other.result d.first_differing-other.ensures
    y.if-other-ne0.false n.normal_filled-filled.result n.normal_filled-filled.ensures.1 m.if-filled-gt-ATOMS.false c.if-filled-gt-LINKS.false

returns-5 : tie.Need-returns
returns-5 c =
    let b = c in
    let m = b in
    let y = m in
    let d = y in
    let n = d in
    let e = n in
    let l = e in
    let t = l in
    let a = t.args in
    λ s f I. c.claim_filled.ensures
    ∙ says-placed a.sheet a.figure a.heads a.head_count a.ports a.list.now t.requires.1 s f I l.first_lacking-clash.result l.first_lacking-clash.ensures e.if-clash-ne0.false d.first_differing-other.result d.first_differing-other.ensures
    y.if-other-ne0.false n.normal_filled-filled.result n.normal_filled-filled.ensures.1 m.if-filled-gt-ATOMS.false b.if-filled-gt-LINKS.false

pub claim_read_spec : {M : Type 1} → statement M
claim_read_spec =
    tie.close
    (tie.spec
    first-lacking-requires
    returns
    normal-filled-requires
    first-differing-requires
    returns-2
    returns-3
    returns-4
    claim-filled-requires
    returns-5)
