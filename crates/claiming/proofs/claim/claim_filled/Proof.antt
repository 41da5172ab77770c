-- Too few atoms, the same rows, and a placing that was found, or none.
use borrow.Author.Rules.{rules}
use mathlib.Core.Path.{ap, sym}
use mathlib.Core.Bool.{true, false}
use Rattle.claiming.specs.Claim.{placed_claim}
use Rattle.claiming.proofs.ClaimCode.{found-claim, fewer-atoms}
use Rattle.claiming.proofs.claim.claim_filled.Statement.{statement}
use Rattle.claiming.proofs.claim.claim_filled.Tie as tie

returns : tie.Need-returns-then-filled-sheet
returns c =
    let s = c in
    ap placed_claim (sym (fewer-atoms s.args.sheet s.args.filled s.requires c.if-filled-eq0.true c.if-filled-sheet.true))

identical-requires : tie.Need-identical-requires
identical-requires c κs = c.requires

returns-2 : tie.Need-returns-then-identical
returns-2 c = ap placed_claim (sym (c.identical.ensures c.if-identical.true).1)

smallest-placing-requires : tie.Need-smallest_placing-found-requires
smallest-placing-requires c κs = c.requires

returns-3 : tie.Need-returns-then-found
returns-3 c =
    let f = c in
    let a = f.args in
    found-claim a.sheet a.filled f.smallest_placing-found.result true f.smallest_placing-found.ensures c.if-found.true

returns-4 : tie.Need-returns
returns-4 c =
    let f = c in
    let a = f.args in
    found-claim a.sheet a.filled f.smallest_placing-found.result false f.smallest_placing-found.ensures c.if-found.false

pub claim_filled_spec : {M : Type 1} → statement M
claim_filled_spec = tie.close (tie.spec returns identical-requires returns-2 smallest-placing-requires returns-3 returns-4)
