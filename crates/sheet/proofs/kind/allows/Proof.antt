use borrow.Author.Rules.{rules}
use Rattle.sheet.proofs.kind.KindLaws.{no-letter}
use Rattle.sheet.proofs.kind.allows.Statement.{statement}
use Rattle.sheet.proofs.kind.allows.Tie as tie

returns : tie.Need-returns-then-letter-ge-NO_LETTER
returns c = let a = c.args in
    no-letter a.kind a.letter c.if-letter-ge-NO_LETTER.true

limits-of-requires : tie.Need-limits_of-limits-requires
limits-of-requires c κs = search rules

array-read-result : tie.Need-bounds-letters-letter
array-read-result c = search rules

returns-2 : tie.Need-returns
returns-2 c = rw c.limits_of-limits.ensures

pub allows_spec : {M : Type 1} → statement M
allows_spec = tie.close (tie.spec returns limits-of-requires array-read-result returns-2)
