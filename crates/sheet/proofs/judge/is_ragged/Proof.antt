use borrow.Author.Rules.{rules}
use Rattle.sheet.proofs.read.Walk.{ragged-short, ragged-last}
use Rattle.sheet.proofs.judge.is_ragged.Statement.{statement}
use Rattle.sheet.proofs.judge.is_ragged.Tie as tie

sub-if1 : tie.Need-overflow_sub-text
sub-if1 c = search rules

returns : tie.Need-returns-then-text-at-lt-ROW
returns c = let s = c in
    ragged-short s.args.text.now s.args.at s.requires c.if-text-at-lt-ROW.true

add-result : tie.Need-overflow_add-result
add-result c = search rules

sub-result : tie.Need-overflow_sub-result
sub-result c = search rules

shared-slice-read-result : tie.Need-bounds-text-at
shared-slice-read-result c = search rules

returns-2 : tie.Need-returns
returns-2 c = let s = c in
    ragged-last s.args.text.now s.args.at s.requires c.if-text-at-lt-ROW.false

pub is_ragged_spec : {M : Type 1} → statement M
is_ragged_spec =
    tie.close (tie.spec sub-if1 returns add-result sub-result shared-slice-read-result returns-2)
