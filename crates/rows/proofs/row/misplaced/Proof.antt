-- `row::misplaced` meets its contract: its tests are those of `misplaced_in`, in the same order. Assumes nothing.
use borrow.Author.Tests.{eq-eqb, ne_eqb, lt-ltb, le-ltb}
use Rattle.rows.specs.Row.{misplaced_in}
use Rattle.rows.proofs.Bools.{not-not}
use Rattle.rows.proofs.row.misplaced.Statement.{statement}
use Rattle.rows.proofs.row.misplaced.Tie as tie

returns : tie.Need-returns-then-b-eq32
unfolding misplaced_in
returns c = simp (eq-eqb _ _ c.if-b-eq32.true)

returns-2 : tie.Need-returns-then-b-lt48
unfolding misplaced_in
returns-2 c = simp (ne_eqb _ _ c.before.if-b-eq32.false, lt-ltb _ _ c.if-b-lt48.true)

returns-3 : tie.Need-returns-then-b-gt57
unfolding misplaced_in
returns-3 c = simp (ne_eqb _ _ c.before.before.if-b-eq32.false, le-ltb _ _ c.before.if-b-lt48.false, lt-ltb _ _ c.if-b-gt57.true)

returns-4 : tie.Need-returns-then-b-ne48
unfolding misplaced_in
returns-4 c = simp (ne_eqb _ _ c.before.before.before.if-b-eq32.false, le-ltb _ _ c.before.before.if-b-lt48.false, le-ltb _ _ c.before.if-b-gt57.false, ne_eqb _ _ c.if-b-ne48.true)

returns-5 : tie.Need-returns-then-filled
unfolding misplaced_in
returns-5 c = let t = c.before in
    simp (ne_eqb _ _ t.before.before.before.if-b-eq32.false, le-ltb _ _ t.before.before.if-b-lt48.false, le-ltb _ _ t.before.if-b-gt57.false, eq-eqb _ _ t.if-b-ne48.false, c.if-filled.true)

returns-6 : tie.Need-returns
unfolding misplaced_in
returns-6 c = let t = c.before in
    simp (ne_eqb _ _ t.before.before.before.if-b-eq32.false, le-ltb _ _ t.before.before.if-b-lt48.false, le-ltb _ _ t.before.if-b-gt57.false, eq-eqb _ _ t.if-b-ne48.false, c.if-filled.false, not-not)

pub misplaced_spec : {M : Type 1} → statement M
misplaced_spec = tie.close (tie.spec returns returns-2 returns-3 returns-4 returns-5 returns-6)
