-- `row::letter_of` meets its contract: each arm gives its letter's place. Assumes nothing.
use borrow.Author.Tests.{ne_eqb}
use Rattle.rows.specs.Format.{letter_of}
use Rattle.rows.proofs.row.letter_of.Statement.{statement}
use Rattle.rows.proofs.row.letter_of.Tie as tie

returns : tie.Need-returns-in-83
unfolding letter_of
returns c = rw c.in-83.is

returns-2 : tie.Need-returns-in-66
unfolding letter_of
returns-2 c = rw c.in-66.is

returns-3 : tie.Need-returns-in-70
unfolding letter_of
returns-3 c = rw c.in-70.is

returns-4 : tie.Need-returns-in-69
unfolding letter_of
returns-4 c = rw c.in-69.is

returns-5 : tie.Need-returns-in-72
unfolding letter_of
returns-5 c = rw c.in-72.is

returns-6 : tie.Need-returns-in_default
unfolding letter_of
returns-6 c = let r = c.in_default.in_default-own.rest in
    simp (ne_eqb _ _ r.1, ne_eqb _ _ r.0.1, ne_eqb _ _ r.0.0.1, ne_eqb _ _ r.0.0.0.1, ne_eqb _ _ r.0.0.0.0.1)

pub letter_of_spec : {M : Type 1} → statement M
letter_of_spec = tie.close (tie.spec returns returns-2 returns-3 returns-4 returns-5 returns-6)
