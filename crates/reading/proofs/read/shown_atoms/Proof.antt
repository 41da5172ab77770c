use borrow.Author.Rules.{rules}
use borrow.Author.Tests.{not-true, not-false, lt-ltb, le-ltb}
use mathlib.Core.Path.{◌≡◌, sym, ◌∙◌}
use mathlib.Core.Bool.{true, false}
use lib.Dec.{ltb}
use Rattle.sheet.specs.Kinds.{is_list}
use Rattle.reading.proofs.read.shown_atoms.Statement.{statement}
use Rattle.reading.proofs.read.shown_atoms.Tie as tie

is-list-requires : tie.Need-is_list-requires
is-list-requires c κs = search rules

returns : tie.Need-returns-then-not-is_list
returns c = let l = c in
    let e : is_list l.args.kind ≡ false = sym l.is_list.ensures ∙ not-true _ c.if-not-is_list.true-raw in
    rw e

returns-2 : tie.Need-returns-then-c-gt1
returns-2 c = let l = c in
    let a = l.args in
    let e : is_list a.kind ≡ true = sym l.is_list.ensures ∙ not-false _ c.if-not-is_list.false-raw in
    let q : ltb 1 a.c ≡ true = lt-ltb 1 a.c c.if-c-gt1.true in
    rw (e, q)

returns-3 : tie.Need-returns
returns-3 c = let l = c in
    let a = l.args in
    let e : is_list a.kind ≡ true = sym l.is_list.ensures ∙ not-false _ c.if-not-is_list.false-raw in
    let q : ltb 1 a.c ≡ false = le-ltb 1 a.c c.if-c-gt1.false in
    rw (e, q)

pub shown_atoms_spec : {M : Type 1} → statement M
shown_atoms_spec = tie.close (tie.spec is-list-requires returns returns-2 returns-3)
