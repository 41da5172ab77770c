-- Each way out gives what the definition says for it.
use borrow.Author.Rules.{rules}
use Prim.Native.Nat.{ℕ, ◌-◌}
use mathlib.Core.Path.{◌≡◌, refl, ◌∙◌, ap}
use mathlib.Core.Bool.{false}
use mathlib.Core.Logic.{⊎_elim}
use borrow.Author.Tests.{ne_eqb, lt-ltb, le-ltb}
use lib.Dec.{eqb, ltb}
use lib.ListN.{get_or}
use Rattle.rows.specs.Pick.{and}
use Rattle.linking.specs.Steps.{hint_at}
use Rattle.linking.proofs.Hints.{place-few, place-new, place-named, place_other}
use Rattle.linking.proofs.place.place_of.Statement.{statement}
use Rattle.linking.proofs.place.place_of.Tie as tie

-- the hint that is read is that of x
hint-is : (c : tie.After-wide-hint) → let a = c.args in c.wide-hint.result ≡ get_or a.hints.now (hint_at a.x) 0
hint-is c = c.wide-hint.ensures ∙ ap (λ (i : ℕ). get_or c.args.hints.now i 0) c.hint_at.ensures.1

returns : tie.Need-returns-then-links-n
returns c = let a = c.args in place-few a.links.now a.n a.x a.hints.now _ refl c.if-links-n.true

hint-at-requires : tie.Need-hint_at-requires
hint-at-requires c κs = search rules

element-copy-out-wide : tie.Need-bounds-hints-hint_at
element-copy-out-wide c = search rules

wide-requires : tie.Need-wide-hint-requires
wide-requires c κs = search rules

returns-2 : tie.Need-returns-then-hint-eq0
returns-2 c = let a = c.args in place-new a.links.now a.n a.x a.hints.now c.wide-hint.result (hint-is c.before) c.if-links-n.false c.if-hint-eq0.true

sub-p : tie.Need-overflow_sub-p
sub-p c = search rules

mul-if4 : tie.Need-offset_bounds-links-p
mul-if4 c = search rules

shared-slice-read-if4 : tie.Need-bounds-links-p
shared-slice-read-if4 c = search rules

returns-3 : tie.Need-returns-then-links-p
returns-3 c = let a = c.args in place-named a.links.now a.n a.x a.hints.now c.wide-hint.result (hint-is c.before.before.before.before) c.if-links-n.false c.if-hint-eq0.false c.if-p-n.true c.if-links-p.true

index-of-requires : tie.Need-index_of-requires
index-of-requires c κs = search rules

returns-4 : tie.Need-returns
returns-4 c = let a = c.args in
    let h = c.wide-hint.result in
    let away : and (ltb (h - 1) a.n) (eqb (get_or a.links.now (h - 1) 0) a.x) ≡ false = ⊎_elim (λ w. rw (lt-ltb (h - 1) a.n w.if-p-n.true) (ne_eqb (get_or a.links.now (h - 1) 0) a.x w.if-links-p.false)) (λ w. rw (le-ltb (h - 1) a.n w.if-p-n.false)) c.if-p-n.branch-raw in
    c.index_of.ensures ∙ place_other a.links.now a.n a.x a.hints.now h (hint-is c.before.before.before) c.if-links-n.false c.if-hint-eq0.false away

pub place_of_spec : {M : Type 1} → statement M
place_of_spec =
    tie.close
    (tie.spec
    returns
    hint-at-requires
    element-copy-out-wide
    wide-requires
    returns-2
    sub-p
    mul-if4
    shared-slice-read-if4
    returns-3
    index-of-requires
    returns-4)
