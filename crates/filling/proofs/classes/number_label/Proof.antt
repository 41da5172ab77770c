-- A label that is new comes last, where there is room; its number is the one that it keeps.
use borrow.Author.Rules.{rules}
use native.Mathlib.Omega.{arith}
use mathlib.Core.Path.{refl, sym, ◌∙◌, ap}
use mathlib.Core.Logic.{⊎_elim}
use mathlib.Core.List.{[], ◌∷◌}
use lib.ListN.{length, length-set}
use Rattle.rows.proofs.Lists.{index_below}
use Rattle.filling.specs.Classes.{Sees}
use Rattle.filling.proofs.Loops.{seen-new, seen-full, seen-old, seen-number}
use Rattle.filling.proofs.classes.number_label.Statement.{statement}
use Rattle.filling.proofs.classes.number_label.Tie as tie
use Rattle.filling.proofs.classes.number_label.Reads as reads
use Rattle.filling.proofs.classes.number_label.Lts as lts
use Rattle.linking.proofs.take.index_of.Reads as index-of-reads

index-of-requires : tie.Need-index_of-i-requires
index-of-requires c κs = search rules

mul-known : tie.Need-offset_bounds-known-count
mul-known c = search rules

slice-write-known : tie.Need-bounds-known-count
slice-write-known c = search rules

add-n : tie.Need-overflow_add-n
add-n c = search rules

cast-result : tie.Need-overflow_cast-result
cast-result c = let s = c in
    omega (arith, c.index_of-i.ensures, index_below s.args.label s.args.n.now s.args.known.now, s.requires.0)

add-result : tie.Need-overflow_add-result
add-result c = let s = c in
    omega (arith, c.index_of-i.ensures, index_below s.args.label s.args.n.now s.args.known.now, s.requires.0)

same_length : tie.Need-shape_of-known
same_length c = ⊎_elim (λ w. ap length w.known-is ∙ simp length-set refl) (λ w. ⊎_elim (λ v. ap length v.known-is) (λ v. ap length v.known-is) w) c.if-i-count.branch-raw

returns : tie.Need-returns
returns c = let s = c in
    let i = c.index_of-i in
    let a = s.args in
    let l = a.known.now in
    let n = a.n.now in
    let S : Sees l n c.if-i-count.known c.if-i-count.n (a.label ∷ []) = ⊎_elim
    (λ w. seen-new l n a.label s.requires.1 s.requires.0 (sym i.ensures ∙ w.if-i-count.true) w.if-count-lt-KNOWN.true c.if-i-count.known c.if-i-count.n w.known-is w.n-is)
    (λ w. ⊎_elim
    (λ v. seen-full l n a.label s.requires.1 s.requires.0 (sym i.ensures ∙ v.if-i-count.true) v.if-count-lt-KNOWN.false c.if-i-count.known c.if-i-count.n v.known-is v.n-is)
    (λ v. seen-old l n a.label s.requires.1 s.requires.0 (λ q. v.if-i-count.false (i.ensures ∙ q)) c.if-i-count.known c.if-i-count.n v.known-is v.n-is) w)
    c.if-i-count.branch-raw in
    (S, seen-number l n a.label s.requires.1 s.requires.0 c.if-i-count.known c.if-i-count.n i.result S i.ensures)

pub number_label_spec : {M : Type 1} → statement M
number_label_spec =
    tie.close
    (tie.spec
    index-of-requires
    mul-known
    slice-write-known
    add-n
    cast-result
    add-result
    same_length
    returns)
