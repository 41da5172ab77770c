-- The class at the link's place.
use borrow.Author.Rules.{rules}
use Prim.Native.Nat.{◌≤◌}
use mathlib.Core.Path.{◌∙◌}
use native.Mathlib.Omega.{arith}
use Rattle.linking.proofs.Hints.{place-within, place_found}
use Rattle.numbering.proofs.labels.label_of.Statement.{statement}
use Rattle.numbering.proofs.labels.label_of.Tie as tie

within : (c : tie.After-place_of-i) → c.place_of-i.result ≤ c.args.n
within c = let a = c.args in omega (arith, c.place_of-i.ensures, place-within a.links.now a.n a.x a.hints.now)

place-of-requires : tie.Need-place_of-i-requires
place-of-requires c κs = search rules

mul-result : tie.Need-offset_bounds-classes-i
mul-result c = search (rules, within c)

shared-slice-read-result : tie.Need-bounds-classes-i
shared-slice-read-result c = search (rules, within c.before)

cast-result : tie.Need-overflow_cast-result
cast-result c = let s = c in search (rules, s.requires.2 c.place_of-i.result)

returns : tie.Need-returns
returns c = let s = c in let a = s.args in
    rw (c.place_of-i.ensures ∙ place_found a.links.now a.n a.x a.hints.now s.requires.0 s.requires.3 s.requires.4)

pub label_of_spec : {M : Type 1} → statement M
label_of_spec =
    tie.close
    (tie.spec place-of-requires mul-result shared-slice-read-result cast-result returns)
