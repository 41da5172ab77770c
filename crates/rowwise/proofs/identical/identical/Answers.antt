use borrow.Author.Rules.{rules}
use mathlib.Core.Path.{◌≡◌, sym, ◌∙◌}
use mathlib.Core.Bool.{true}
use native.Mathlib.Omega.{arith}
use Rattle.rowwise.proofs.SameNets.{identical-placed}
use Rattle.rowwise.proofs.identical.identical.Goals as goal

pub returns : goal.returns
returns c =
    let counted : c.same_counts.result ≡ true = search rules in
    let marks : c.same_marks.result ≡ true = search rules in
    let marked : c.same_marks-2.result ≡ true = search rules in
    let n = c.same_counts.ensures counted in
    λ e. identical-placed c.args.a c.args.b c.requires n.0 n.1 n.2 n.3 (sym c.same_marks.ensures ∙ marks) (sym c.same_marks-2.ensures ∙ marked)
    (λ i h. c.loop-i.invariant i (omega (arith, h, c.loop-i-test.false)))
