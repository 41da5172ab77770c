use borrow.Author.Rules.{rules}
use Prim.Native.Nat.{ℕ, ◌-◌}
use mathlib.Core.Path.{ap, ◌∙◌}
use native.Mathlib.Omega.{arith}
use Rattle.linking.specs.Steps.{cleared}
use Rattle.linking.proofs.Arrays.{gone-fits}
use Rattle.linking.proofs.take.clear_gone.Statement.{statement}
use Rattle.linking.proofs.take.clear_gone.Tie as tie

gone-by-requires : tie.Need-gone_by-old-requires
gone-by-requires c κs = search rules

clear-requires : tie.Need-clear-requires
clear-requires c κs = omega (arith, c.gone_by-old.ensures, gone-fits c.args.letter c.args.n, c.requires.0)

clear-requires-2 : tie.Need-clear-requires-2
clear-requires-2 c κs = omega (arith, c.gone_by-old.ensures, gone-fits c.args.letter c.args.n, c.requires.1)

sub-result : tie.Need-overflow_sub-result
sub-result c = omega (arith, c.gone_by-old.ensures, gone-fits c.args.letter c.args.n)

same_length : tie.Need-shape_of-a
same_length c = search rules

same-length-2 : tie.Need-shape_of-b
same-length-2 c = search rules

returns : tie.Need-returns
returns c = let g = c.gone_by-old in
    let a = c.args in
    (ap (λ (k : ℕ). a.n - k) g.ensures, c.clear.ensures ∙ ap (λ (k : ℕ). cleared k a.a.now) g.ensures, c.clear-2.ensures ∙ ap (λ (k : ℕ). cleared k a.b.now) g.ensures)

pub clear_gone_spec : {M : Type 1} → statement M
clear_gone_spec =
    tie.close
    (tie.spec
    gone-by-requires
    clear-requires
    clear-requires-2
    sub-result
    same_length
    same-length-2
    returns)
