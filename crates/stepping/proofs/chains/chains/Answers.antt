use Prim.Native.Nat.{ℕ, suc, ◌+◌, ◌<◌}
use mathlib.Core.Path.{◌≡◌, sym, ◌∙◌, ap, subst}
use native.Mathlib.Omega.{arith}
use lib.ListN.{length, length-replicate}
use Rattle.rows.specs.declared.Atom.{Atom}
use Rattle.network.specs.NetIn.{net_in}
use Rattle.stepping.specs.Chains.{node_of, Chained, RowIn, node_count}
use Rattle.stepping.proofs.Chaining.{chained-start, laid_in}
use Rattle.stepping.proofs.chains.chains.Goals as goal

pub loop-j-init : goal.loop-j-init
loop-j-init c = (ap length c.requires.1 ∙ length-replicate {A = ℕ} node_count 0, λ sheet o. subst (Chained (net_in sheet) (node_of 0 0)) (sym c.requires.1) (chained-start (net_in sheet)))

pub loop-j-preserved : goal.loop-j-preserved
loop-j-preserved c = let l = c.loop-j in
    let h : l.j < c.args.atoms = c.loop-j-test.true in
    let e : suc l.j ≡ l.j + 1 = omega arith in (
      c.chain.ensures.0,
      λ sheet o. subst (λ m. Chained (net_in sheet) (node_of m 0) c.chain.new.table) e (c.chain.ensures.1 (net_in sheet)
          (subst (λ (r : Atom). RowIn (net_in sheet) l.j r.links r.count) (sym c.laid_atom-a.ensures) (laid_in sheet c.args.laid.now c.args.atoms o l.j h)) (l.invariant.1 sheet o)),
    )
