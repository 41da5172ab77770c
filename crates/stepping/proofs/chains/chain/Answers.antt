use Prim.Native.Nat.{suc, ◌+◌, ◌-◌, ◌<◌}
use mathlib.Core.Path.{◌≡◌, subst}
use native.Mathlib.Omega.{arith}
use lib.ListN.{get_or, set, length-set}
use Rattle.rows.specs.Limits.{sheet_link_limit}
use Rattle.stepping.specs.Chains.{node_of, Chained}
use Rattle.stepping.proofs.Chaining.{chained_more, row-node, chained-row}
use Rattle.stepping.proofs.chains.chain.Goals as goal

pub loop-k-preserved : goal.loop-k-preserved
loop-k-preserved c = let l = c.loop-k in
    let a = c.args in
    let h = c.loop-k-test.true in
    let r = c.requires.2 l.k h in
    let y = get_or a.links l.k 0 - 1 in
    let up : get_or a.links l.k 0 ≡ suc y = omega (arith, r.0) in
    let low : y < sheet_link_limit = omega (arith, r.0, r.1) in
    let e : node_of a.j l.k + 1 ≡ node_of a.j (l.k + 1) = omega arith in
    (simp length-set l.invariant.0, λ S i t. subst (λ m. Chained S m (set (set l.table (node_of a.j l.k) (get_or l.table y 0)) y (node_of a.j l.k))) e (chained_more S l.table (node_of a.j l.k) y l.invariant.0 (omega (arith, c.requires.0, c.requires.1)) (omega arith) low (row-node S a.j a.links a.count c.requires.1 i l.k y h up) (l.invariant.1 S i t)))

pub returns : goal.returns
returns c = let l = c.loop-k in
    let a = c.args in
    let e : l.k ≡ a.count = omega arith in
    (l.invariant.0, λ S i t. chained-row S a.j a.links a.count c.requires.1 i l.table (subst (λ m. Chained S (node_of a.j m) l.table) e (l.invariant.1 S i t)))
