-- The links that contexts have are not closed.
use Prim.Native.Nat.{ℕ, ◌+◌, ◌-◌, ◌<◌}
use mathlib.Core.Path.{◌≡◌, sym, subst}
use mathlib.Core.List.{List}
use native.Mathlib.Omega.{arith}
use lib.ListN.{get_or}
use Rattle.hyperlmntal.specs.Link.{◌∈◌}
use Rattle.rows.specs.declared.Sheet.{Sheet as NormalForm}
use Rattle.placing.specs.Net.{NetCell, cell_links}
use Rattle.placing.proofs.Standing.{of-cells}
use Rattle.network.specs.NetIn.{net_in}
use Rattle.network.proofs.NetIn.{context-of}
use Rattle.candidates.specs.PortSets.{ContextsIn}
use Rattle.candidates.specs.declared.ports.PortSet.{PortSet}
use Rattle.candidates.proofs.PortRows.{in-port}
use Rattle.starting.specs.Steps.{PortsCleared}

pub ports-all : {net : NormalForm} {sets : List PortSet} {rows links : ℕ} → ContextsIn net sets rows links → (a : List ℕ) → PortsCleared sets rows a → (x : ℕ) → (x + 1) ∈ cell_links (net_in net).contexts → get_or a x 0 ≡ 0
ports-all {net} {rows = rows} o a f x m =
    let w = of-cells (net_in net).contexts (x + 1) m in
    let c = context-of net o.fit w.0 w.1 in
    let h : c.0 < rows = omega (arith, c.1, o.row_count) in
    let p = in-port o c.0 (x + 1) h (subst (λ (r : NetCell). (x + 1) ∈ r.1) (sym c.2) w.2) in
    let e : x + 1 - 1 ≡ x = omega arith in
    subst (λ (z : ℕ). get_or a z 0 ≡ 0) e (f c.0 h (x + 1 - 1) (omega (arith, p.1, o.fit.class-count, o.link-count)) p.2)
