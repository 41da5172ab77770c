-- Labels that are one for all links of a context.
use Prim.Native.Nat.{ℕ, ◌-◌, ◌<◌, ◌≤◌}
use mathlib.Core.Path.{◌≡◌, sym, ◌∙◌, subst}
use mathlib.Core.List.{List}
use native.Mathlib.Omega.{arith}
use lib.ListN.{get_or, replicate}
use Rattle.hyperlmntal.specs.Link.{◌∈◌}
use Rattle.rows.specs.Limits.{sheet_link_limit}
use Rattle.rows.specs.declared.Sheet.{Sheet as NormalForm}
use Rattle.placing.specs.Net.{NetCell}
use Rattle.network.specs.NetIn.{net_in}
use Rattle.network.proofs.NetIn.{context-of}
use Rattle.candidates.specs.Kin.{RowLabels}
use Rattle.candidates.specs.PortSets.{ContextsIn, PortIn}
use Rattle.candidates.specs.declared.ports.PortSet.{PortSet}
use Rattle.candidates.proofs.PortRows.{in-port}
use Rattle.stepping.specs.Labels.{Labelled}
use Rattle.stepping.proofs.Tables.{zeros}

-- labels for links that all go to one place, and a table that begins with them
pub row-labels : (net : NormalForm) (sets : List PortSet) (rows links : ℕ) → ContextsIn net sets rows links → (labels kin : List ℕ) → Labelled sets rows (replicate sheet_link_limit 0) labels → ((x : ℕ) → x < sheet_link_limit → get_or kin x 0 ≡ get_or labels x 0)
    → RowLabels (net_in net) (λ x. get_or kin (x - 1) 0)
row-labels net sets rows links c labels kin l same row m x z hx hz =
    let t = context-of net c.fit row m in
    let i = t.0 in
    let h : i < rows = omega (arith, t.1, c.row_count) in
    let a = port x hx in
    let b = port z hz in
    let n = c.fit.class-count in
    let e = c.link-count in
    let u : x - 1 < sheet_link_limit = omega (arith, a.0, a.1, n, e) in
    let v : z - 1 < sheet_link_limit = omega (arith, b.0, b.1, n, e) in
    same (x - 1) u ∙ l.complete i h (x - 1) (z - 1) (omega (arith, u)) (omega (arith, v)) a.2 b.2 (zeros sheet_link_limit (x - 1) ∙ sym (zeros sheet_link_limit (z - 1))) ∙ sym (same (z - 1) v)
  where
    port : (y : ℕ) → y ∈ row.1 → (1 ≤ y) × (y ≤ links) × PortIn sets (context-of net c.fit row m).0 (y - 1)
    port y k =
        let t = context-of net c.fit row m in
        in-port c t.0 y (omega (arith, t.1, c.row_count)) (subst (λ (r : NetCell). y ∈ r.1) (sym t.2) k)
