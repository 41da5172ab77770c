-- Links with the same number are on the same contexts.
use Prim.Native.Nat.{ℕ, suc, ◌-◌, ◌≤◌, ◌<◌}
use mathlib.Core.Path.{◌≡◌, sym, ◌∙◌, ap, subst}
use mathlib.Core.List.{List}
use native.Mathlib.Omega.{arith}
use lib.ListN.{length, get_or, replicate, length-replicate}
use Rattle.hyperlmntal.specs.Link.{◌∈◌}
use Rattle.rows.specs.Limits.{sheet_link_limit}
use Rattle.rows.proofs.Padding.{get_d-filled}
use Rattle.rows.specs.declared.Sheet as form
use Rattle.placing.specs.Net.{NetCell}
use Rattle.network.specs.NetIn.{context_in, context_at, Used}
use Rattle.network.proofs.NetIn.{context-of}
use Rattle.candidates.specs.PortSets.{PortIn, ContextsIn}
use Rattle.candidates.specs.declared.ports.PortSet.{PortSet}
use Rattle.candidates.proofs.Halves.{in_pair}
use Rattle.candidates.proofs.PortRows.{port-in, in-port}
use Rattle.deciding.specs.Links.{Places}
use Rattle.deciding.specs.Kinds.{doubled_by, KindsTo, KindsIn}

-- numbers that are doubled in place: those before x are done
pub record Doubling (l flags : List ℕ) (x : ℕ) (r : List ℕ) : Type 0 where
  pub room : length r ≡ sheet_link_limit
  pub done : (z : ℕ) → z < x → get_or r z 0 ≡ doubled_by l flags z
  pub rest : (z : ℕ) → x ≤ z → get_or r z 0 ≡ get_or l z 0

-- the links of a context that are used
pub places-of : (n count : ℕ) (links : List ℕ) → n ≤ sheet_link_limit → Used n count links → Places count links
places-of n count links few u = record { few = u.few; numbered = λ k h. let r = u.numbered k h in (r.0, omega (arith, r.1)) }

module _ (sets : List PortSet) where
  pub kinds-start : (l : List ℕ) → l ≡ replicate sheet_link_limit 0 → KindsTo sets 0 l
  kinds-start l e = record {
    room = ap length e ∙ length-replicate {A = ℕ} sheet_link_limit 0;
    small = λ x h. omega (arith, ap (λ (k : List ℕ). get_or k x 0) e, get_d-filled {A = ℕ} 0 sheet_link_limit x);
    same = λ x z i h k f u. absurd (omega arith);
  }

pub kinds-end : {figure : form.Sheet} {sets : List PortSet} {rows links : ℕ} → ContextsIn figure sets rows links → (l : List ℕ) → KindsTo sets rows l → KindsIn figure l
kinds-end {figure} {sets} {rows} o l k = record { room = k.room; same = λ x z h u e row m. (one x z h u e row (context-of figure o.fit row m), one z x u h (sym e) row (context-of figure o.fit row m)) }
  where
    one : (x z : ℕ) → x < sheet_link_limit → z < sheet_link_limit → get_or l x 0 ≡ get_or l z 0 → (row : NetCell) → (i : ℕ) × (i < figure.context_count) × (context_in (context_at figure i) ≡ row) → suc x ∈ row.1 → suc z ∈ row.1
    one x z h u e row (i, w, f) m =
        let v : i < rows = omega (arith, w, o.row_count) in
        let p = in-port o i (suc x) v (subst (λ (c : NetCell). suc x ∈ c.1) (sym f) m) in
        let q : suc x - 1 ≡ x = omega arith in
        subst (λ (c : NetCell). suc z ∈ c.1) f (port-in o i z v (in_pair u) (k.same x z i h u e v (subst (PortIn sets i) q p.2)))
