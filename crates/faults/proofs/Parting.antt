-- The laws of a small part that no context serves.
use Prim.Native.Nat.{ℕ, suc, ◌-◌, ◌≤◌, ◌<◌}
use mathlib.Core.Path.{◌≡◌, refl, sym, subst}
use mathlib.Core.Logic.{inl, ◌≢◌}
use mathlib.Core.List.Memᴰ
use mathlib.Core.List.{List, [], ◌∷◌, ◌++◌}
use native.Mathlib.Omega.{arith}
use lib.ListN.{length, get_or, set, length-set}
use Rattle.hyperlmntal.specs.Link.{◌∈◌}
use Rattle.rows.specs.Limits.{sheet_atom_limit, sheet_link_limit}
use Rattle.placing.specs.Net.{Net}
use Rattle.placing.specs.Placing.{Placing, cell_at, PortAt}
use Rattle.completing.proofs.Growing.{part-cut-off}
use Rattle.faults.specs.Grows.{Kept, Tables, Holds, RowsIn}
use Rattle.faults.specs.Parts.{HoldsSome, StandsOn, MemberOn, Stepped, Cut, CutLinks, Rows}
use Rattle.stepping.proofs.Tables.{store-flag}
use Rattle.faults.proofs.Growing.{holds-looked, holds-atom}

module _ (laid : List ℕ) (atoms links : ℕ) (used : List ℕ) where
  pub stepped_same : (members flags : List ℕ) → length members ≡ sheet_atom_limit → length flags ≡ sheet_link_limit → Stepped laid atoms links used members flags members flags
  stepped_same members flags a b = record { members-room = a; flags-room = b; kept = λ y e. e; holds = λ S F q root e rows around used-flags h. h }

  pub stepped_then : (m₀ f₀ m₁ f₁ m₂ f₂ : List ℕ) → Stepped laid atoms links used m₀ f₀ m₁ f₁ → Stepped laid atoms links used m₁ f₁ m₂ f₂ → Stepped laid atoms links used m₀ f₀ m₂ f₂
  stepped_then m₀ f₀ m₁ f₁ m₂ f₂ a b = record {
    members-room = b.members-room;
    flags-room = b.flags-room;
    kept = λ y e. b.kept y (a.kept y e);
    holds = λ S F q root e rows around used-flags h. b.holds S F q root e rows around used-flags (a.holds S F q root e rows around used-flags h);
  }

  -- Link z of member a is looked at, and atom j joins over it.
  module _ (members flags : List ℕ) (a z : ℕ) (room : links ≤ sheet_link_limit) (rm : length members ≡ sheet_atom_limit) (rf : length flags ≡ sheet_link_limit) (m : MemberOn members laid atoms links a z) where
    up : z ≡ suc (z - 1)
    up = let r : 1 ≤ z = m.link-in.0 in omega arith

    here : z - 1 < links
    here = let r : 1 ≤ z = m.link-in.0 in let k : z ≤ links = m.link-in.1 in omega arith

    -- on that link
    on : (S : Net) (i : ℕ) → z ∈ (cell_at S.atoms (suc i)).1 → suc (z - 1) ∈ (cell_at S.atoms (suc i)).1
    on S i = subst (λ (n : ℕ). n ∈ (cell_at S.atoms (suc i)).1) up

    looked : (S F : Net) (q : Placing) (root : ℕ) → RowsIn S laid atoms → (h : HoldsSome S F q root members flags) → Holds S F q root h.0 members (set flags (z - 1) 1) (h.1 ++ (suc (z - 1) ∷ []))
    looked S F q root rows h = holds-looked S F q root h.0 members flags h.1 h.2 (z - 1) (suc a) (let k = here in omega arith) (h.2.flagged a (λ e. let k = m.member in omega arith)) (on S a (m.stands S rows))

    flags-kept : Kept flags (set flags (z - 1) 1)
    flags-kept y e = (store-flag flags (z - 1) (let k = here in omega arith) y).1 (inl e)

    pub step-looked : Stepped laid atoms links used members flags members (set flags (z - 1) 1)
    step-looked = record {
      members-room = rm;
      flags-room = simp length-set rf;
      kept = flags-kept;
      holds = λ S F q root e rows around used-flags h. (h.0, h.1 ++ (suc (z - 1) ∷ []), looked S F q root rows h);
    }

    pub step-joined : (j : ℕ) → j < atoms → StandsOn laid atoms j z → get_or used (z - 1) 0 ≢ 1 → Stepped laid atoms links used members flags (set members j 1) (set flags (z - 1) 1)
    step-joined j hj s unused = record {
      members-room = simp length-set rm;
      flags-room = simp length-set rf;
      kept = flags-kept;
      holds = λ S F q root e rows around used-flags h. (
        h.0 ++ (suc j ∷ []),
        h.1 ++ (suc (z - 1) ∷ []),
        holds-atom S F q root h.0 members (set flags (z - 1) 1) (h.1 ++ (suc (z - 1) ∷ [])) (looked S F q root rows h) atoms (z - 1) j 1 hj around
            (Memᴰ.append_right h.1 (Memᴰ.head refl)) (λ u. unused ((used-flags (z - 1) (let k = here in omega arith)).1 u)) (on S j (s S rows)),
      );
    }

-- A context stays cut.
pub cut-kept : (flags now used ports : List ℕ) (links c : ℕ) → Kept flags now → Cut flags used ports links c → Cut now used ports links c
cut-kept flags now used ports links c k w = (w.0, w.1, k w.0 w.2, w.3, w.4)

-- Each context is cut.
pub part-cuts : (S F : Net) (q : Placing) (chains used ports : List ℕ) (atoms contexts root links : ℕ) (members flags : List ℕ) → S.links ≡ links → Tables S F q chains used ports atoms contexts → Rows F contexts
    → HoldsSome S F q root members flags → ((c : ℕ) → c < contexts → Cut flags used ports links c) → CutLinks S F q flags
part-cuts S F q chains used ports atoms contexts root links members flags e t rows h cut = (
  h.0,
  h.1,
  part-cut-off S F q root h.0 h.1 h.2.connected (λ row m s.
      let c = rows row m in
      let k = cut c.0 c.1 in
      let l : k.0 < S.links = omega (arith, k.1) in
      let port = s (suc k.0) (h.2.flagged-seen k.0 k.2) ((t.used-flag k.0 l).0 k.3) in
      k.4 ((t.port-flag c.0 k.0 c.1 l).1 (subst (λ (n : ℕ). PortAt S F q n (suc k.0)) (sym c.2) port))),
  h.2.looked,
)
