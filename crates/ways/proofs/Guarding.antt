-- The sheet atoms that figure atoms take or may take, row by row.
use Rattle.std.proofs.Common.{◌≡◌, ℕ, suc, ◌+◌, ◌<◌, ◌≤◌, List, ◌∷◌, length, get_or, set, sym, refl, ap, ◌∙◌, subst, inl, inr, arith, length-set, get_or-set_other, get_or-set_same}
use mathlib.Core.List.Memᴰ
use native.Mathlib.Decide.{ℕ_discrete}
use Rattle.hyperlmntal.specs.Link.{◌∈◌}
use Rattle.rows.specs.Limits.{sheet_atom_limit}
use Rattle.candidates.specs.Forced.{Only}
use Rattle.ways.specs.Nodes.{RowOnOneHalf, Guarded, StaysGuarded, GuardedTo, Guards, GuardsTo, Shut}

-- A flag is stored, and what was taken stays so.
pub stays-stored : (was now : List ℕ) (t v : ℕ) → t < length now → (get_or now t 0 ≡ 1 → v ≡ 1) → Guarded v → StaysGuarded was now → StaysGuarded was (set now t v)
stays-stored was now t v h one g s u = go (ℕ_discrete u t)
  where
    go : Dec (u ≡ t) → (get_or was u 0 ≡ 1 → get_or (set now t v) u 0 ≡ 1) × (Guarded (get_or was u 0) → Guarded (get_or (set now t v) u 0))
    go (yes e) = let q : get_or (set now t v) u 0 ≡ v = ap (λ (i : ℕ). get_or (set now t v) i 0) e ∙ get_or-set_same now t v 0 h in
        (λ w. q ∙ one (ap (λ (i : ℕ). get_or now i 0) (sym e) ∙ (s u).0 w), λ w. subst Guarded (sym q) g)
    go (no d) = (λ w. get_or-set_other now t u v 0 d ∙ (s u).0 w, λ w. subst Guarded (sym (get_or-set_other now t u v 0 d)) ((s u).1 w))

pub stays_same : (was : List ℕ) → StaysGuarded was was
stays_same was t = (λ e. e, λ g. g)

module _ (parts words atoms : List ℕ) (n side : ℕ) where
  guards-kept : (taken now breaking more : List ℕ) (i : ℕ) → StaysGuarded taken now → (suc i ∈ breaking → suc i ∈ more) → Guards parts words atoms n side taken breaking i → Guards parts words atoms n side now more i
  guards-kept taken now breaking more i s k (inl t) = inl (t.0, t.1, (s t.0).0 t.2)
  guards-kept taken now breaking more i s k (inr (inl t)) = inr (inl t)
  guards-kept taken now breaking more i s k (inr (inr t)) = inr (inr (k t.0, λ u h m. (s u).1 (t.1 u h m)))

  module _ (c : ℕ) (taken : List ℕ) (r : ℕ) (g : GuardsTo parts words atoms n side c taken r) where
    guards_more : (now more : List ℕ) (m : ℕ) → length now ≡ sheet_atom_limit → length more ≡ m → StaysGuarded taken now → ((i : ℕ) → suc i ∈ g.breaking → suc i ∈ more) → Guards parts words atoms n side now more c
        → GuardsTo parts words atoms n side (c + 1) now m
    guards_more now more m room number s k here = record { room = room; breaking = more; number = number; each = each }
      where
        each : (i : ℕ) → i < c + 1 → Guards parts words atoms n side now more i
        each i h = go (ℕ_discrete i c)
          where
            go : Dec (i ≡ c) → Guards parts words atoms n side now more i
            go (yes e) = subst (Guards parts words atoms n side now more) (sym e) here
            go (no d) = guards-kept taken now g.breaking more i s (k i) (g.each i (omega arith))

    -- A row with one place.
    pub guards-taken : (t : ℕ) → t < sheet_atom_limit → Only atoms c n t → GuardsTo parts words atoms n side (c + 1) (set taken t 1) r
    guards-taken t h o = guards_more (set taken t 1) g.breaking r (simp length-set g.room) g.number (stays-stored taken taken t 1 inside (λ e. refl) (inl refl) (stays_same taken)) (λ i m. m)
        (inl (t, o, get_or-set_same taken t 1 0 inside))
      where
        inside : t < length taken
        inside = omega (arith, g.room)

    -- A row on one half.
    pub guards-half : RowOnOneHalf parts words side c → GuardsTo parts words atoms n side (c + 1) taken r
    guards-half o = guards_more taken g.breaking r g.room g.number (stays_same taken) (λ i m. m) (inr (inl o))

    -- A breaking row.
    pub guards-breaking : (now : List ℕ) → length now ≡ sheet_atom_limit → StaysGuarded taken now → GuardedTo atoms c now n → GuardsTo parts words atoms n side (c + 1) now (r + 1)
    guards-breaking now room s o = guards_more now (suc c ∷ g.breaking) (r + 1) room (let e = g.number in omega arith) s (λ i m. Memᴰ.tail m) (inr (inr (Memᴰ.head refl, o)))

-- The first t flags are shut, the others are as they were.
pub record ShutTo (was now : List ℕ) (t : ℕ) : Type 0 where
  pub shut : Shut t was now
  pub same : (u : ℕ) → t ≤ u → get_or now u 0 ≡ get_or was u 0
