-- The tables of users, while atoms are added.
use Prim.Native.Nat.{ℕ, ◌+◌, ◌*◌, ◌-◌, ◌<◌}
use mathlib.Core.Path.{◌≡◌, sym, subst}
use mathlib.Core.Logic.{◌⊎◌, inl, inr, ⊎_elim}
use mathlib.Core.List.{List}
use native.Mathlib.Decide.{ℕ_discrete, dec_lt}
use native.Mathlib.Omega.{arith}
use lib.Bits.{bit_or}
use lib.ListN.{length, get_or, set, replicate, length-replicate, get_or-replicate, get_or-eq_default}
use lib.Seq.{get_or-set_same, get_or-set_other}
use Rattle.rows.specs.Format.{most_links}
use Rattle.rows.specs.Limits.{sheet_link_limit}
use Rattle.rows.specs.declared.Atom.{Atom}
use Rattle.network.specs.NetIn.{Used}
use Rattle.candidates.specs.Laid.{laid_atom, link_of}
use Rattle.candidates.specs.Words.{In}
use Rattle.candidates.proofs.Digits.{none_in, in-or-left, in-or-right, or-in}
use Rattle.narrowing.specs.Users.{UsersIn}

-- where place k of an atom is in the table
abbrev pub spot : Atom → ℕ → ℕ
spot there k = k * sheet_link_limit + (link_of there k - 1)

-- atom t was added at its first k places
pub record Added (there : Atom) (t : ℕ) (users more : List ℕ) (k : ℕ) : Type 0 where
  pub kept : (q u : ℕ) → In (get_or users q 0) u → In (get_or more q 0) u
  pub has : (h : ℕ) → h < k → In (get_or more (spot there h) 0) t
  pub only : (q u : ℕ) → In (get_or more q 0) u → In (get_or users q 0) u ⊎ ((u ≡ t) × ((h : ℕ) × (h < k) × (q ≡ spot there h)))

-- a word w is joined to word p of a table
module _ (l : List ℕ) (p w : ℕ) (h : p < length l) where
  abbrev joined : List ℕ
  joined = set l p (bit_or (get_or l p 0) w)

  joined-has : (q u : ℕ) → In (get_or l q 0) u → In (get_or joined q 0) u
  joined-has q u m = go (ℕ_discrete q p)
    where
      go : Dec (q ≡ p) → In (get_or joined q 0) u
      go (yes e) = rw e (rw (get_or-set_same l p (bit_or (get_or l p 0) w) 0 h) (in-or-left (get_or l p 0) w u (subst (λ (z : ℕ). In (get_or l z 0) u) e m)))
      go (no d) = rw (get_or-set_other l p q (bit_or (get_or l p 0) w) 0 d) m

  joined-there : (u : ℕ) → In w u → In (get_or joined p 0) u
  joined-there u m = rw (get_or-set_same l p (bit_or (get_or l p 0) w) 0 h) (in-or-right (get_or l p 0) w u m)

  joined-only : (q u : ℕ) → In (get_or joined q 0) u → In (get_or l q 0) u ⊎ ((q ≡ p) × In w u)
  joined-only q u m = go (ℕ_discrete q p)
    where
      same : q ≡ p → In (bit_or (get_or l p 0) w) u
      same e = subst (λ (z : ℕ). In z u) (get_or-set_same l p (bit_or (get_or l p 0) w) 0 h) (subst (λ (z : ℕ). In (get_or joined z 0) u) e m)

      go : Dec (q ≡ p) → In (get_or l q 0) u ⊎ ((q ≡ p) × In w u)
      go (yes e) = ⊎_elim (λ a. inl (subst (λ (z : ℕ). In (get_or l z 0) u) (sym e) a)) (λ b. inr (e, b)) (or-in (get_or l p 0) w u (same e))
      go (no d) = inl (rw (get_or-set_other l p q (bit_or (get_or l p 0) w) 0 d) at m)

module _ (there : Atom) (t : ℕ) (users : List ℕ) where
  pub added_none : Added there t users users 0
  added_none = record { kept = λ q u m. m; has = λ h b. absurd (omega arith); only = λ q u m. inl m }

  pub added_more : (l : List ℕ) (k : ℕ) → Added there t users l k → spot there k < length l → (w : ℕ) → In w t → ((u : ℕ) → In w u → u ≡ t)
      → Added there t users (set l (spot there k) (bit_or (get_or l (spot there k) 0) w)) (k + 1)
  added_more l k a b w i o = record {
    kept = λ q u m. joined-has l (spot there k) w b q u (a.kept q u m);
    has = has;
    only = λ q u m. ⊎_elim (λ v. ⊎_elim inl (λ x. inr (x.0, (x.1.0, omega (arith, x.1.1), x.1.2))) (a.only q u v)) (λ v. inr (o u v.1, (k, omega arith, v.0))) (joined-only l (spot there k) w b q u m);
  }
    where
      has : (h : ℕ) → h < k + 1 → In (get_or (set l (spot there k) (bit_or (get_or l (spot there k) 0) w)) (spot there h) 0) t
      has h c = go (dec_lt h k)
        where
          go : Dec (h < k) → In (get_or (set l (spot there k) (bit_or (get_or l (spot there k) 0) w)) (spot there h) 0) t
          go (yes d) = joined-has l (spot there k) w b (spot there h) t (a.has h d)
          go (no d) = let e : h ≡ k = omega arith in rw e (joined-there l (spot there k) w b t i)

-- a table of zeros has no users
pub users-none : (laid : List ℕ) (m : ℕ) → UsersIn laid 0 (replicate m 0)
users-none laid m = record { has = λ t k y h. absurd (omega arith); only = λ t k y a b i. absurd (none_in t (subst (λ (z : ℕ). In z t) (zero (k * sheet_link_limit + y)) i)) }
  where
    zero : (q : ℕ) → get_or {A = ℕ} (replicate m 0) q 0 ≡ 0
    zero q = go (dec_lt q m)
      where
        go : Dec (q < m) → get_or {A = ℕ} (replicate m 0) q 0 ≡ 0
        go (yes h) = get_or-replicate m q 0 0 h
        go (no h) = get_or-eq_default (replicate m 0) 0 (omega (arith, length-replicate {A = ℕ} m 0))

-- one atom more
pub users-more : (laid : List ℕ) (t : ℕ) (users more : List ℕ) → Used sheet_link_limit (laid_atom laid t).count (laid_atom laid t).links → UsersIn laid t users
    → Added (laid_atom laid t) t users more (laid_atom laid t).count → UsersIn laid (t + 1) more
users-more laid t users more used a b = record { has = has; only = only }
  where
    has : (u k y : ℕ) → u < t + 1 → k < (laid_atom laid u).count → link_of (laid_atom laid u) k ≡ y + 1 → In (get_or more (k * sheet_link_limit + y) 0) u
    has u k y h c e = go (dec_lt u t)
      where
        last : u ≡ t → In (get_or more (k * sheet_link_limit + y) 0) u
        last q =
            let v : In (get_or more (spot (laid_atom laid t) k) 0) t = b.has k (subst (λ (z : ℕ). k < (laid_atom laid z).count) q c) in
            let z : link_of (laid_atom laid t) k ≡ y + 1 = subst (λ (z : ℕ). link_of (laid_atom laid z) k ≡ y + 1) q e in
            rw q (subst (λ (p : ℕ). In (get_or more p 0) t) (let r : spot (laid_atom laid t) k ≡ k * sheet_link_limit + y = omega arith in r) v)

        go : Dec (u < t) → In (get_or more (k * sheet_link_limit + y) 0) u
        go (yes d) = b.kept (k * sheet_link_limit + y) u (a.has u k y d c e)
        go (no d) = last (omega arith)

    only : (u k y : ℕ) → k < most_links → y < sheet_link_limit → In (get_or more (k * sheet_link_limit + y) 0) u → (u < t + 1) × (k < (laid_atom laid u).count) × (link_of (laid_atom laid u) k ≡ y + 1)
    only u k y h c m = ⊎_elim (λ v. let w = a.only u k y h c v in (omega (arith, w.0), w.1, w.2)) new (b.only (k * sheet_link_limit + y) u m)
      where
        new : (u ≡ t) × ((h : ℕ) × (h < (laid_atom laid t).count) × (k * sheet_link_limit + y ≡ spot (laid_atom laid t) h)) → (u < t + 1) × (k < (laid_atom laid u).count) × (link_of (laid_atom laid u) k ≡ y + 1)
        new v =
            let r = used.numbered v.1.0 v.1.1 in
            let e : v.1.0 ≡ k = omega (arith, v.1.2, r.0, r.1) in
            let f : link_of (laid_atom laid t) v.1.0 ≡ y + 1 = omega (arith, v.1.2, r.0, r.1) in
            (omega (arith, v.0), rw v.0 (subst (λ (z : ℕ). z < (laid_atom laid t).count) e v.1.1), rw v.0 (subst (λ (z : ℕ). link_of (laid_atom laid t) z ≡ y + 1) e f))
