-- Reaching by steps: its laws, and that it is decided where the steps are and stand below a bound.
use Prim.Native.Nat.{ℕ, zero, suc, ◌<◌}
use mathlib.Core.Path.{◌≡◌, refl, subst}
use mathlib.Core.Logic.{◌⊎◌, inl, inr}
use native.Mathlib.Decide.{ℕ_discrete}
use native.Mathlib.Omega.{arith}
use Rattle.network.specs.Reach.{Reach, stay, move}

module _ (R : ℕ → ℕ → Type 0) where
  pub reach-cast : {x y z : ℕ} → y ≡ z → Reach R x y → Reach R x z
  reach-cast {x} e r = subst (Reach R x) e r

  pub reach-then : {x y z : ℕ} → Reach R x y → Reach R y z → Reach R x z
  reach-then stay s = s
  reach-then (move h r) s = move h (reach-then r s)

  pub reach-more : {x y z : ℕ} → Reach R x y → R y z → Reach R x z
  reach-more r h = reach-then r (move h stay)

  pub reach-back : ((x y : ℕ) → R x y → R y x) → {x y : ℕ} → Reach R x y → Reach R y x
  reach-back f stay = stay
  reach-back f (move {x} {y} h r) = reach-more (reach-back f r) (f x y h)

  -- by steps whose middle points are below k
  abbrev Via : ℕ → ℕ → ℕ → Type 0
  Via zero x z = (x ≡ z) ⊎ R x z
  Via (suc k) x z = Via k x z ⊎ (Via k x k × Via k k z)

  via-reach : (k x z : ℕ) → Via k x z → Reach R x z
  via-reach zero x z (inl e) = reach-cast e stay
  via-reach zero x z (inr h) = move h stay
  via-reach (suc k) x z (inl v) = via-reach k x z v
  via-reach (suc k) x z (inr v) = reach-then (via-reach k x k v.0) (via-reach k k z v.1)

  via_then : (k x m z : ℕ) → m < k → Via k x m → Via k m z → Via k x z
  via_then zero x m z h u v = absurd (omega arith)
  via_then (suc k) x m z h u v = go (λ a b c l s t. via_then k a b c l s t) (ℕ_discrete m k) u v
    where
      go : ((a b c : ℕ) → b < k → Via k a b → Via k b c → Via k a c) → Dec (m ≡ k) → Via (suc k) x m → Via (suc k) m z → Via (suc k) x z
      go r (yes e) u v = inr (into u, out v)
        where
          into : Via (suc k) x m → Via k x k
          into (inl a) = subst (λ (c : ℕ). Via k x c) e a
          into (inr a) = a.0

          out : Via (suc k) m z → Via k k z
          out (inl a) = subst (λ (c : ℕ). Via k c z) e a
          out (inr a) = a.1
      go r (no n) (inl a) (inl b) = inl (r x m z (omega arith) a b)
      go r (no n) (inl a) (inr b) = inr (r x m k (omega arith) a b.0, b.1)
      go r (no n) (inr a) (inl b) = inr (a.0, r k m z (omega arith) a.1 b)
      go r (no n) (inr a) (inr b) = inr (a.0, b.1)

  via-start : (k x z : ℕ) → (x ≡ z) ⊎ R x z → Via k x z
  via-start zero x z h = h
  via-start (suc k) x z h = inl (via-start k x z h)

  module _ (n : ℕ) (below : (x y : ℕ) → R x y → y < n) where
    reach-via : {x z : ℕ} → Reach R x z → Via n x z
    reach-via {x} stay = via-start n x x (inl refl)
    reach-via (move {x} {y} {z} h r) = via_then n x y z (below x y h) (via-start n x y (inr h)) (reach-via r)

    module _ (d : (x y : ℕ) → Dec (R x y)) where
      either : {A B : Type 0} → Dec A → Dec B → Dec (A ⊎ B)
      either (yes a) e = yes (inl a)
      either (no n) (yes b) = yes (inr b)
      either {A} {B} (no n) (no m) = no neither
        where
          neither : A ⊎ B → ⊥
          neither (inl a) = n a
          neither (inr b) = m b

      both : {A B : Type 0} → Dec A → Dec B → Dec (A × B)
      both (yes a) (yes b) = yes (a, b)
      both (yes a) (no n) = no (λ c. n c.1)
      both (no n) e = no (λ c. n c.0)

      via-dec : (k x z : ℕ) → Dec (Via k x z)
      via-dec zero x z = either (ℕ_discrete x z) (d x z)
      via-dec (suc k) x z = either (via-dec k x z) (both (via-dec k x k) (via-dec k k z))

      pub reach-dec : (x z : ℕ) → Dec (Reach R x z)
      reach-dec x z = go (via-dec n x z)
        where
          go : Dec (Via n x z) → Dec (Reach R x z)
          go (yes v) = yes (via-reach n x z v)
          go (no m) = no (λ r. m (reach-via r))
