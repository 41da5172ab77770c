-- The set of one figure atom is cut: by a choice, or by what it does not go to.
use Prim.Native.Nat.{ℕ, suc, ◌-◌, ◌<◌}
use mathlib.Core.Path.{◌≡◌, refl, sym, subst}
use mathlib.Core.Logic.{◌≢◌}
use mathlib.Core.List.{List}
use native.Mathlib.Decide.{ℕ_discrete, dec_lt}
use native.Mathlib.Omega.{arith}
use lib.Bits.{bit_and}
use lib.ListN.{length, get_or, set}
use lib.Seq.{get_or-set_same, get_or-set_other, set_out}
use Rattle.placing.specs.Net.{Net, Range}
use Rattle.placing.specs.Placing.{Placing, atom_target}
use Rattle.candidates.specs.Sets.{Obeys}
use Rattle.candidates.specs.Tables.{MayAtom, AtomIn}
use Rattle.candidates.specs.Words.{In, alone, fewer}
use Rattle.candidates.proofs.Digits.{in_and, in-fewer, alone-in, alone-only}

-- A placing in the sets sends figure atom k, counted from 0, to `there`.
module _ (S F : Net) (L : ℕ → ℕ → Type 0) (p : Placing) (a : List ℕ) (o : Obeys S F (MayAtom a) L p) (k : ℕ) where
  abbrev there : ℕ
  there = atom_target p (suc k) - 1

  -- another set for k, in which that stays
  put-obeys : (v : ℕ) → (AtomIn a k there → In v there) → Obeys S F (MayAtom (set a k v)) L p
  put-obeys v stays = record { atoms = λ i r. at i r (ℕ_discrete (i - 1) k); links = o.links }
    where
      own : AtomIn a k there → Dec (k < length a) → AtomIn (set a k v) k there
      own m (yes l) = subst (λ (w : ℕ). In w there) (sym (get_or-set_same a k v 0 l)) (stays m)
      own m (no l) = subst (λ (z : List ℕ). AtomIn z k there) (sym (set_out a k v (omega (arith, l)))) m

      at : (i : ℕ) → Range (length F.atoms) i → Dec (i - 1 ≡ k) → MayAtom (set a k v) i (atom_target p i)
      at i r (yes w) = let e : i ≡ suc k = omega (arith, r.0, w) in
          subst (λ (j : ℕ). AtomIn (set a k v) j (atom_target p i - 1)) (sym w)
          (subst (λ (j : ℕ). AtomIn (set a k v) k (atom_target p j - 1)) (sym e) (own (subst (λ (j : ℕ). AtomIn a k (atom_target p j - 1)) e (subst (λ (j : ℕ). AtomIn a j (atom_target p i - 1)) w (o.atoms i r))) (dec_lt k (length a))))
      at i r (no d) = subst (λ (w : ℕ). In w (atom_target p i - 1)) (sym (get_or-set_other a k (i - 1) v 0 d)) (o.atoms i r)

  -- Figure atom k may go to t alone, and goes there.
  pub choose-obeys : (b : List ℕ) (t : ℕ) → b ≡ set a k (bit_and (get_or a k 0) (alone t)) → there ≡ t → Obeys S F (MayAtom b) L p
  choose-obeys b t e w = subst (λ (z : List ℕ). Obeys S F (MayAtom z) L p) (sym e)
      (put-obeys (bit_and (get_or a k 0) (alone t)) (λ m. in_and (get_or a k 0) (alone t) there m (subst (In (alone t)) (sym w) (alone-in t (alone t) refl))))

  -- It may not go to t, and goes elsewhere.
  pub lose-obeys : (b : List ℕ) (t : ℕ) → b ≡ set a k (fewer (get_or a k 0) (alone t)) → there ≢ t → Obeys S F (MayAtom b) L p
  lose-obeys b t e w = subst (λ (z : List ℕ). Obeys S F (MayAtom z) L p) (sym e)
      (put-obeys (fewer (get_or a k 0) (alone t)) (λ m. in-fewer (get_or a k 0) (alone t) _ refl there m (λ i. w (alone-only t (alone t) refl there i))))
