-- Which atoms are taken, in one component and allowed to a context is decided. These decisions serve proofs, not code.
use Prim.Native.Nat.{ℕ, zero, suc, ◌+◌, ◌≤◌, ◌<◌}
use mathlib.Core.Path.{◌≡◌, refl, subst}
use mathlib.Core.List.{List}
use mathlib.Core.Bool.{Bool, true, false}
use native.Mathlib.Decide.{dec_le, ℕ_discrete}
use native.Mathlib.Omega.{arith}
use lib.ListN.{length}
use Rattle.hyperlmntal.specs.Link.{◌∈◌}
use Rattle.hyperlmntal.proofs.TellApart.{some-dec}
use Rattle.placing.specs.Net.{NetCell, Net, Range}
use Rattle.placing.specs.Placing.{Placing, cell_at, link_target, Taken, PortAt}
use Rattle.placing.specs.Smallest.{numbers_to}
use Rattle.placing.proofs.Tests.{Says, refuted, says_range, says-among, to-range, of_range}
use Rattle.placing.proofs.GoodTest.{says-taken}
use Rattle.completing.specs.Fault.{Used, Other, Beside, Joined, Number, Allowed}
use Rattle.network.proofs.Reaching.{reach-dec}

pub dec-map : {A B : Type 0} → (A → B) → (B → A) → Dec A → Dec B
dec-map f g (yes a) = yes (f a)
dec-map f g (no n) = no (λ b. n (g b))

pub dec-and : {A B : Type 0} → Dec A → Dec B → Dec (A × B)
dec-and (yes a) (yes b) = yes (a, b)
dec-and (yes a) (no n) = no (λ c. n c.1)
dec-and (no n) d = no (λ c. n c.0)

pub dec-not : {A : Type 0} → Dec A → Dec (¬ A)
dec-not (yes a) = no (λ f. f a)
dec-not (no n) = yes n

pub dec_if : {A B : Type 0} → Dec A → Dec B → Dec (A → B)
dec_if d (yes b) = yes (λ a. b)
dec_if (yes a) (no m) = no (λ f. m (f a))
dec_if (no n) (no m) = yes (λ a. absurd (n a))

pub dec-says : {b : Bool} {A : Type 0} → Says b A → Dec A
dec-says {b} {A} s = go b refl
  where
    go : (c : Bool) → b ≡ c → Dec A
    go true e = yes (s.sound e)
    go false e = no (refuted s e)

stable : {A : Type 0} → Dec A → ¬ (¬ A) → A
stable (yes a) n = a
stable (no m) n = absurd (n m)

pub dec-all : {A : Type 0} (Q : A → Type 0) → ((a : A) → Dec (Q a)) → (l : List A) → Dec ((a : A) → a ∈ l → Q a)
dec-all {A} Q d l = go (some-dec (λ a. ¬ Q a) (λ a. dec-not (d a)) l)
  where
    go : Dec ((a : A) × (a ∈ l) × (¬ Q a)) → Dec ((a : A) → a ∈ l → Q a)
    go (yes t) = no (λ f. t.2 (f t.0 t.1))
    go (no n) = yes (λ a m. stable (d a) (λ k. n (a, m, k)))

module _ (Q : ℕ → Type 0) (d : (i : ℕ) → Dec (Q i)) (n : ℕ) where
  pub dec-some-to : Dec ((i : ℕ) × Range n i × Q i)
  dec-some-to = dec-map (λ t. (t.0, to-range n t.0 t.1, t.2)) (λ t. (t.0, of_range n t.0 t.1, t.2)) (some-dec Q d (numbers_to n))

  pub dec-all-to : Dec ((i : ℕ) → Range n i → Q i)
  dec-all-to = dec-map (λ f i r. f i (of_range n i r)) (λ f i m. f i (to-range n i m)) (dec-all Q d (numbers_to n))

pub member-dec : (x : ℕ) (l : List ℕ) → Dec (x ∈ l)
member-dec x l = dec-says (says-among x l)

module _ (S F : Net) (q : Placing) where
  pub taken-dec : (j : ℕ) → Dec (Taken S F q j)
  taken-dec j = dec-says (says-taken S F q j)

  pub used-dec : (y : ℕ) → Dec (Used S F q y)
  used-dec y = dec-some-to (λ x. link_target q x ≡ y) (λ x. ℕ_discrete (link_target q x) y) F.links

  pub other-dec : (j : ℕ) → Dec (Other S F q j)
  other-dec j = dec-and (dec-says (says_range (length S.atoms) j)) (dec-not (taken-dec j))

  beside-dec : (j j' : ℕ) → Dec (Beside S F q j j')
  beside-dec j j' = dec-map
      (λ t. record { first-other = t.0; second-other = t.1.0; link = t.1.1.0; first = t.1.1.1; second = t.1.1.2.0; unused = t.1.1.2.1 })
      (λ b. (b.first-other, (b.second-other, (b.link, b.first, (b.second, b.unused)))))
      (dec-and (other-dec j) (dec-and (other-dec j')
      (some-dec (λ y. (y ∈ (cell_at S.atoms j').1) × (¬ Used S F q y))
      (λ y. dec-and (member-dec y (cell_at S.atoms j').1) (dec-not (used-dec y))) (cell_at S.atoms j).1)))

  pub joined-dec : (j j' : ℕ) → Dec (Joined S F q j j')
  joined-dec = reach-dec (Beside S F q) (suc (length S.atoms)) (λ j j' b. let h : j' ≤ length S.atoms = b.second-other.0.1 in omega arith) beside-dec

  pub port-dec : (k y : ℕ) → Dec (PortAt S F q k y)
  port-dec k y = dec-map
      (λ t. record { row = t.0; of-figure = t.1; number = t.2.0; link = t.2.1.0; port = t.2.1.1; there = t.2.1.2 })
      (λ t. (t.row, t.of-figure, (t.number, (t.link, t.port, t.there))))
      (some-dec (λ (row : NetCell). (row.0 ≡ k) × ((x : ℕ) × (x ∈ row.1) × (link_target q x ≡ y)))
      (λ row. dec-and (ℕ_discrete row.0 k) (some-dec (λ x. link_target q x ≡ y) (λ x. ℕ_discrete (link_target q x) y) row.1)) F.contexts)

  pub allowed-dec : (k j : ℕ) → Dec (Allowed S F q k j)
  allowed-dec k j = dec-all-to (λ j'. Joined S F q j j' → (y : ℕ) → y ∈ (cell_at S.atoms j').1 → Used S F q y → PortAt S F q k y)
      (λ j'. dec_if (joined-dec j j')
      (dec-all (λ y. Used S F q y → PortAt S F q k y) (λ y. dec_if (used-dec y) (port-dec k y)) (cell_at S.atoms j').1)) (length S.atoms)

  pub number-dec : (k : ℕ) → Dec (Number S F q k)
  number-dec k = some-dec (λ (row : NetCell). row.0 ≡ k) (λ row. ℕ_discrete row.0 k) F.contexts

-- The least number with a property, where some number has it.
module _ (Q : ℕ → Type 0) (d : (i : ℕ) → Dec (Q i)) where
  pub record LeastOf (k : ℕ) : Type 0 where
    pub has : Q k
    pub least : (i : ℕ) → Q i → k ≤ i

  find : (n s e : ℕ) → s + n ≡ e → Q e → ((i : ℕ) → i < s → ¬ Q i) → (k : ℕ) × LeastOf k
  find zero s e a w low = (e, record { has = w; least = λ i v. go i v (dec_le e i) })
    where
      go : (i : ℕ) → Q i → Dec (e ≤ i) → e ≤ i
      go i v (yes h) = h
      go i v (no h) = absurd (low i (omega arith) v)
  find (suc n) s e a w low = go (d s) (λ f. find n (suc s) e (omega arith) w f)
    where
      under : (i : ℕ) → Q i → Dec (s ≤ i) → s ≤ i
      under i v (yes h) = h
      under i v (no h) = absurd (low i (omega arith) v)

      more : ¬ Q s → (i : ℕ) → i < suc s → Dec (i ≡ s) → ¬ Q i
      more m i h (yes f) v = m (subst Q f v)
      more m i h (no f) v = low i (omega arith) v

      go : Dec (Q s) → (((i : ℕ) → i < suc s → ¬ Q i) → (k : ℕ) × LeastOf k) → (k : ℕ) × LeastOf k
      go (yes v) r = (s, record { has = v; least = λ i u. under i u (dec_le s i) })
      go (no m) r = r (λ i h. more m i h (ℕ_discrete i s))

  pub least-of : (e : ℕ) → Q e → (k : ℕ) × LeastOf k
  least-of e w = find e 0 e (omega arith) w (λ i h v. omega arith)
