-- Labels that pairs join are equal exactly on what the pairs link.
use Prim.Native.Nat.{ℕ, zero, suc, ◌+◌, ◌-◌, ◌≤◌, ◌<◌}
use mathlib.Core.Path.{◌≡◌, refl, sym, ◌∙◌, ap, subst}
use mathlib.Core.Logic.{◌⊎◌, inl, inr}
use mathlib.Core.List.Memᴰ
use mathlib.Core.List.{List, [], ◌∷◌}
use native.Mathlib.Decide.{ℕ_discrete}
use native.Mathlib.Omega.{arith}
use lib.ListN.{length, get_or, length-map}
use borrow.Author.Tests.{eq-eqb, ne_eqb}
use Rattle.hyperlmntal.specs.Link.{◌∈◌}
use Rattle.rows.specs.Held.{relabelled}
use Rattle.rows.proofs.Lists.{get_d-mapped}
use Rattle.placing.specs.Net.{Range}
use Rattle.placing.specs.Placing.{number_at}
use Rattle.placing.specs.Smallest.{numbers_from, labels_by}

pub numbers-length : (s n : ℕ) → length (numbers_from s n) ≡ n
numbers-length s zero = refl
numbers-length s (suc n) = ap suc (numbers-length (suc s) n)

pub numbers-at : (s n i : ℕ) → i < n → get_or (numbers_from s n) i 0 ≡ s + i
numbers-at s zero i h = absurd (omega arith)
numbers-at s (suc n) zero h = omega arith
numbers-at s (suc n) (suc i) h = numbers-at (suc s) n i (omega arith) ∙ (let q : suc s + i ≡ s + suc i = omega arith in q)

pub relabelled-hit : (from to c : ℕ) → c ≡ from → relabelled from to c ≡ to
relabelled-hit from to c e = rw (eq-eqb c from e)

pub relabelled-miss : (from to c : ℕ) → ¬ (c ≡ from) → relabelled from to c ≡ c
relabelled-miss from to c e = rw (ne_eqb c from e)

module _ (n : ℕ) where
  -- the label of link x
  abbrev pub label : List (ℕ × ℕ) → ℕ → ℕ
  label E x = number_at (labels_by n E) x

  labels_length : (E : List (ℕ × ℕ)) → length (labels_by n E) ≡ n
  unfolding labels_by
  labels_length [] = numbers-length 1 n
  labels_length (e ∷ E) = length-map (labels_by n E) _ ∙ labels_length E

  label-own : (x : ℕ) → Range n x → label [] x ≡ x
  unfolding labels_by
  label-own x r = let h : 1 ≤ x = r.0 in let g : x ≤ n = r.1 in numbers-at 1 n (x - 1) (omega arith) ∙ (let q : 1 + (x - 1) ≡ x = omega arith in q)

  label-joined : (e : ℕ × ℕ) (E : List (ℕ × ℕ)) (x : ℕ) → Range n x → label (e ∷ E) x ≡ relabelled (label E e.1) (label E e.0) (label E x)
  unfolding labels_by
  label-joined e E x r =
      let h : 1 ≤ x = r.0 in let g : x ≤ n = r.1 in
      get_d-mapped (relabelled (number_at (labels_by n E) e.1) (number_at (labels_by n E) e.0)) (labels_by n E) (x - 1) 0 0 (omega (arith, labels_length E))

  -- pairs of links
  abbrev pub Pairs : List (ℕ × ℕ) → Type 0
  Pairs E = (x z : ℕ) → (x, z) ∈ E → Range n x × Range n z

  -- what a pair links has one label
  pub pair-label : (E : List (ℕ × ℕ)) (x z : ℕ) → Pairs E → (x, z) ∈ E → label E x ≡ label E z
  pair-label [] x z r m = absurd (Memᴰ.not-nil m)
  pair-label (e ∷ E) x z r m = at (Memᴰ.cases_cons m) (λ k. pair-label E x z (λ a b i. r a b (Memᴰ.tail i)) k)
    where
      to : ℕ → ℕ
      to = relabelled (label E e.1) (label E e.0)

      first-stays : to (label E e.0) ≡ label E e.0
      first-stays = go (ℕ_discrete (label E e.0) (label E e.1))
        where
          go : Dec (label E e.0 ≡ label E e.1) → to (label E e.0) ≡ label E e.0
          go (yes q) = relabelled-hit _ _ _ q
          go (no q) = relabelled-miss _ _ _ q

      joined : to (label E e.0) ≡ to (label E e.1)
      joined = first-stays ∙ sym (relabelled-hit (label E e.1) (label E e.0) (label E e.1) refl)

      same : to (label E x) ≡ to (label E z) → label (e ∷ E) x ≡ label (e ∷ E) z
      same q = label-joined e E x (r x z m).0 ∙ q ∙ sym (label-joined e E z (r x z m).1)

      at : ((x, z) ≡ e) ⊎ ((x, z) ∈ E) → ((x, z) ∈ E → label E x ≡ label E z) → label (e ∷ E) x ≡ label (e ∷ E) z
      at (inl q) f = same (ap (λ (d : ℕ × ℕ). to (label E d.0)) q ∙ joined ∙ sym (ap (λ (d : ℕ × ℕ). to (label E d.1)) q))
      at (inr k) f = same (ap to (f k))

  -- links with one label are related by every relation that has the pairs and is one of equivalence
  module _ (R : ℕ → ℕ → Type 0) (keep : (x : ℕ) → R x x) (turn : (x z : ℕ) → R x z → R z x) (chain : (x y z : ℕ) → R x y → R y z → R x z) where
    pub label-linked : (E : List (ℕ × ℕ)) (x z : ℕ) → Pairs E → ((a b : ℕ) → (a, b) ∈ E → R a b) → Range n x → Range n z → label E x ≡ label E z → R x z
    label-linked [] x z r h p q e = subst (R x) (sym (label-own x p) ∙ e ∙ label-own z q) (keep x)
    label-linked (e ∷ E) x z r h p q l = at (ℕ_discrete (label E x) (label E e.1)) (ℕ_discrete (label E z) (label E e.1))
        (λ a b i j k. label-linked E a b (λ a b i. r a b (Memᴰ.tail i)) (λ a b i. h a b (Memᴰ.tail i)) i j k)
      where
        ends : Range n e.0 × Range n e.1
        ends = r e.0 e.1 (Memᴰ.head refl)

        Below : Type 0
        Below = (a b : ℕ) → Range n a → Range n b → label E a ≡ label E b → R a b

        pair : R e.1 e.0
        pair = turn _ _ (h e.0 e.1 (Memᴰ.head refl))

        both : relabelled (label E e.1) (label E e.0) (label E x) ≡ relabelled (label E e.1) (label E e.0) (label E z)
        both = sym (label-joined e E x p) ∙ l ∙ label-joined e E z q

        at : Dec (label E x ≡ label E e.1) → Dec (label E z ≡ label E e.1) → Below → R x z
        at (yes i) (yes j) below = below x z p q (i ∙ sym j)
        at (yes i) (no j) below = chain x e.1 z (below x e.1 p ends.1 i) (chain e.1 e.0 z pair
            (below e.0 z ends.0 q (sym (relabelled-hit _ _ _ i) ∙ both ∙ relabelled-miss _ _ _ j)))
        at (no i) (yes j) below = turn z x (chain z e.1 x (below z e.1 q ends.1 j) (chain e.1 e.0 x pair
            (below e.0 x ends.0 p (sym (relabelled-hit _ _ _ j) ∙ sym both ∙ relabelled-miss _ _ _ i))))
        at (no i) (no j) below = below x z p q (sym (relabelled-miss _ _ _ i) ∙ both ∙ relabelled-miss _ _ _ j)
