-- Sets of links in two words, and the sets of all figure links in one array.
use Prim.Native.Nat.{ℕ, ◌+◌, ◌*◌, ◌/◌, ◌%◌, ◌<◌, ◌≤◌}
use mathlib.Core.Path.{◌≡◌, refl, sym, ◌∙◌, ap, ap₂, subst}
use mathlib.Core.Bool.{true, false}
use mathlib.Core.Logic.{◌≢◌, ◌⊎◌, inl, inr, ⊎_elim}
use mathlib.Core.List.{List, [], ◌∷◌}
use native.Mathlib.Decide.{ℕ_discrete, dec_lt}
use native.Mathlib.Omega.{arith}
use borrow.Author.Tests.{eqb-true, eqb-false}
use lib.Bits.{bit_or}
use lib.ListN.{length, get_or, set, replicate, length-set}
use lib.Seq.{get_or-set_same, get_or-set_other, set_out}
use Rattle.rows.specs.Limits.{sheet_link_limit}
use Rattle.rows.proofs.Padding.{get_d-filled}
use Rattle.candidates.specs.Words.{word_digits, digit, In, alone, fewer, pair_digits, InPair, empty_pair, common_pair, fewer_pair, with_link, without_link, pair_size}
use Rattle.candidates.specs.Tables.{LinkIn}
use Rattle.candidates.proofs.Digits.{none_in, in_and, in-or-left, in-or-right, or-in, fewer-in, in-fewer, fewer-smaller, alone-in, alone-only}

-- a link is in the first word or the second
pub by-half : (P : ℕ → Type 0) (y : ℕ) → y < pair_digits → P 0 → P 1 → P (y / word_digits)
by-half P y h p q = go (ℕ_discrete (y / word_digits) 0)
  where
    go : Dec (y / word_digits ≡ 0) → P (y / word_digits)
    go (yes e) = subst P (sym e) p
    go (no d) = subst P (let e : 1 ≡ y / word_digits = omega (arith, h, d) in e) q

-- every link of a sheet is in one of them
pub in_pair : {y : ℕ} → y < sheet_link_limit → y < pair_digits
in_pair h = omega (arith, h)

module _ (l : List ℕ) (x y : ℕ) (h : y < sheet_link_limit) where
  first_word : get_or l (x * 2 + 0) 0 ≡ get_or l (x * 2) 0
  first_word = ap (λ (q : ℕ). get_or l q 0) (let e : x * 2 + 0 ≡ x * 2 = omega arith in e)

  pub pair-in : LinkIn l x y → InPair (get_or l (x * 2) 0 ∷ get_or l (x * 2 + 1) 0 ∷ []) y
  pair-in = by-half (λ z. In (get_or l (x * 2 + z) 0) (y % word_digits) → In (get_or (get_or l (x * 2) 0 ∷ get_or l (x * 2 + 1) 0 ∷ []) z 0) (y % word_digits)) y (in_pair h) (subst (λ (w : ℕ). In w (y % word_digits)) first_word) (λ i. i)

-- a pair stored for link x
abbrev pub stored : List ℕ → ℕ → List ℕ → List ℕ
stored k x pair = set (set k (x * 2) (get_or pair 0 0)) (x * 2 + 1) (get_or pair 1 0)

-- what is in both the word that is there and the one that is stored is there afterwards
pub word_kept : (k : List ℕ) (q v t : ℕ) → In (get_or k q 0) t → In v t → In (get_or (set k q v) q 0) t
word_kept k q v t i j = go (dec_lt q (length k))
  where
    go : Dec (q < length k) → In (get_or (set k q v) q 0) t
    go (yes h) = ap (λ (w : ℕ). digit w t) (get_or-set_same k q v 0 h) ∙ j
    go (no h) = ap (λ (z : List ℕ). digit (get_or z q 0) t) (set_out k q v (omega (arith, h))) ∙ i

module _ (k : List ℕ) (x : ℕ) (pair : List ℕ) where
  apart : (z : ℕ) → get_or (set k (x * 2) z) (x * 2 + 1) 0 ≡ get_or k (x * 2 + 1) 0
  apart z = get_or-set_other k (x * 2) (x * 2 + 1) z 0 (λ e. omega (arith, e))

  first-stored : (t : ℕ) → In (get_or k (x * 2) 0) t → In (get_or pair 0 0) t → In (get_or (stored k x pair) (x * 2) 0) t
  first-stored t i j =
      ap (λ (w : ℕ). digit w t) (get_or-set_other (set k (x * 2) (get_or pair 0 0)) (x * 2 + 1) (x * 2) (get_or pair 1 0) 0 (λ e. omega (arith, e)))
      ∙ word_kept k (x * 2) (get_or pair 0 0) t i j

  second-stored : (t : ℕ) → In (get_or k (x * 2 + 1) 0) t → In (get_or pair 1 0) t → In (get_or (stored k x pair) (x * 2 + 1) 0) t
  second-stored t i j = word_kept (set k (x * 2) (get_or pair 0 0)) (x * 2 + 1) (get_or pair 1 0) t (ap (λ (w : ℕ). digit w t) (apart (get_or pair 0 0)) ∙ i) j

  -- a link of both is in the set of link x afterwards
  pub stored-kept : (y : ℕ) → y < sheet_link_limit → LinkIn k x y → InPair pair y → LinkIn (stored k x pair) x y
  stored-kept y h =
      by-half (λ z. In (get_or k (x * 2 + z) 0) (y % word_digits) → In (get_or pair z 0) (y % word_digits) → In (get_or (stored k x pair) (x * 2 + z) 0) (y % word_digits)) y (in_pair h)
      (λ i j. subst (λ (q : ℕ). In (get_or (stored k x pair) q 0) (y % word_digits)) zero_more (first-stored (y % word_digits) (subst (λ (q : ℕ). In (get_or k q 0) (y % word_digits)) (sym zero_more) i) j))
      (second-stored (y % word_digits))
    where
      zero_more : x * 2 ≡ x * 2 + 0
      zero_more = omega arith

  -- where the table has the link, that it was there before is not needed
  pub pair-stored : (y : ℕ) → y < sheet_link_limit → x * 2 + 1 < length k → InPair pair y → LinkIn (stored k x pair) x y
  pair-stored y h l =
      by-half (λ z. In (get_or pair z 0) (y % word_digits) → In (get_or (stored k x pair) (x * 2 + z) 0) (y % word_digits)) y (in_pair h)
      (λ j. ap (λ (w : ℕ). digit w (y % word_digits)) (
      ap (λ (q : ℕ). get_or (stored k x pair) q 0) zero-less
      ∙ get_or-set_other (set k (x * 2) (get_or pair 0 0)) (x * 2 + 1) (x * 2) (get_or pair 1 0) 0 (λ e. omega (arith, e))
      ∙ get_or-set_same k (x * 2) (get_or pair 0 0) 0 (omega (arith, l))
      ) ∙ j)
      (λ j. ap (λ (w : ℕ). digit w (y % word_digits)) (get_or-set_same (set k (x * 2) (get_or pair 0 0)) (x * 2 + 1) (get_or pair 1 0) 0 (omega (arith, l, length-set k (x * 2) (get_or pair 0 0)))) ∙ j)
    where
      zero-less : x * 2 + 0 ≡ x * 2
      zero-less = omega arith

  -- the sets of other links stay
  pub stored_other : (u y : ℕ) → y < sheet_link_limit → u ≢ x → LinkIn k u y → LinkIn (stored k x pair) u y
  stored_other u y h d i =
      ap (λ (w : ℕ). digit w (y % word_digits)) (
      get_or-set_other (set k (x * 2) (get_or pair 0 0)) (x * 2 + 1) (u * 2 + y / word_digits) (get_or pair 1 0) 0 (λ e. d (omega (arith, e, h)))
      ∙ get_or-set_other k (x * 2) (u * 2 + y / word_digits) (get_or pair 0 0) 0 (λ e. d (omega (arith, e, h)))
      )
      ∙ i

-- A pair, of which `words` has the two words, with another word where y is.
abbrev words : List ℕ → List ℕ
words p = get_or p 0 0 ∷ get_or p 1 0 ∷ []

words_same : (p : List ℕ) (z : ℕ) → z < pair_digits → get_or (words p) (z / word_digits) 0 ≡ get_or p (z / word_digits) 0
words_same p z h = by-half (λ (q : ℕ). get_or (words p) q 0 ≡ get_or p q 0) z h refl refl

module _ (p : List ℕ) (y : ℕ) (small : y < pair_digits) (v : ℕ) (r : List ℕ) (e : r ≡ set (words p) (y / word_digits) v) where
  word-put : (z : ℕ) → z / word_digits ≡ y / word_digits → get_or r (z / word_digits) 0 ≡ v
  word-put z q =
      ap (λ (l : List ℕ). get_or l (z / word_digits) 0) e
      ∙ ap (λ (k : ℕ). get_or (set (words p) (y / word_digits) v) k 0) q
      ∙ get_or-set_same (words p) (y / word_digits) v 0 (omega (arith, small))

  word-other : (z : ℕ) → z < pair_digits → z / word_digits ≢ y / word_digits → get_or r (z / word_digits) 0 ≡ get_or p (z / word_digits) 0
  word-other z h d = ap (λ (l : List ℕ). get_or l (z / word_digits) 0) e ∙ get_or-set_other (words p) (y / word_digits) (z / word_digits) v 0 d ∙ words_same p z h

-- Link y put into a pair.
module _ (p : List ℕ) (y : ℕ) (small : y < sheet_link_limit) (r : List ℕ) (e : r ≡ with_link p y) where
  same : (z : ℕ) → z / word_digits ≡ y / word_digits → get_or r (z / word_digits) 0 ≡ bit_or (get_or p (z / word_digits) 0) (alone (y % word_digits))
  unfolding with_link
  same z q = word-put p y (in_pair small) _ r e z q ∙ ap (λ (k : ℕ). bit_or (get_or p k 0) (alone (y % word_digits))) (sym q)

  other : (z : ℕ) → z < pair_digits → z / word_digits ≢ y / word_digits → get_or r (z / word_digits) 0 ≡ get_or p (z / word_digits) 0
  unfolding with_link
  other z h d = word-other p y (in_pair small) _ r e z h d

  pub with-kept : (z : ℕ) → z < pair_digits → InPair p z → InPair r z
  with-kept z h i = go (ℕ_discrete (z / word_digits) (y / word_digits))
    where
      go : Dec (z / word_digits ≡ y / word_digits) → InPair r z
      go (yes q) = ap (λ (w : ℕ). digit w (z % word_digits)) (same z q) ∙ in-or-left (get_or p (z / word_digits) 0) (alone (y % word_digits)) (z % word_digits) i
      go (no d) = ap (λ (w : ℕ). digit w (z % word_digits)) (other z h d) ∙ i

  pub with-there : InPair r y
  with-there = ap (λ (w : ℕ). digit w (y % word_digits)) (same y refl) ∙ in-or-right (get_or p (y / word_digits) 0) (alone (y % word_digits)) (y % word_digits) (alone-in (y % word_digits) (alone (y % word_digits)) refl)

  pub with-only : (z : ℕ) → z < pair_digits → InPair r z → InPair p z ⊎ (z ≡ y)
  with-only z h i = go (ℕ_discrete (z / word_digits) (y / word_digits))
    where
      go : Dec (z / word_digits ≡ y / word_digits) → InPair p z ⊎ (z ≡ y)
      go (yes q) = ⊎_elim inl (λ j. inr (omega (arith, q, alone-only (y % word_digits) (alone (y % word_digits)) refl (z % word_digits) j))) (or-in (get_or p (z / word_digits) 0) (alone (y % word_digits)) (z % word_digits) (ap (λ (w : ℕ). digit w (z % word_digits)) (sym (same z q)) ∙ i))
      go (no d) = inl (ap (λ (w : ℕ). digit w (z % word_digits)) (sym (other z h d)) ∙ i)

-- Link y taken out of a pair.
module _ (p : List ℕ) (y : ℕ) (small : y < pair_digits) (r : List ℕ) (e : r ≡ without_link p y) where
  left : (z : ℕ) → z / word_digits ≡ y / word_digits → get_or r (z / word_digits) 0 ≡ fewer (get_or p (z / word_digits) 0) (alone (y % word_digits))
  unfolding without_link
  left z q = word-put p y small _ r e z q ∙ ap (λ (k : ℕ). fewer (get_or p k 0) (alone (y % word_digits))) (sym q)

  beside : (z : ℕ) → z < pair_digits → z / word_digits ≢ y / word_digits → get_or r (z / word_digits) 0 ≡ get_or p (z / word_digits) 0
  unfolding without_link
  beside z h d = word-other p y small _ r e z h d

  pub without_in : (z : ℕ) → z < pair_digits → InPair r z → InPair p z × (z ≢ y)
  without_in z h i = go (ℕ_discrete (z / word_digits) (y / word_digits))
    where
      go : Dec (z / word_digits ≡ y / word_digits) → InPair p z × (z ≢ y)
      go (yes q) =
          let w = fewer-in _ _ _ (left z q) (z % word_digits) i in
          (w.0, λ f. w.1 (subst (λ (k : ℕ). In (alone (y % word_digits)) (k % word_digits)) (sym f) (alone-in (y % word_digits) _ refl)))
      go (no d) = (ap (λ (w : ℕ). digit w (z % word_digits)) (sym (beside z h d)) ∙ i, λ f. d (ap (λ (k : ℕ). k / word_digits) f))

  pub in_without : (z : ℕ) → z < pair_digits → InPair p z → z ≢ y → InPair r z
  in_without z h i n = go (ℕ_discrete (z / word_digits) (y / word_digits))
    where
      go : Dec (z / word_digits ≡ y / word_digits) → InPair r z
      go (yes q) = in-fewer _ _ _ (left z q) (z % word_digits) i (λ j. n (omega (arith, q, alone-only (y % word_digits) _ refl (z % word_digits) j)))
      go (no d) = ap (λ (w : ℕ). digit w (z % word_digits)) (beside z h d) ∙ i

  -- it is smaller where y was in it
  pub without-smaller : InPair p y → pair_size r < pair_size p
  without-smaller i = go (ℕ_discrete (y / word_digits) 0)
    where
      less : get_or r (y / word_digits) 0 < get_or p (y / word_digits) 0
      less = fewer-smaller _ _ _ (left y refl) (y % word_digits) i (alone-in (y % word_digits) _ refl)

      go : Dec (y / word_digits ≡ 0) → pair_size r < pair_size p
      go (yes q) = omega (arith, subst (λ (k : ℕ). get_or r k 0 < get_or p k 0) q less, beside word_digits (omega arith) (λ f. omega (arith, f, q)))
      go (no d) =
          let q : y / word_digits ≡ 1 = omega (arith, d, small) in
          omega (arith, subst (λ (k : ℕ). get_or r k 0 < get_or p k 0) q less, beside 0 (omega arith) (λ f. omega (arith, f, q)))

module _ (p : List ℕ) (y one : ℕ) (e : one ≡ alone (y % word_digits)) (small : y < pair_digits) where
  pub without-low : (w : ℕ) → w ≡ fewer (get_or p 0 0) one → y < word_digits → w ∷ get_or p 1 0 ∷ [] ≡ without_link p y
  unfolding without_link
  without-low w f h = let q : y / word_digits ≡ 0 = omega arith in rw (f, e, q)

  pub without-high : (w : ℕ) → w ≡ fewer (get_or p 1 0) one → word_digits ≤ y → get_or p 0 0 ∷ w ∷ [] ≡ without_link p y
  unfolding without_link
  without-high w f h = let q : y / word_digits ≡ 1 = omega (arith, h, small) in rw (f, e, q)

-- A link by its word.
pub low-in : (s : List ℕ) (t : ℕ) → t < word_digits → In (get_or s 0 0) t → InPair s t
low-in s t h i = let q : t / word_digits ≡ 0 = omega arith in let d : t % word_digits ≡ t = omega arith in rw (q, d) i

pub high-in : (s : List ℕ) (t : ℕ) → t < word_digits → In (get_or s 1 0) t → InPair s (word_digits + t)
high-in s t h i = let q : (word_digits + t) / word_digits ≡ 1 = omega arith in let d : (word_digits + t) % word_digits ≡ t = omega arith in rw (q, d) i

pub some-high : (a : List ℕ) → empty_pair a ≡ false → get_or a 0 0 ≡ 0 → 0 < get_or a 1 0
unfolding empty_pair
some-high a e z = go (ℕ_discrete (get_or a 1 0) 0)
  where
    go : Dec (get_or a 1 0 ≡ 0) → 0 < get_or a 1 0
    go (yes q) = absurd (eqb-false _ _ e (ap₂ bit_or z q))
    go (no n) = omega (arith, n)

-- The same put into one of the two words.
module _ (p : List ℕ) (y one : ℕ) (e : one ≡ alone (y % word_digits)) (small : y < sheet_link_limit) where
  pub with-low : y < word_digits → bit_or (get_or p 0 0) one ∷ get_or p 1 0 ∷ [] ≡ with_link p y
  unfolding with_link
  with-low h = let q : y / word_digits ≡ 0 = omega arith in rw (e, q)

  pub with-high : word_digits ≤ y → get_or p 0 0 ∷ bit_or (get_or p 1 0) one ∷ [] ≡ with_link p y
  unfolding with_link
  with-high h = let q : y / word_digits ≡ 1 = omega (arith, h, small) in rw (e, q)

-- What is common to two sets, or in one and not in the other, and a set with nothing in it.
module _ (a b r : List ℕ) (y : ℕ) (h : y < sheet_link_limit) where
  pub in-common : r ≡ common_pair a b → InPair a y → InPair b y → InPair r y
  unfolding common_pair
  in-common e = by-half (λ z. In (get_or a z 0) (y % word_digits) → In (get_or b z 0) (y % word_digits) → In (get_or r z 0) (y % word_digits)) y (in_pair h)
      (λ i j. subst (λ (l : List ℕ). In (get_or l 0 0) (y % word_digits)) (sym e) (in_and (get_or a 0 0) (get_or b 0 0) (y % word_digits) i j))
      (λ i j. subst (λ (l : List ℕ). In (get_or l 1 0) (y % word_digits)) (sym e) (in_and (get_or a 1 0) (get_or b 1 0) (y % word_digits) i j))

  pub in-fewer-pair : r ≡ fewer_pair a b → InPair a y → ¬ InPair b y → InPair r y
  unfolding fewer_pair
  in-fewer-pair e = by-half (λ z. In (get_or a z 0) (y % word_digits) → ¬ In (get_or b z 0) (y % word_digits) → In (get_or r z 0) (y % word_digits)) y (in_pair h)
      (in-fewer _ _ _ (ap (λ (l : List ℕ). get_or l 0 0) e) (y % word_digits)) (in-fewer _ _ _ (ap (λ (l : List ℕ). get_or l 1 0) e) (y % word_digits))

  pub fewer-pair-in : r ≡ fewer_pair a b → InPair r y → ¬ InPair b y
  unfolding fewer_pair
  fewer-pair-in e = by-half (λ z. In (get_or r z 0) (y % word_digits) → ¬ In (get_or b z 0) (y % word_digits)) y (in_pair h)
      (λ i. (fewer-in _ _ _ (ap (λ (l : List ℕ). get_or l 0 0) e) (y % word_digits) i).1) (λ i. (fewer-in _ _ _ (ap (λ (l : List ℕ). get_or l 1 0) e) (y % word_digits) i).1)

pub none-in-pair : (a : List ℕ) → empty_pair a ≡ true → (y : ℕ) → y < pair_digits → ¬ InPair a y
unfolding empty_pair
none-in-pair a e y h = by-half (λ z. ¬ In (get_or a z 0) (y % word_digits)) y h
    (λ i. none_in (y % word_digits) (subst (λ (w : ℕ). In w (y % word_digits)) (eqb-true _ _ e) (in-or-left (get_or a 0 0) (get_or a 1 0) (y % word_digits) i)))
    (λ i. none_in (y % word_digits) (subst (λ (w : ℕ). In w (y % word_digits)) (eqb-true _ _ e) (in-or-right (get_or a 0 0) (get_or a 1 0) (y % word_digits) i)))

pub empty-pair : (y : ℕ) → ¬ InPair (replicate 2 0) y
empty-pair y m = none_in (y % word_digits) (subst (λ (w : ℕ). In w (y % word_digits)) (get_d-filled {A = ℕ} 0 2 (y / word_digits)) m)
