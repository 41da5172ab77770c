-- Sets of barred links: what is in them after one more is stored.
use Prim.Native.Nat.{ℕ, ◌+◌, ◌*◌, ◌/◌, ◌%◌, ◌<◌}
use mathlib.Core.Path.{◌≡◌, sym, ◌∙◌, ap, subst}
use mathlib.Core.Logic.{◌≢◌, ◌⊎◌, inl, inr, ⊎_elim}
use mathlib.Core.List.{List, [], ◌∷◌}
use native.Mathlib.Decide.{ℕ_discrete, dec_lt}
use native.Mathlib.Omega.{arith}
use lib.ListN.{length, get_or, set}
use lib.Seq.{get_or-set_same, get_or-set_other, set_out}
use Rattle.rows.specs.Limits.{sheet_link_limit}
use Rattle.candidates.specs.Words.{word_digits, In, InPair, with_link}
use Rattle.candidates.specs.Tables.{LinkIn}
use Rattle.candidates.proofs.Halves.{by-half, in_pair, stored, with-only}
use Rattle.deciding.specs.Bars.{BarredTo}

-- A word that is stored is there afterwards, or the one that was.
word-from : (k : List ℕ) (q v t : ℕ) → In (get_or (set k q v) q 0) t → In v t ⊎ In (get_or k q 0) t
word-from k q v t i = go (dec_lt q (length k))
  where
    go : Dec (q < length k) → In v t ⊎ In (get_or k q 0) t
    go (yes h) = inl (subst (λ (w : ℕ). In w t) (get_or-set_same k q v 0 h) i)
    go (no h) = inr (subst (λ (l : List ℕ). In (get_or l q 0) t) (set_out k q v (omega (arith, h))) i)

word-other : (k : List ℕ) (q p v t : ℕ) → p ≢ q → In (get_or (set k q v) p 0) t → In (get_or k p 0) t
word-other k q p v t d i = subst (λ (w : ℕ). In w t) (get_or-set_other k q p v 0 d) i

module _ (k : List ℕ) (x : ℕ) (y : ℕ) (h : y < sheet_link_limit) where
  even : x * 2 + 0 ≡ x * 2
  even = omega arith

  pair-out : InPair (get_or k (x * 2) 0 ∷ get_or k (x * 2 + 1) 0 ∷ []) y → LinkIn k x y
  pair-out = by-half (λ z. In (get_or (get_or k (x * 2) 0 ∷ get_or k (x * 2 + 1) 0 ∷ []) z 0) (y % word_digits) → In (get_or k (x * 2 + z) 0) (y % word_digits)) y (in_pair h)
      (subst (λ (q : ℕ). In (get_or k q 0) (y % word_digits)) (sym even)) (λ i. i)

  -- of the set that was stored, or of the one before
  stored-from : (pair : List ℕ) → LinkIn (stored k x pair) x y → InPair pair y ⊎ LinkIn k x y
  stored-from pair = by-half (λ z. In (get_or (stored k x pair) (x * 2 + z) 0) (y % word_digits) → In (get_or pair z 0) (y % word_digits) ⊎ In (get_or k (x * 2 + z) 0) (y % word_digits)) y (in_pair h)
      (λ i. subst (λ (q : ℕ). In (get_or pair 0 0) (y % word_digits) ⊎ In (get_or k q 0) (y % word_digits)) (sym even)
      (word-from k (x * 2) (get_or pair 0 0) (y % word_digits) (word-other (set k (x * 2) (get_or pair 0 0)) (x * 2 + 1) (x * 2) (get_or pair 1 0) (y % word_digits) (λ e. omega (arith, e))
      (subst (λ (q : ℕ). In (get_or (stored k x pair) q 0) (y % word_digits)) even i))))
      (λ i. ⊎_elim inl (λ j. inr (word-other k (x * 2) (x * 2 + 1) (get_or pair 0 0) (y % word_digits) (λ e. omega (arith, e)) j))
      (word-from (set k (x * 2) (get_or pair 0 0)) (x * 2 + 1) (get_or pair 1 0) (y % word_digits) i))

  -- the sets of other links are as they were
  stored-beside : (pair : List ℕ) (u : ℕ) → x ≢ u → LinkIn (stored k u pair) x y → LinkIn k x y
  stored-beside pair u d i = word-other k (u * 2) (x * 2 + y / word_digits) (get_or pair 0 0) (y % word_digits) (λ e. d (omega (arith, e, h)))
      (word-other (set k (u * 2) (get_or pair 0 0)) (u * 2 + 1) (x * 2 + y / word_digits) (get_or pair 1 0) (y % word_digits) (λ e. d (omega (arith, e, h))) i)

module _ (kinds : List ℕ) (x y : ℕ) where
  -- y put into the set of a link of the kind of x
  pub one-barred : (was : List ℕ) (z : ℕ) → get_or kinds z 0 ≡ get_or kinds x 0 → y < sheet_link_limit → (pair : List ℕ)
      → pair ≡ with_link (get_or was (z * 2) 0 ∷ get_or was (z * 2 + 1) 0 ∷ []) y → BarredTo kinds x y was (stored was z pair)
  one-barred was z alike small pair e u w g h i = go (ℕ_discrete u z)
    where
      there : LinkIn (stored was z pair) z w → LinkIn was z w ⊎ (w ≡ y)
      there j = ⊎_elim (λ m. ⊎_elim (λ n. inl (pair-out was z w h n)) inr (with-only _ y small pair e w (in_pair h) m)) inl (stored-from was z w h pair j)

      go : Dec (u ≡ z) → LinkIn was u w ⊎ ((get_or kinds u 0 ≡ get_or kinds x 0) × (w ≡ y))
      go (yes q) = ⊎_elim (λ m. inl (subst (λ (v : ℕ). LinkIn was v w) (sym q) m)) (λ f. inr (ap (λ (v : ℕ). get_or kinds v 0) q ∙ alike, f)) (there (subst (λ (v : ℕ). LinkIn (stored was z pair) v w) q i))
      go (no d) = inl (stored-beside was u w h pair z d i)
