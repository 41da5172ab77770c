-- The digits of words: of what is common to two, of what is in one of them, of a power of two, of the first that is 1.
use Prim.Native.Nat.{ℕ, zero, suc, ◌+◌, ◌*◌, ◌/◌, ◌%◌, ◌^◌, ◌<◌, min, max}
use mathlib.Core.Path.{◌≡◌, refl, sym, ◌∙◌, ap, ap₂, subst}
use mathlib.Core.Logic.{◌≢◌, ◌⊎◌, inl, inr}
use native.Mathlib.Decide.{ℕ_discrete}
use native.Mathlib.Nat.{mod-lt, div-one, pow-suc, zero-min}
use native.Mathlib.Omega.{arith}
use lib.Arith.{bin_ind, digits_div, digits_mod}
use lib.Bits.{and_mask, bit_and, bit_or, bit_xor, differ, and_step, or_step, xor_step, and_shr, or_shr, xor_shr}
use lib.Count.{count_trailing_zeros, under}
use lib.Pow.{shr-shr, shl_exact}
use Rattle.candidates.specs.Words.{word_digits, digit, In, alone, fewer, first_in}

-- digits one by one
digit-zero : (s : ℕ) → digit s 0 ≡ s % 2
unfolding digit
digit-zero s = ap (λ (x : ℕ). x % 2) (div-one s)

digit-suc : (s t : ℕ) → digit s (suc t) ≡ digit (s / 2) t
unfolding digit
digit-suc s t = ap (λ (k : ℕ). s / 2 ^ k % 2) (let q : suc t ≡ 1 + t = omega arith in q) ∙ ap (λ (x : ℕ). x % 2) (sym (shr-shr s 1 t))

pub digit_lt : (s t : ℕ) → digit s t < 2
unfolding digit
digit_lt s t = mod-lt (s / 2 ^ t) (omega arith)

pub in-dec : (a t : ℕ) → Dec (In a t)
in-dec a t = ℕ_discrete (digit a t) 1

-- 0 has no digit that is 1
digit-none : (t : ℕ) → digit 0 t ≡ 0
digit-none zero = digit-zero 0
digit-none (suc t) = digit-suc 0 t ∙ digit-none t

pub none_in : (t : ℕ) → ¬ In 0 t
none_in t e = omega (arith, e, digit-none t)

pub in_some : (a t : ℕ) → In a t → 0 < a
in_some zero t e = absurd (none_in t e)
in_some (suc a) t e = omega arith

-- another number has one
pub some_in : (a : ℕ) → 0 < a → (t : ℕ) × In a t
some_in = bin_ind (λ (a : ℕ). 0 < a → (t : ℕ) × In a t) (λ h. absurd (omega (arith, h))) step
  where
    step : (a : ℕ) → (0 < a / 2 → (t : ℕ) × In (a / 2) t) → 0 < a → (t : ℕ) × In a t
    step a ih h = go (ℕ_discrete (a % 2) 1)
      where
        go : Dec (a % 2 ≡ 1) → (t : ℕ) × In a t
        go (yes e) = (0, digit-zero a ∙ e)
        go (no n) = let r = ih (omega (arith, h, n)) in (suc r.0, digit-suc a r.0 ∙ r.1)

-- ---- two words

two : (n : ℕ) → n % 2 < 2
two n = mod-lt n (omega arith)

and-odd : (a b : ℕ) → bit_and a b % 2 ≡ min (a % 2) (b % 2)
and-odd a b = ap (λ (x : ℕ). x % 2) (and_step a b) ∙ digits_mod (bit_and (a / 2) (b / 2)) (omega (arith, two a, two b))

or-odd : (a b : ℕ) → bit_or a b % 2 ≡ max (a % 2) (b % 2)
or-odd a b = ap (λ (x : ℕ). x % 2) (or_step a b) ∙ digits_mod (bit_or (a / 2) (b / 2)) (omega (arith, two a, two b))

differ-lt : (x y : ℕ) → x < 2 → y < 2 → differ x y < 2
differ-lt zero y a b = b
differ-lt (suc zero) zero a b = a
differ-lt (suc zero) (suc y) a b = omega (arith, b)
differ-lt (suc (suc x)) y a b = absurd (omega (arith, a))

xor-odd : (a b : ℕ) → bit_xor a b % 2 ≡ differ (a % 2) (b % 2)
xor-odd a b = ap (λ (x : ℕ). x % 2) (xor_step a b) ∙ digits_mod (bit_xor (a / 2) (b / 2)) (differ-lt (a % 2) (b % 2) (two a) (two b))

digit_and : (a b t : ℕ) → digit (bit_and a b) t ≡ min (digit a t) (digit b t)
unfolding digit
digit_and a b t = ap (λ (x : ℕ). x % 2) (and_shr a b t) ∙ and-odd (a / 2 ^ t) (b / 2 ^ t)

digit_or : (a b t : ℕ) → digit (bit_or a b) t ≡ max (digit a t) (digit b t)
unfolding digit
digit_or a b t = ap (λ (x : ℕ). x % 2) (or_shr a b t) ∙ or-odd (a / 2 ^ t) (b / 2 ^ t)

digit-xor : (a b t : ℕ) → digit (bit_xor a b) t ≡ differ (digit a t) (digit b t)
unfolding digit
digit-xor a b t = ap (λ (x : ℕ). x % 2) (xor_shr a b t) ∙ xor-odd (a / 2 ^ t) (b / 2 ^ t)

module _ (a b t : ℕ) where
  pub in_and : In a t → In b t → In (bit_and a b) t
  in_and p q = omega (arith, digit_and a b t, p, q)

  pub and_in : In (bit_and a b) t → In a t × In b t
  and_in p = let e = digit_and a b t in let h = digit_lt a t in let k = digit_lt b t in (omega (arith, p), omega (arith, p))

  pub in-or-left : In a t → In (bit_or a b) t
  in-or-left p = omega (arith, digit_or a b t, p, digit_lt b t)

  pub in-or-right : In b t → In (bit_or a b) t
  in-or-right p = omega (arith, digit_or a b t, p, digit_lt a t)

  pub or-in : In (bit_or a b) t → In a t ⊎ In b t
  or-in p = go (in-dec a t)
    where
      go : Dec (In a t) → In a t ⊎ In b t
      go (yes q) = inl q
      go (no q) = inr (omega (arith, digit_or a b t, p, q, digit_lt a t, digit_lt b t))

-- ---- what is in a and not in b: a without what is common to both

less : (x y : ℕ) → x < 2 → y < 2 → (differ x (min x y) ≡ 1 → (x ≡ 1) × (y ≢ 1)) × (x ≡ 1 → y ≢ 1 → differ x (min x y) ≡ 1) × (differ x (min x y) + min x y ≡ x)
less zero y a b = ((λ e. absurd (omega (arith, e, zero-min y))), (λ e n. absurd (omega (arith, e))), ap (λ (z : ℕ). differ 0 z + z) (zero-min y))
less (suc zero) zero a b = ((λ e. (refl, λ q. omega (arith, q))), (λ e n. refl), refl)
less (suc zero) (suc zero) a b = ((λ e. absurd (omega (arith, e))), (λ e n. absurd (n refl)), refl)
less (suc zero) (suc (suc y)) a b = absurd (omega (arith, b))
less (suc (suc x)) y a b = absurd (omega (arith, a))

-- the two parts make a
parts-sum : (a b : ℕ) → bit_xor a (bit_and a b) + bit_and a b ≡ a
parts-sum = bin_ind (λ (a : ℕ). (b : ℕ) → bit_xor a (bit_and a b) + bit_and a b ≡ a) (λ b. refl) step
  where
    step : (a : ℕ) → ((b : ℕ) → bit_xor (a / 2) (bit_and (a / 2) b) + bit_and (a / 2) b ≡ a / 2) → (b : ℕ) → bit_xor a (bit_and a b) + bit_and a b ≡ a
    step a ih b =
        let c = bit_and a b in
        let d = bit_and (a / 2) (b / 2) in
        let m = min (a % 2) (b % 2) in
        let h : c / 2 ≡ d = ap (λ (x : ℕ). x / 2) (and_step a b) ∙ digits_div d (omega (arith, two a, two b)) in
        let o : c % 2 ≡ m = and-odd a b in
        let x : bit_xor a c ≡ bit_xor (a / 2) d * 2 + differ (a % 2) m = xor_step a c ∙ ap₂ (λ (u v : ℕ). bit_xor (a / 2) u * 2 + differ (a % 2) v) h o in
        let y : c ≡ d * 2 + m = and_step a b in
        omega (arith, x, y, ih (b / 2), (less (a % 2) (b % 2) (two a) (two b)).2)

module _ (a b : ℕ) where
  digit-less : (t : ℕ) → digit (bit_xor a (bit_and a b)) t ≡ differ (digit a t) (min (digit a t) (digit b t))
  digit-less t = digit-xor a (bit_and a b) t ∙ ap (differ (digit a t)) (digit_and a b t)

  less-in : (t : ℕ) → In (bit_xor a (bit_and a b)) t → In a t × (¬ In b t)
  less-in t e = (less (digit a t) (digit b t) (digit_lt a t) (digit_lt b t)).0 (sym (digit-less t) ∙ e)

  in-less : (t : ℕ) → In a t → ¬ In b t → In (bit_xor a (bit_and a b)) t
  in-less t p q = digit-less t ∙ (less (digit a t) (digit b t) (digit_lt a t) (digit_lt b t)).1 p q

module _ (a b r : ℕ) (e : r ≡ fewer a b) where
  pub fewer-in : (t : ℕ) → In r t → In a t × (¬ In b t)
  unfolding fewer
  fewer-in t i = less-in a b t (subst (λ (s : ℕ). In s t) e i)

  pub in-fewer : (t : ℕ) → In a t → ¬ In b t → In r t
  unfolding fewer
  in-fewer t p q = subst (λ (s : ℕ). In s t) (sym e) (in-less a b t p q)

  -- it is a smaller number where something went
  pub fewer-smaller : (t : ℕ) → In a t → In b t → r < a
  unfolding fewer
  fewer-smaller t p q = omega (arith, e, parts-sum a b, in_some (bit_and a b) t (in_and a b t p q))

-- ---- a power of two, and the first digit that is 1

half_pow : (t : ℕ) → 2 ^ suc t / 2 ≡ 2 ^ t
half_pow t = ap (λ (x : ℕ). x / 2) (pow-suc 2 t) ∙ omega arith

even-pow : (t : ℕ) → 2 ^ suc t % 2 ≡ 0
even-pow t = ap (λ (x : ℕ). x % 2) (pow-suc 2 t) ∙ omega arith

in-pow : (t : ℕ) → In (2 ^ t) t
in-pow zero = digit-zero 1
in-pow (suc t) = digit-suc (2 ^ suc t) t ∙ ap (λ (x : ℕ). digit x t) (half_pow t) ∙ in-pow t

pow-in : (t u : ℕ) → In (2 ^ t) u → u ≡ t
pow-in zero zero e = refl
pow-in zero (suc u) e = absurd (none_in u (sym (digit-suc 1 u) ∙ e))
pow-in (suc t) zero e = absurd (omega (arith, e, digit-zero (2 ^ suc t), even-pow t))
pow-in (suc t) (suc u) e = ap suc (pow-in t u (sym (ap (λ (x : ℕ). digit x u) (half_pow t)) ∙ sym (digit-suc (2 ^ suc t) u) ∙ e))

-- as the machine makes it, in the digits of a word
pub shifted : (t : ℕ) → t < word_digits → 1 * 2 ^ t % 2 ^ word_digits ≡ alone t
unfolding alone
shifted t h = shl_exact {a = 1} 1 t word_digits (omega arith) (omega (arith, h)) ∙ omega arith

module _ (t r : ℕ) (e : r ≡ alone t) where
  pub alone-in : In r t
  unfolding alone
  alone-in = subst (λ (s : ℕ). In s t) (sym e) (in-pow t)

  pub alone-only : (u : ℕ) → In r u → u ≡ t
  unfolding alone
  alone-only u i = pow-in t u (subst (λ (s : ℕ). In s u) e i)

pub shifted_one : (s t : ℕ) → bit_and (s / 2 ^ t) 1 ≡ digit s t
unfolding digit
shifted_one s t = and_mask (s / 2 ^ t) 1

pub first-in : (k n : ℕ) → 0 < n → n < 2 ^ k → (count_trailing_zeros k n < k) × In n (count_trailing_zeros k n)
unfolding count_trailing_zeros
first-in zero n p h = absurd (omega (arith, p, h))
first-in (suc k) n p h = go (n % 2) refl (λ q. first-in k (n / 2) q (omega (arith, h, pow-suc 2 k)))
  where
    go : (d : ℕ) → n % 2 ≡ d → (0 < n / 2 → (count_trailing_zeros k (n / 2) < k) × In (n / 2) (count_trailing_zeros k (n / 2))) → (under d (count_trailing_zeros k (n / 2)) < suc k) × In n (under d (count_trailing_zeros k (n / 2)))
    go zero e f =
        let r = f (omega (arith, p, e)) in
        (omega (arith, r.0), digit-suc n (count_trailing_zeros k (n / 2)) ∙ r.1)
    go (suc d) e f = (omega arith, digit-zero n ∙ omega (arith, e, two n))

-- the digits of a word from t on are those of the word shifted
pub digit-shifted : (s t i : ℕ) → digit s (t + i) ≡ digit (s / 2 ^ t) i
unfolding digit
digit-shifted s t i = ap (λ (x : ℕ). x % 2) (sym (shr-shr s t i))

-- the digits below the first that is 1
pub below-first : (k n u : ℕ) → u < count_trailing_zeros k n → ¬ In n u
unfolding count_trailing_zeros
below-first zero n u h = absurd (omega (arith, h))
below-first (suc k) n u h = go (n % 2) refl u h (below-first k (n / 2))
  where
    go : (d : ℕ) → n % 2 ≡ d → (v : ℕ) → v < under d (count_trailing_zeros k (n / 2)) → ((w : ℕ) → w < count_trailing_zeros k (n / 2) → ¬ In (n / 2) w) → ¬ In n v
    go zero q zero l f e = absurd (omega (arith, q, e, digit-zero n))
    go zero q (suc v) l f e = f v (omega (arith, l)) (sym (digit-suc n v) ∙ e)
    go (suc d) q v l f e = absurd (omega (arith, l))

-- nothing in the set is below its first
pub first-least : (s u : ℕ) → u < first_in s → ¬ In s u
unfolding first_in
first-least s u h = below-first word_digits s u h
