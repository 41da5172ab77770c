-- Unions of words of a table, and atoms that are barred by them.
use Prim.Native.Nat.{ℕ, ◌+◌, ◌*◌, ◌-◌, ◌/◌, ◌%◌, ◌≤◌, ◌<◌}
use mathlib.Core.Path.{◌≡◌, subst}
use mathlib.Core.Logic.{◌⊎◌, inl, inr, ⊎_elim}
use mathlib.Core.List.{List, [], ◌∷◌}
use native.Mathlib.Decide.{ℕ_discrete, dec_lt}
use native.Mathlib.Omega.{arith}
use lib.Bits.{bit_or}
use lib.ListN.{get_or}
use Rattle.rows.specs.Format.{most_links}
use Rattle.rows.specs.Limits.{sheet_link_limit}
use Rattle.candidates.specs.Laid.{laid_atom, link_of, Rowed}
use Rattle.candidates.specs.Words.{word_digits, In, InPair}
use Rattle.candidates.proofs.Halves.{pair-in}
use Rattle.candidates.specs.Tables.{LinkIn}
use Rattle.candidates.proofs.Digits.{none_in, in-or-left, in-or-right, or-in}
use Rattle.narrowing.specs.Users.{UsersIn, UsesAt}
use Rattle.narrowing.specs.Steps.{Barred, Fitting}

-- t is in one of the words that s names, of n words from place `at`
abbrev pub Named : (users : List ℕ) (at n s t : ℕ) → Type 0
Named users at n s t = (y : ℕ) × (y < n) × In s y × In (get_or users (at + y) 0) t

-- The words that s names are joined in `all`, but for those of `rest`.
pub record Joined (users : List ℕ) (at n s all rest : ℕ) : Type 0 where
  pub of : (y : ℕ) → In rest y → In s y
  pub only : (t : ℕ) → In all t → Named users at n s t
  pub has : (t y : ℕ) → y < n → In s y → In (get_or users (at + y) 0) t → In rest y ⊎ In all t

module _ (users : List ℕ) (at n s : ℕ) where
  pub joined-none : Joined users at n s 0 s
  joined-none = record { of = λ y m. m; only = λ t m. absurd (none_in t m); has = λ t y h m i. inl m }

  pub joined-all : (all : ℕ) → Joined users at n s all 0 → ((t : ℕ) → In all t → Named users at n s t) × ((t y : ℕ) → y < n → In s y → In (get_or users (at + y) 0) t → In all t)
  joined-all all j = (j.only, λ t y h m i. ⊎_elim (λ v. absurd (none_in y v)) (λ v. v) (j.has t y h m i))

  -- y is taken from the rest
  module _ (all rest : ℕ) (j : Joined users at n s all rest) (y w less : ℕ) (i : In rest y) (o : (u : ℕ) → In w u → u ≡ y)
      (only-less : (u : ℕ) → In less u → In rest u × (¬ In w u)) (has-less : (u : ℕ) → In rest u → ¬ In w u → In less u) where
    left : (z : ℕ) → ¬ (z ≡ y) → In rest z → In less z
    left z d m = has-less z m (λ v. d (o z v))

    pub joined-skip : n ≤ y → Joined users at n s all less
    joined-skip b = record { of = λ z m. j.of z (only-less z m).0; only = j.only; has = λ t z h m v. ⊎_elim (λ r. inl (left z (λ e. absurd (omega (arith, e, h, b))) r)) inr (j.has t z h m v) }

    pub joined-more : y < n → Joined users at n s (bit_or all (get_or users (at + y) 0)) less
    joined-more b = record { of = λ z m. j.of z (only-less z m).0; only = only; has = has }
      where
        only : (t : ℕ) → In (bit_or all (get_or users (at + y) 0)) t → Named users at n s t
        only t m = ⊎_elim (j.only t) (λ v. (y, b, j.of y i, v)) (or-in all (get_or users (at + y) 0) t m)

        has : (t z : ℕ) → z < n → In s z → In (get_or users (at + z) 0) t → In less z ⊎ In (bit_or all (get_or users (at + y) 0)) t
        has t z h m v = go (ℕ_discrete z y)
          where
            go : Dec (z ≡ y) → In less z ⊎ In (bit_or all (get_or users (at + y) 0)) t
            go (yes e) = inr (in-or-right all (get_or users (at + y) 0) t (subst (λ (q : ℕ). In (get_or users (at + q) 0) t) e v))
            go (no d) = ⊎_elim (λ r. inl (left z d r)) (λ r. inr (in-or-left all (get_or users (at + y) 0) t r)) (j.has t z h m v)

-- the two words of a set of links
pub uses-only : (users : List ℕ) (k : ℕ) (set : List ℕ) (t : ℕ) → Named users (k * sheet_link_limit) word_digits (get_or set 0 0) t ⊎ Named users (k * sheet_link_limit + word_digits) (sheet_link_limit - word_digits) (get_or set 1 0) t → UsesAt users k set t
uses-only users k set t = ⊎_elim low high
  where
    low : Named users (k * sheet_link_limit) word_digits (get_or set 0 0) t → UsesAt users k set t
    low v = let y = v.0 in let a : y / word_digits ≡ 0 = omega (arith, v.1) in let b : y % word_digits ≡ y = omega (arith, v.1) in (y, omega (arith, v.1), rw (a, b) v.2, v.3)

    high : Named users (k * sheet_link_limit + word_digits) (sheet_link_limit - word_digits) (get_or set 1 0) t → UsesAt users k set t
    high v =
        let y = v.0 in
        let a : (word_digits + y) / word_digits ≡ 1 = omega (arith, v.1) in
        let b : (word_digits + y) % word_digits ≡ y = omega (arith, v.1) in
        let e : k * sheet_link_limit + word_digits + y ≡ k * sheet_link_limit + (word_digits + y) = omega arith in
        (word_digits + y, omega (arith, v.1), rw (a, b) v.2, subst (λ (q : ℕ). In (get_or users q 0) t) e v.3)

pub uses-has : (users : List ℕ) (k : ℕ) (set : List ℕ) (t : ℕ) → UsesAt users k set t → Named users (k * sheet_link_limit) word_digits (get_or set 0 0) t ⊎ Named users (k * sheet_link_limit + word_digits) (sheet_link_limit - word_digits) (get_or set 1 0) t
uses-has users k set t u = go (dec_lt u.0 word_digits)
  where
    go : Dec (u.0 < word_digits) → Named users (k * sheet_link_limit) word_digits (get_or set 0 0) t ⊎ Named users (k * sheet_link_limit + word_digits) (sheet_link_limit - word_digits) (get_or set 1 0) t
    go (yes h) = let y = u.0 in let a : y / word_digits ≡ 0 = omega arith in let b : y % word_digits ≡ y = omega arith in inl (y, h, rw (a, b) at u.2, u.3)
    go (no h) =
        let y = u.0 in
        let a : y / word_digits ≡ 1 = omega (arith, u.1) in
        let b : y % word_digits ≡ y - word_digits = omega (arith, u.1) in
        let e : k * sheet_link_limit + y ≡ k * sheet_link_limit + word_digits + (y - word_digits) = omega arith in
        inr (y - word_digits, omega (arith, u.1), rw (a, b) at u.2, subst (λ (q : ℕ). In (get_or users q 0) t) e u.3)

-- what has none of the links left, and what has one that went
module _ (users : List ℕ) (k : ℕ) (left : List ℕ) where
  pub barred-left : (out : ℕ) → ((t : ℕ) → UsesAt users k left t → ¬ In out t) → Barred users k left out
  barred-left out f laid n u t y h b c e m = f t (y, h, m, u.has t k y b c e)

  pub barred-gone : k < most_links → (gone : List ℕ) → ((y : ℕ) → y < sheet_link_limit → InPair gone y → ¬ InPair left y) → (out : ℕ) → ((t : ℕ) → In out t → UsesAt users k gone t) → Barred users k left out
  barred-gone s gone w out f laid n u t y h b c e m i =
      let v = f t i in
      let o = u.only t k v.0 s v.1 v.3 in
      let q : y ≡ v.0 = omega (arith, o.2, e) in
      w v.0 v.1 v.2 (subst (InPair left) q m)

-- what bars an atom at link x bars none that fits a figure atom that has x
pub fitting-spared : (sheet : List ℕ) (n : ℕ) (figure : List ℕ) (m : ℕ) (users owners links : List ℕ) (k x out : ℕ) → Rowed sheet n → UsersIn sheet n users → UsersIn figure m owners → k < most_links → x < sheet_link_limit
    → Barred users k (get_or links (x * 2) 0 ∷ get_or links (x * 2 + 1) 0 ∷ []) out
    → (i t : ℕ) → t < n → Fitting (laid_atom figure i) (laid_atom sheet t) links → In (get_or owners (k * sheet_link_limit + x) 0) i → ¬ In out t
fitting-spared sheet n figure m users owners links k x out r u w h b bar i t l f o =
    let v = w.only i k x h b o in
    let c : k < (laid_atom sheet t).count = omega (arith, v.1, f.counts) in
    let g = (r.atoms t l).numbered k c in
    let y = link_of (laid_atom sheet t) k - 1 in
    let s : y < sheet_link_limit = omega (arith, g.0, g.1) in
    let e : link_of (laid_atom figure i) k - 1 ≡ x = omega (arith, v.2) in
    bar sheet n u t y s l c (omega (arith, g.0)) (pair-in links x y s (subst (λ (z : ℕ). LinkIn links z y) e (f.links k v.1)))
