-- Lists in arrays: a list with padding after it, and stores into it.
use Prim.Native.Nat.{ℕ, zero, suc, ◌+◌, ◌-◌, ◌<◌, ◌≤◌}
use mathlib.Core.Path.{◌≡◌, refl, ap, ◌∙◌, sym}
use mathlib.Core.List.{List, [], ◌∷◌, ◌++◌, map, map-append, append_assoc}
use native.Mathlib.Decide.{dec_lt}
use native.Mathlib.Numerals.{add-one}
use native.Mathlib.Omega.{arith}
use lib.ListN.{length, get_or, take, set, replicate, length-append, length-replicate, length-map, get_or-append, get_or-eq_default}
use lib.Seq.{take-suc, length-take-le, take-append_seam, drop-append_seam, set-append_seam, set-get_or, get_or-append-add}
use Rattle.rows.specs.Packed.{padded}
use Rattle.rows.proofs.Lists.{mapped}

pub get_d-filled : {A : Type 0} (d : A) (n k : ℕ) → get_or (replicate n d) k d ≡ d
get_d-filled d zero k = refl
get_d-filled d (suc n) zero = refl
get_d-filled d (suc n) (suc k) = get_d-filled d n k

module _ {A : Type 0} (n : ℕ) (d : A) (l : List A) where
  pub length-padded : length l ≤ n → length (padded n d l) ≡ n
  unfolding padded
  length-padded h = simp (length-append, length-replicate) (omega arith)

  pub take-padded : take (length l) (padded n d l) ≡ l
  unfolding padded
  take-padded = take-append_seam l (replicate (n - length l) d)

  pub get_d-padded : (i : ℕ) (e : A) → i < length l → get_or (padded n d l) i e ≡ get_or l i e
  unfolding padded
  get_d-padded i e h = get_or-append l (replicate (n - length l) d) e i h

  pub mapped-padded : (f : A → A) (k : ℕ) → k ≡ length l → mapped f k (padded n d l) ≡ padded n d (map f l)
  unfolding padded
  mapped-padded f k q =
      rw q (rw (take-append_seam l (replicate (n - length l) d)) (rw (drop-append_seam l (replicate (n - length l) d)) (rw (length-map l f))))

  -- past the list stands its padding, and past the padding nothing
  pub get_d-padding : (i : ℕ) → get_or (padded n d l) i d ≡ get_or l i d
  unfolding padded
  get_d-padding i = go (dec_lt i (length l))
    where
      go : Dec (i < length l) → get_or (l ++ replicate (n - length l) d) i d ≡ get_or l i d
      go (yes h) = get_or-append l (replicate (n - length l) d) d i h
      go (no h) =
          let le : length l ≤ i = omega (arith, h) in
          let split : i ≡ length l + (i - length l) = omega arith in
          rw (get_or-eq_default l d le) (rw split (rw (get_or-append-add l (replicate (n - length l) d) (i - length l) d) (get_d-filled d (n - length l) (i - length l))))

  -- padding stored just after the list changes nothing
  pub set-padding : set (padded n d l) (length l) d ≡ padded n d l
  set-padding =
      let e : get_or (padded n d l) (length l) d ≡ d = get_d-padding (length l) ∙ get_or-eq_default l d (omega arith) in
      ap (set (padded n d l) (length l)) (sym e) ∙ set-get_or (padded n d l) (length l) d

  -- a store just after the list makes it longer by one
  pub set-padded : (a : A) (k : ℕ) → k ≡ length l → length l < n → set (padded n d l) k a ≡ padded n d (l ++ (a ∷ []))
  unfolding padded
  set-padded a k q h =
      let e : n - length l ≡ suc (n - (length l + 1)) = omega arith in
      let z : n - length (l ++ (a ∷ [])) ≡ n - (length l + 1) = rw length-append in
      rw q (rw e (rw (set-append_seam l d (replicate (n - (length l + 1)) d) a) (rw z (sym (append_assoc l (a ∷ []) (replicate (n - (length l + 1)) d))))))

-- one more number behind those of the first k elements
pub stored_next : (n : ℕ) (f : ℕ → ℕ) (l r : List ℕ) (k : ℕ) → r ≡ padded n 0 (map f (take k l)) → k < length l → k < n
    → set r k (f (get_or l k 0)) ≡ padded n 0 (map f (take (k + 1) l))
stored_next n f l r k e h room =
    let front : length (map f (take k l)) ≡ k = length-map (take k l) f ∙ length-take-le k l (omega arith) in
    rw e (rw (set-padded n 0 (map f (take k l)) (f (get_or l k 0)) k (sym front) (omega arith))
    (rw (add-one k) (rw (take-suc l k 0 h) (rw (map-append f (take k l) (get_or l k 0 ∷ []))))))
