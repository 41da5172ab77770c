-- The sizes of pieces, one piece after the other.
use Rattle.std.proofs.Common.{◌≡◌, ℕ, zero, suc, ◌+◌, ◌-◌, ◌/◌, ◌%◌, ◌^◌, ◌<◌, ◌≤◌, ◌≢◌, ◌⊎◌, List, length, get_or, sym, refl, ap, ◌∙◌, subst, inl, inr, div-one, add-one, arith, shr_lt, below_more}
use native.Mathlib.Decide.{dec_le}
use lib.Count.{ones_in, ones, ones_step}
use Rattle.rows.specs.declared.Sheet.{Sheet as NormalForm}
use Rattle.placing.specs.Net.{Net, Range}
use Rattle.network.specs.NetIn.{net_in}
use Rattle.network.specs.Reach.{stay, move}
use Rattle.network.specs.Sums.{sum_to, HowMany}
use Rattle.network.proofs.NetIn.{atoms-length}
use Rattle.network.proofs.Reaching.{reach-cast, reach-then, reach-back}
use Rattle.network.proofs.Sums.{without-to, sum-front, sum_same}
use Rattle.candidates.specs.Laid.{LaidOut}
use Rattle.candidates.specs.Words.{word_digits, digit, In}
use Rattle.candidates.proofs.Digits.{in-dec, digit_lt, digit-shifted}
use Rattle.colours.specs.Pieces.{Share, OnePiece, Sizes}
use Rattle.colours.specs.Arrays.{PieceIn}

-- 1 for the numbers of a set, which are counted from 1 here
abbrev pub flags : ℕ → ℕ → ℕ
flags word j = digit word (j - 1)

-- The digits that are 1 are as many as there are numbers in the set.
pub ones_below : (d word : ℕ) → word < 2 ^ d → ones word ≡ sum_to (flags word) d
unfolding sum_to ones ones_in digit
ones_below zero word h = ap ones (let e : word ≡ 0 = omega arith in e)
ones_below (suc d) word h =
    omega (arith, ones_step word, ones_below d (word / 2) (shr_lt d 1 (subst (λ (k : ℕ). word < 2 ^ k) (sym (add-one d)) h)), sum-front (flags word) d, lowest, sum_same (λ j. flags word (suc j)) (flags (word / 2)) d rest)
  where
    lowest : flags word 1 ≡ word % 2
    lowest = ap (digit word) (let e : 1 - 1 ≡ 0 = omega arith in e) ∙ ap (λ (x : ℕ). x % 2) (div-one word)

    rest : (j : ℕ) → Range d j → flags word (suc j) ≡ flags (word / 2) j
    rest j r = ap (digit word) (let e : suc j - 1 ≡ 1 + (j - 1) = omega (arith, r.0) in e) ∙ digit-shifted word 1 (j - 1)

sum-tail : (f : ℕ → ℕ) (n m : ℕ) → n ≤ m → ((j : ℕ) → n < j → f j ≡ 0) → sum_to f m ≡ sum_to f n
unfolding sum_to
sum-tail f n zero h z = ap (sum_to f) (let e : 0 ≡ n = omega arith in e)
sum-tail f n (suc m) h z = go (dec_le n m) (λ b. sum-tail f n m b z)
  where
    go : Dec (n ≤ m) → (n ≤ m → sum_to f m ≡ sum_to f n) → sum_to f (suc m) ≡ sum_to f n
    go (yes b) r = omega (arith, z (suc m) (omega arith), r b)
    go (no b) r = ap (sum_to f) (let e : suc m ≡ n = omega arith in e)

module _ (net : NormalForm) where
  abbrev N : Net
  N = net_in net

  share_back : (i j : ℕ) → Share N i j → Share N j i
  share_back i j s = record { first-atom = s.second-atom; second-atom = s.first-atom; link = s.link; first = s.second; second = s.first }

  in-piece : {i j : ℕ} → OnePiece N i j → Range (length N.atoms) i → Range (length N.atoms) j
  in-piece stay r = r
  in-piece (move s p) r = in-piece p s.second-atom

  -- a piece is that of each of its atoms
  pub piece-other : (t u word : ℕ) → PieceIn net t word → In word u → PieceIn net u word
  piece-other t u word p m v = (λ i. reach-then (Share N) (reach-back (Share N) share_back ((p u).0 m)) ((p v).0 i), λ r. (p v).1 (reach-then (Share N) ((p u).0 m) r))

  -- how many are in the piece of atom t
  pub piece-size : (t word : ℕ) → Range (length N.atoms) (suc t) → length N.atoms ≤ word_digits → PieceIn net t word → HowMany (OnePiece N (suc t)) (length N.atoms) (sum_to (flags word) word_digits)
  piece-size t word r few p = record { flag = flags word; says = says; in_all = sym (sum-tail (flags word) (length N.atoms) word_digits few none) }
    where
      zero-digit : (k : ℕ) → ¬ In word k → digit word k ≡ 0
      zero-digit k n = let b = digit_lt word k in go (digit word k) b n
        where
          go : (d : ℕ) → d < 2 → ¬ (d ≡ 1) → d ≡ 0
          go zero b n = refl
          go (suc zero) b n = absurd (n refl)
          go (suc (suc d)) b n = absurd (omega arith)

      says : (j : ℕ) → Range (length N.atoms) j → (OnePiece N (suc t) j × (flags word j ≡ 1)) ⊎ ((¬ OnePiece N (suc t) j) × (flags word j ≡ 0))
      says j k = go (in-dec word (j - 1))
        where
          e : suc (j - 1) ≡ j
          e = omega (arith, k.0)

          go : Dec (In word (j - 1)) → (OnePiece N (suc t) j × (flags word j ≡ 1)) ⊎ ((¬ OnePiece N (suc t) j) × (flags word j ≡ 0))
          go (yes m) = inl (reach-cast (Share N) e ((p (j - 1)).0 m), m)
          go (no n) = inr (λ q. n ((p (j - 1)).1 (reach-cast (Share N) (sym e) q)), zero-digit (j - 1) n)

      none : (j : ℕ) → length N.atoms < j → flags word j ≡ 0
      none j h = zero-digit (j - 1) (λ m. let q = in-piece ((p (j - 1)).0 m) r in absurd (omega (arith, h, q.1)))

-- a word has the piece of atom u, and its size is noted
pub record Sized (net : NormalForm) (sizes : List ℕ) (u : ℕ) : Type 0 where
  pub word : ℕ
  pub piece : PieceIn net u word
  pub size : get_or sizes u 0 ≡ sum_to (flags word) word_digits

-- all sizes that are noted are right, and those of the first t atoms are noted
pub record SizedTo (net : NormalForm) (n : ℕ) (sizes : List ℕ) (t : ℕ) : Type 0 where
  pub right : (u : ℕ) → u < n → get_or sizes u 0 ≢ 0 → Sized net sizes u
  pub noted : (u : ℕ) → u < t → get_or sizes u 0 ≢ 0

module _ (net : NormalForm) (n : ℕ) (sizes : List ℕ) (t : ℕ) (s : SizedTo net n sizes t) where
  pub sized-skip : get_or sizes t 0 ≢ 0 → SizedTo net n sizes (t + 1)
  sized-skip z = record { right = s.right; noted = below_more (λ (u : ℕ). get_or sizes u 0 ≢ 0) t s.noted z }

  pub sized-more : (now : List ℕ) (word : ℕ) → n ≤ word_digits → t < n → PieceIn net t word → ((u : ℕ) → u < word_digits → In word u → get_or now u 0 ≡ sum_to (flags word) word_digits) → ((u : ℕ) → ¬ In word u → get_or now u 0 ≡ get_or sizes u 0)
      → SizedTo net n now (t + 1)
  sized-more now word few h p put kept = record { right = λ u b. right u b (in-dec word u); noted = below_more (λ (u : ℕ). get_or now u 0 ≢ 0) t (λ u b. noted u b (in-dec word u)) (some t (omega (arith, h, few)) ((p t).1 stay)) }
    where
      some : (u : ℕ) → u < word_digits → In word u → get_or now u 0 ≢ 0
      some u b m z =
          let e = without-to (flags word) (suc u) word_digits (omega arith) (omega arith) in
          let q : flags word (suc u) ≡ 1 = ap (digit word) (let w : suc u - 1 ≡ u = omega arith in w) ∙ m in
          absurd (omega (arith, z, put u b m, e, q))

      right : (u : ℕ) → u < n → Dec (In word u) → get_or now u 0 ≢ 0 → Sized net now u
      right u b (yes m) z = record { word = word; piece = piece-other net t u word p m; size = put u (omega (arith, b, few)) m }
      right u b (no d) z = let r = s.right u b (λ e. z (kept u d ∙ e)) in record { word = r.word; piece = r.piece; size = kept u d ∙ r.size }

      noted : (u : ℕ) → u < t → Dec (In word u) → get_or now u 0 ≢ 0
      noted u b (yes m) = some u (omega (arith, b, h, few)) m
      noted u b (no d) = λ z. s.noted u b (sym (kept u d) ∙ z)

pub sized-all : (net : NormalForm) (laid : List ℕ) (n : ℕ) → LaidOut net laid n → (sizes : List ℕ) → SizedTo net n sizes n → Sizes (net_in net) (λ j. get_or sizes (j - 1) 0)
sized-all net laid n o sizes s i r =
    subst (λ (k : ℕ). HowMany (OnePiece (net_in net) i) (length (net_in net).atoms) k) (sym z.size) (subst (λ (j : ℕ). HowMany (OnePiece (net_in net) j) (length (net_in net).atoms) (sum_to (flags z.word) word_digits)) e (piece-size net (i - 1) z.word (subst (Range (length (net_in net).atoms)) (sym e) r) few z.piece))
  where
    len : length (net_in net).atoms ≡ n
    len = atoms-length net o.fit ∙ o.count

    few : length (net_in net).atoms ≤ word_digits
    few = omega (arith, atoms-length net o.fit, o.fit.atom-count)

    e : suc (i - 1) ≡ i
    e = omega (arith, r.0)

    b : i - 1 < n
    b = omega (arith, r.0, r.1, len)

    z : Sized net sizes (i - 1)
    z = s.right (i - 1) b (s.noted (i - 1) b)
