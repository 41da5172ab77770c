-- Unions of classes, grown by a loop.
use Prim.Native.Nat.{ℕ, zero, suc, ◌+◌, ◌*◌, ◌/◌, ◌%◌, ◌≤◌, ◌<◌}
use mathlib.Core.Path.{◌≡◌, sym, ◌∙◌, ap, subst}
use mathlib.Core.Logic.{◌⊎◌, inl, inr, ⊎_elim, ◌≢◌}
use mathlib.Core.List.{List}
use mathlib.Core.Bool.{Bool, true, false}
use native.Mathlib.Decide.{ℕ_discrete, dec_lt}
use native.Mathlib.Nat.{div-one}
use native.Mathlib.Omega.{arith}
use lib.Bits.{bit_and, bit_or}
use lib.Dec.{ltb}
use lib.ListN.{length, get_or, set, replicate, length-set, length-replicate}
use lib.Seq.{get_or-set_same, get_or-set_other}
use Rattle.rows.specs.Pick.{pick}
use borrow.Author.Tests.{lt-ltb, le-ltb}
use Rattle.candidates.specs.Words.{word_digits, digit, In, fewer}
use Rattle.candidates.proofs.Digits.{in-dec, none_in, in_and, in-or-left, in-or-right, or-in, fewer-in, in-fewer, fewer-smaller, first-in, digit-shifted}
use Rattle.stepping.specs.Standing.{context_digits}
use Rattle.remaining.specs.Joining.{all_contexts, word_count, MayAt, Joined, Spread, Closure, closure_in}

-- n digits, all 1
unfoldable ones : ℕ → ℕ
ones zero = 0
ones (suc n) = suc (ones n * 2)

ones_in : (n t : ℕ) → t < n → In (ones n) t
unfolding digit ones
ones_in zero t h = absurd (omega (arith, h))
ones_in (suc n) zero h = ap (λ (s : ℕ). s % 2) (div-one (suc (ones n * 2))) ∙ omega arith
ones_in (suc n) (suc t) h =
    let e : suc (ones n * 2) / 2 ≡ ones n = omega arith in
    let q : suc t ≡ 1 + t = omega arith in
    ap (digit (suc (ones n * 2))) q ∙ digit-shifted (suc (ones n * 2)) 1 t ∙ ap (λ (s : ℕ). digit s t) e ∙ ones_in n t (omega (arith, h))

pub all_in : (t : ℕ) → t < context_digits → In all_contexts t
unfolding ones
all_in t h = ones_in context_digits t h

module _ (flag at y word kind : ℕ) where
  -- the link has no context in the word
  pub joined-idle : bit_and word kind ≡ 0 → Joined flag at y word kind word
  joined-idle e = record { kept = λ t i. i; joined = λ m t t' k k' i. absurd (none_in t (subst (λ (s : ℕ). In s t) e (in_and word kind t i k))) }

  pub joined-both : Joined flag at y word kind (bit_or word kind)
  joined-both = record { kept = λ t i. in-or-left word kind t i; joined = λ m t t' k k' i. in-or-right word kind t' k' }

  -- the link may not go there
  pub joined-never : flag ≢ 1 → at ≢ y → Joined flag at y word kind word
  joined-never n m = record { kept = λ t i. i; joined = λ w. absurd (⊎_elim n m w) }

module _ (standing flags to : List ℕ) (y word : ℕ) where
  pub spread-start : Spread standing flags to 0 y word word
  spread-start = record { kept = λ t i. i; joined = λ x h. absurd (omega (arith, h)) }

  pub spread-next : (n was r : ℕ) → Spread standing flags to n y word was → Joined (get_or flags n 0) (get_or to n 0) y was (get_or standing n 0) r → Spread standing flags to (n + 1) y word r
  spread-next n was r s j = record { kept = λ t i. j.kept t (s.kept t i); joined = joined }
    where
      joined : (x : ℕ) → x < n + 1 → MayAt flags to y x → (t t' : ℕ) → In (get_or standing x 0) t → In (get_or standing x 0) t' → In word t → In r t'
      joined x h m t t' k k' i = by (dec_lt x n)
        where
          by : Dec (x < n) → In r t'
          by (yes l) = j.kept t' (s.joined x l m t t' k k' i)
          by (no l) =
              let e : x ≡ n = omega (arith, h) in
              let P : ℕ → Type 0 = λ z. MayAt flags to y z → In (get_or standing z 0) t → In (get_or standing z 0) t' → In r t' in
              subst P (sym e) (λ m' u u'. j.joined m' t t' u u' (s.kept t i)) m k k'

  -- A pass that changes nothing.
  pub closure-still : (count r : ℕ) → ((t : ℕ) → In word t → In r t) → Spread standing flags to count y r r → Closure standing flags to count y word r
  closure-still count r k s = record { kept = λ t h i. k t i; closed = λ x h m t t' l u u' i. s.joined x h m t t' u u' i }

  pub closure-all : (count : ℕ) → Closure standing flags to count y word all_contexts
  closure-all count = record { kept = λ t h i. all_in t h; closed = λ x h m t t' l u u' i. all_in t' l }

module _ (standing flags to : List ℕ) (count y : ℕ) where
  pub closure-none : Closure standing flags to count y 0 0
  closure-none = record { kept = λ t h i. i; closed = λ x h m t t' l u u' i. absurd (none_in t i) }

  -- What is in one of two words.
  pub closure-both : (a b word ra rb : ℕ) → ((t : ℕ) → In word t → In a t ⊎ In b t) → Closure standing flags to count y a ra → Closure standing flags to count y b rb
      → Closure standing flags to count y word (bit_or ra rb)
  closure-both a b word ra rb f ca cb = record { kept = kept; closed = closed }
    where
      kept : (t : ℕ) → t < context_digits → In word t → In (bit_or ra rb) t
      kept t h i = ⊎_elim (λ u. in-or-left ra rb t (ca.kept t h u)) (λ u. in-or-right ra rb t (cb.kept t h u)) (f t i)

      closed : (x : ℕ) → x < count → MayAt flags to y x → (t t' : ℕ) → t' < context_digits → In (get_or standing x 0) t → In (get_or standing x 0) t' → In (bit_or ra rb) t → In (bit_or ra rb) t'
      closed x h m t t' l u u' i = ⊎_elim (λ w. in-or-left ra rb t' (ca.closed x h m t t' l u u' w)) (λ w. in-or-right ra rb t' (cb.closed x h m t t' l u u' w)) (or-in ra rb t i)

module _ (table : List ℕ) (word : ℕ) where
  by-test : (b : Bool) → ltb word word_count ≡ b → closure_in table word ≡ pick b (get_or table word 0) all_contexts
  by-test b e = ap (λ (a : Bool). pick a (get_or table word 0) all_contexts) e

  pub closure-in : word < word_count → closure_in table word ≡ get_or table word 0
  closure-in h = by-test true (lt-ltb word word_count h)

  pub closure-out : word_count ≤ word → closure_in table word ≡ all_contexts
  closure-out h = by-test false (le-ltb word word_count h)

-- A word without its first digit, and without the others.
module _ (word rest : ℕ) (small : word < word_count) where
  pub rest-less : (u first : ℕ) → In word first → In u first → rest ≡ fewer word u → rest < word
  rest-less u first i a e = fewer-smaller word u rest e first i a

  module _ (u head : ℕ) (e : rest ≡ fewer word u) (f : head ≡ fewer word rest) where
    pub head-less : rest ≢ 0 → rest < word → head < word
    head-less n l =
        let s = first-in word_digits rest (omega (arith, n)) (omega (arith, l, small)) in
        fewer-smaller word rest head f _ (fewer-in word u rest e _ s.1).0 s.1

    pub head-or-rest : (t : ℕ) → In word t → In head t ⊎ In rest t
    head-or-rest t i = by (in-dec rest t)
      where
        by : Dec (In rest t) → In head t ⊎ In rest t
        by (yes k) = inr k
        by (no k) = inl (in-fewer word rest head f t i k)

module _ (standing flags to : List ℕ) (count : ℕ) where
  -- The first w words have theirs in the table.
  abbrev pub TableTo : ℕ → List ℕ → Type 0
  TableTo w table = (length table ≡ word_count) × ((v : ℕ) → v < w → Closure standing flags to count 0 v (get_or table v 0))

  pub table-start : (table : List ℕ) → table ≡ replicate word_count 0 → TableTo 1 table
  table-start table e = (
    ap length e ∙ length-replicate {A = ℕ} word_count 0,
    λ v h. let z : v ≡ 0 = omega (arith, h) in
        subst (λ (i : ℕ). Closure standing flags to count 0 i (get_or table i 0)) (sym z)
        (subst (Closure standing flags to count 0 0) (sym (ap (λ (k : List ℕ). get_or k 0 0) e)) (closure-none standing flags to count 0)),
  )

  pub table-next : (w : ℕ) (table : List ℕ) → w < word_count → TableTo w table → (r : ℕ) → Closure standing flags to count 0 w r → TableTo (w + 1) (set table w r)
  table-next w table h t r c = (length-set table w r ∙ t.0, each)
    where
      each : (v : ℕ) → v < w + 1 → Closure standing flags to count 0 v (get_or (set table w r) v 0)
      each v l = by (ℕ_discrete v w)
        where
          by : Dec (v ≡ w) → Closure standing flags to count 0 v (get_or (set table w r) v 0)
          by (yes e) = subst (λ (i : ℕ). Closure standing flags to count 0 i (get_or (set table w r) i 0)) (sym e)
              (subst (Closure standing flags to count 0 w) (sym (get_or-set_same table w r 0 (omega (arith, h, t.0)))) c)
          by (no n) = subst (Closure standing flags to count 0 v) (sym (get_or-set_other table w v r 0 n)) (t.1 v (omega (arith, l, n)))

  pub table-end : (w : ℕ) (table : List ℕ) → word_count ≤ w → TableTo w table → (word : ℕ) → Closure standing flags to count 0 word (closure_in table word)
  table-end w table h t word = by (dec_lt word word_count)
    where
      by : Dec (word < word_count) → Closure standing flags to count 0 word (closure_in table word)
      by (yes l) = subst (Closure standing flags to count 0 word) (sym (closure-in table word l)) (t.1 word (omega (arith, l, h)))
      by (no l) = subst (Closure standing flags to count 0 word) (sym (closure-out table word (omega (arith, l)))) (closure-all standing flags to 0 word count)
