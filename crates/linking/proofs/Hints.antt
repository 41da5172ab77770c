-- Hints of links: a number whose hint is 0 is not among the links, and a hint that is set is not 0.
use Prim.Native.Nat.{ℕ, ◌+◌, ◌-◌, ◌<◌, ◌≤◌}
use mathlib.Core.Path.{◌≡◌, refl, ap, ◌∙◌, sym}
use mathlib.Core.List.{List}
use mathlib.Core.Bool.{Bool, true, false}
use mathlib.Core.Logic.{⊎_elim}
use native.Mathlib.Nat.{eq-or-lt_of_le}
use native.Mathlib.Omega.{arith}
use lib.Dec.{eqb, ltb}
use lib.ListN.{length, get_or, take, set, length-set}
use lib.Seq.{get_or-take, get_or-set_same, get_or-set_other, length-take-le}
use borrow.Author.Tests.{eq-eqb, ne_eqb, eqb-true, ltb-true, lt-ltb, le-ltb}
use Rattle.rows.specs.Pick.{pick, and}
use Rattle.rows.specs.Format.{head_letter}
use Rattle.rows.specs.Held.{index_of}
use Rattle.rows.proofs.Lists.{index_below}
use Rattle.linking.specs.Steps.{Distinct, count_with, hint_count, hint_at, Hinted, place_by, gone, cleared}
use Rattle.linking.proofs.Loops.{index-lacks, index-end, index-distinct}

-- before the first link
pub hinted-none : (hints links : List ℕ) → length hints ≡ hint_count → Hinted hints links 0
hinted-none hints links e = record { wide = e; seen = λ p h q. absurd (omega arith) }

module _ (hints links : List ℕ) (n : ℕ) (k : Hinted hints links n) where
  pub unseen : (x : ℕ) → n ≤ length links → get_or hints (hint_at x) 0 ≡ 0 → n ≡ index_of x (take n links)
  unseen x fits e =
      let len : length (take n links) ≡ n = length-take-le n links fits in
      let lacks = index-lacks (take n links) x 0 n (omega arith) (λ j h q. k.seen j (omega arith) (ap (λ (y : ℕ). get_or hints (hint_at y) 0) (sym (get_or-take n links j 0 (omega arith)) ∙ ap (λ (i : ℕ). get_or (take n links) i 0) (omega arith) ∙ q) ∙ e)) in
      omega (arith, lacks, index-end (take n links) x (0 + n) (omega arith))

  -- with the hint of x set
  module _ (x i v : ℕ) (at : i ≡ hint_at x) (small : i < hint_count) where
    abbrev out : List ℕ
    out = set hints i (v + 1)

    set-hint : (y : ℕ) → get_or out (hint_at y) 0 ≡ 0 → (hint_at y ≡ i → ⊥) × (get_or hints (hint_at y) 0 ≡ 0)
    set-hint y e =
        let other : hint_at y ≡ i → ⊥ = λ q. absurd (let z : v + 1 ≡ 0 = sym (get_or-set_same hints i (v + 1) 0 (rw k.wide small)) ∙ ap (λ (j : ℕ). get_or out j 0) (sym q) ∙ e in omega arith) in
        (other, sym (get_or-set_other hints i (hint_at y) (v + 1) 0 other) ∙ e)

    out-wide : length out ≡ hint_count
    out-wide = simp length-set k.wide

    pub hinted-old : (p : ℕ) → p < n → Hinted out links (count_with n p)
    hinted-old p h = rw (ne_eqb p n (λ e. omega arith)) (record { wide = out-wide; seen = λ q l e. k.seen q l (set-hint (get_or links q 0) e).1 })

    pub hinted-new : n < length links → Hinted out (set links n x) (count_with n n)
    hinted-new room = rw (eq-eqb n n refl) (record {
      wide = out-wide;
      seen = λ q l. ⊎_elim
          (λ (e : q ≡ n). rw e (rw (get_or-set_same links n x 0 room) (λ z. (set-hint x z).0 (sym at))))
          (λ (h : q < n). rw (get_or-set_other links n q x 0 (λ e. omega arith)) (λ z. k.seen q h (set-hint (get_or links q 0) z).1))
          (eq-or-lt_of_le (let m : q ≤ n = omega arith in m));
    })

  -- with a head the links are gone, and so none is left without a hint
  pub hinted-left : (letter kept : ℕ) (links' : List ℕ) → kept ≡ n - gone letter n → links' ≡ cleared (gone letter n) links → Hinted hints links' kept
  hinted-left letter kept links' ek el = go (eqb letter head_letter) ek el
    where
      go : (b : Bool) → kept ≡ n - pick b n 0 → links' ≡ cleared (pick b n 0) links → Hinted hints links' kept
      go true q r = let z : kept ≡ 0 = omega arith in rw z (hinted-none hints links' k.wide)
      go false q r = let z : kept ≡ n = omega arith in rw z (rw r k)

-- the place that is found with hints
module _ (links : List ℕ) (n x : ℕ) (hints : List ℕ) (hint : ℕ) (e : hint ≡ get_or hints (hint_at x) 0) where
  pub place-few : length links < n → n ≡ place_by links n x hints
  place-few h = rw (lt-ltb (length links) n h)

  module _ (fits : n ≤ length links) where
    pub place-new : hint ≡ 0 → n ≡ place_by links n x hints
    place-new z = rw (← e) (rw (le-ltb (length links) n fits) (rw (eq-eqb hint 0 z)))

    pub place-named : (hint ≡ 0 → ⊥) → hint - 1 < n → get_or links (hint - 1) 0 ≡ x → hint - 1 ≡ place_by links n x hints
    place-named z near there =
        rw (← e) (rw (le-ltb (length links) n fits) (rw (ne_eqb hint 0 z) (rw (lt-ltb (hint - 1) n near) (rw (eq-eqb (get_or links (hint - 1) 0) x there)))))

    pub place_other : (hint ≡ 0 → ⊥) → and (ltb (hint - 1) n) (eqb (get_or links (hint - 1) 0) x) ≡ false → index_of x (take n links) ≡ place_by links n x hints
    place_other z away = rw (← e) (rw (le-ltb (length links) n fits) (rw (ne_eqb hint 0 z) (rw away)))

-- it is at most n
module _ (links : List ℕ) (n x : ℕ) (hints : List ℕ) where
  abbrev hint : ℕ
  hint = get_or hints (hint_at x) 0

  pub place-within : place_by links n x hints ≤ n
  place-within = go (ltb (length links) n) (eqb hint 0) (ltb (hint - 1) n) refl (eqb (get_or links (hint - 1) 0) x)
    where
      go : (short new near : Bool) → ltb (hint - 1) n ≡ near → (there : Bool) → pick short n (pick new n (pick (and near there) (hint - 1) (index_of x (take n links)))) ≤ n
      go true new near e there = omega arith
      go false true near e there = omega arith
      go false false true e true = omega (arith, ltb-true (hint - 1) n e)
      go false false true e false = index_below x n links
      go false false false e there = index_below x n links

  -- where each link has a hint and stands once, it is the link's place, or the next where it is new
  pub place_found : n ≤ length links → Hinted hints links n → Distinct (take n links) → place_by links n x hints ≡ index_of x (take n links)
  place_found fits hinted once =
      rw (le-ltb (length links) n fits) (go (eqb hint 0) refl (ltb (hint - 1) n) refl (eqb (get_or links (hint - 1) 0) x) refl)
    where
      go : (new : Bool) → eqb hint 0 ≡ new → (near : Bool) → ltb (hint - 1) n ≡ near → (there : Bool) → eqb (get_or links (hint - 1) 0) x ≡ there
          → pick new n (pick (and near there) (hint - 1) (index_of x (take n links))) ≡ index_of x (take n links)
      go true e near f there g = unseen hints links n hinted x fits (eqb-true hint 0 e)
      go false e true f true g = index-distinct n links x (hint - 1) fits (ltb-true (hint - 1) n f) (eqb-true (get_or links (hint - 1) 0) x g) once
      go false e true f false g = refl
      go false e false f there g = refl
