-- Links entered place by place.
use Prim.Native.Nat.{ℕ, suc, ◌+◌, ◌-◌, ◌≤◌, ◌<◌}
use mathlib.Core.Path.{◌≡◌, refl, sym, ◌∙◌, ap, subst}
use mathlib.Core.Logic.{◌≢◌, ◌⊎◌, inl, inr}
use mathlib.Core.List.{List}
use native.Mathlib.Omega.{arith}
use native.Mathlib.Numerals.{add-one}
use lib.ListN.{length, get_or, length-set}
use lib.Seq.{get_or-set_same}
use Rattle.rows.specs.Limits.{sheet_link_limit}
use Rattle.placing.specs.Placing.{number_at}
use Rattle.deciding.specs.Links.{Enters, Places, AcrossFrom, PlacesAgree, PlacesIn}
use Rattle.deciding.proofs.Sets.{set_cases, below-cases}

-- What is entered keeps what stood there.
module _ (to : List ℕ) (room : length to ≡ sheet_link_limit) (x y : ℕ) (small : x < sheet_link_limit) (r : List ℕ) (e : Enters to x y r) where
  fits : x < length to
  fits = omega arith

  enters-cases : (P : ℕ → Type 0) (z : ℕ) → (z ≡ x → P y) → (z ≢ x → P (get_or to z 0)) → P (get_or r z 0)
  enters-cases P z a b = subst (λ (l : List ℕ). P (get_or l z 0)) (sym e.is) (set_cases P to x y z fits a b)

  pub enters-room : length r ≡ sheet_link_limit
  enters-room = ap length e.is ∙ (length-set to x y ∙ room)

  pub enters-at : get_or r x 0 ≡ y
  enters-at = ap (λ (l : List ℕ). get_or l x 0) e.is ∙ get_or-set_same to x y 0 fits

  pub enters-kept : (z : ℕ) → get_or to z 0 ≢ 0 → get_or r z 0 ≡ get_or to z 0
  enters-kept z n = enters-cases (λ (v : ℕ). v ≡ get_or to z 0) z (λ f. go f e.at) (λ f. refl)
    where
      go : z ≡ x → (get_or to x 0 ≡ 0) ⊎ (get_or to x 0 ≡ y) → y ≡ get_or to z 0
      go f (inl w) = absurd (n (ap (λ (i : ℕ). get_or to i 0) f ∙ w))
      go f (inr w) = sym (ap (λ (i : ℕ). get_or to i 0) f ∙ w)

  -- each is as it was, or what was entered
  pub enters-each : (P : ℕ → ℕ → Type 0) → P x y → ((z : ℕ) → get_or to z 0 ≢ 0 → P z (get_or to z 0)) → (z : ℕ) → get_or r z 0 ≢ 0 → P z (get_or r z 0)
  enters-each P a b z = enters-cases (λ (v : ℕ). v ≢ 0 → P z v) z (λ f n. subst (λ (i : ℕ). P i y) (sym f) a) (λ f n. b z n)

-- places that agree still do where what stood is kept
pub agree-kept : (to r a b : List ℕ) (count : ℕ) → ((z : ℕ) → get_or to z 0 ≢ 0 → get_or r z 0 ≡ get_or to z 0) → ((k : ℕ) → k < count → get_or b k 0 ≢ 0)
    → PlacesAgree to a b count → PlacesAgree r a b count
agree-kept to r a b count kept some agree k h = kept (get_or a k 0 - 1) (λ e. some k h (sym (agree k h) ∙ e)) ∙ agree k h

pub number-some : (y : ℕ) → 1 ≤ y → y ≢ 0
number-some y h e = omega arith

module _ (to a b : List ℕ) (room : length to ≡ sheet_link_limit) where
  module _ (count : ℕ) (pa : Places count a) (pb : Places count b) (k : ℕ) (less : k < count) (next : List ℕ) (p : PlacesIn to a b k next) where
    abbrev x : ℕ
    x = get_or a k 0 - 1

    abbrev y : ℕ
    y = get_or b k 0

    link : get_or a k 0 ≡ suc x
    link = omega (arith, pa.numbered k less)

    pub place-small : x < sheet_link_limit
    place-small = omega (arith, pa.numbered k less)

    wider : (z v : ℕ) → AcrossFrom a b k z v → AcrossFrom a b (k + 1) z v
    wider z v t = (t.0, (let h : t.0 < k = t.1 in omega arith), t.2, t.3)

    whole : (z v : ℕ) → AcrossFrom a b k z v → AcrossFrom a b count z v
    whole z v t = (t.0, (let h : t.0 < k = t.1 in omega arith), t.2, t.3)

    -- one place more
    pub places-next : (r : List ℕ) → Enters next x y r → PlacesIn to a b (k + 1) r
    places-next r e = record {
      room = enters-room next p.room x y place-small r e;
      kept = λ z n. enters-kept next p.room x y place-small r e z (λ f. n (sym (p.kept z n) ∙ f)) ∙ p.kept z n;
      each = λ z. enters-cases next p.room x y place-small r e (λ (v : ℕ). (v ≡ get_or to z 0) ⊎ AcrossFrom a b (k + 1) z v) z
          (λ f. inr (k, omega arith, link ∙ ap suc (sym f), refl)) (λ f. old z (p.each z));
      agree = λ i h. below-cases (λ (j : ℕ). number_at r (get_or a j 0) ≡ get_or b j 0) k i (omega (arith, add-one k))
          (λ w. agree-kept next r a b k (enters-kept next p.room x y place-small r e) (λ j u. number-some (get_or b j 0) (pb.numbered j (omega arith)).0) p.agree i w)
          (enters-at next p.room x y place-small r e);
    }
      where
        old : (z : ℕ) → (get_or next z 0 ≡ get_or to z 0) ⊎ AcrossFrom a b k z (get_or next z 0) → (get_or next z 0 ≡ get_or to z 0) ⊎ AcrossFrom a b (k + 1) z (get_or next z 0)
        old z (inl f) = inl f
        old z (inr t) = inr (wider z (get_or next z 0) t)
