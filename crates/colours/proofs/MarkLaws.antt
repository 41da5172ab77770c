-- The marks of a link joined: in whatever order, and however often each stands there.
use Rattle.std.proofs.Common.{◌≡◌, ℕ, suc, ◌+◌, ◌-◌, ◌/◌, ◌%◌, ◌<◌, max, Bool, true, false, T, eqb, ltb, List, [], ◌∷◌, ◌++◌, length, get_or, take, set, sym, refl, ap, ◌∙◌, subst, mod-lt, add-one, arith, eqb→eq, get_or-set_other, take-suc, get_or-set_same}
use native.Mathlib.Decide.{ℕ_discrete}
use lib.Arith.{bin_ind, digits_div, digits_mod}
use lib.Bits.{bit_or, or_step, or_comm, or_self, or_zero_l, or_zero_r}
use Rattle.hyperlmntal.specs.Link.{select}
use Rattle.rows.specs.Pick.{pick}
use Rattle.placing.specs.Net.{Range}
use Rattle.reading.specs.Normal.{inserted}
use Rattle.colours.specs.Colours.{marks_at}
use Rattle.colours.specs.Mixed.{seed, mixed, joined_marks}

two : (a b : ℕ) → max (a % 2) (b % 2) < 2
two a b = omega (arith, mod-lt a (let q : 0 < 2 = omega arith in q), mod-lt b (let q : 0 < 2 = omega arith in q))

or-half : (a b : ℕ) → bit_or a b / 2 ≡ bit_or (a / 2) (b / 2)
or-half a b = ap (λ (x : ℕ). x / 2) (or_step a b) ∙ digits_div (bit_or (a / 2) (b / 2)) (two a b)

or-odd : (a b : ℕ) → bit_or a b % 2 ≡ max (a % 2) (b % 2)
or-odd a b = ap (λ (x : ℕ). x % 2) (or_step a b) ∙ digits_mod (bit_or (a / 2) (b / 2)) (two a b)

or_assoc : (a b c : ℕ) → bit_or (bit_or a b) c ≡ bit_or a (bit_or b c)
or_assoc = bin_ind (λ (a : ℕ). (b c : ℕ) → bit_or (bit_or a b) c ≡ bit_or a (bit_or b c))
    (λ b c. ap (λ (x : ℕ). bit_or x c) (or_zero_l b) ∙ sym (or_zero_l (bit_or b c)))
    (λ a r b c.
    omega (arith, or_step (bit_or a b) c, or_step a (bit_or b c), ap (λ (x : ℕ). bit_or x (c / 2)) (or-half a b), r (b / 2) (c / 2), ap (λ (x : ℕ). bit_or (a / 2) x) (or-half b c), or-odd a b, or-odd b c))

or-inner : (a b c : ℕ) → bit_or a (bit_or b c) ≡ bit_or b (bit_or a c)
or-inner a b c = sym (or_assoc a b c) ∙ ap (λ (x : ℕ). bit_or x c) (or_comm a b) ∙ or_assoc b a c

joined-inserted : (m : ℕ) (l : List ℕ) → joined_marks (inserted m l) ≡ bit_or (mixed seed m) (joined_marks l)
unfolding joined_marks inserted
joined-inserted m [] = refl
joined-inserted m (k ∷ l) = go (ltb m k) (eqb m k) refl (joined-inserted m l)
  where
    go : (b c : Bool) → eqb m k ≡ c → joined_marks (inserted m l) ≡ bit_or (mixed seed m) (joined_marks l)
        → joined_marks (pick b (m ∷ k ∷ l) (pick c (k ∷ l) (k ∷ inserted m l))) ≡ bit_or (mixed seed m) (bit_or (mixed seed k) (joined_marks l))
    go true c e r = refl
    go false true e r =
        let q : mixed seed k ≡ mixed seed m = ap (mixed seed) (sym (eqb→eq m k (subst T (sym e) tt))) in
        ap (λ (x : ℕ). bit_or x (joined_marks l)) (sym (or_self (mixed seed k))) ∙ or_assoc (mixed seed k) (mixed seed k) (joined_marks l) ∙ ap (λ (x : ℕ). bit_or x (bit_or (mixed seed k) (joined_marks l))) q
    go false false e r = ap (bit_or (mixed seed k)) r ∙ or-inner (mixed seed k) (mixed seed m) (joined_marks l)

-- one mark more
joined-more : (x : ℕ) (l : List (ℕ × ℕ)) (e : ℕ × ℕ) → joined_marks (marks_at x (l ++ (e ∷ []))) ≡ bit_or (joined_marks (marks_at x l)) (select (ℕ_discrete x e.0) (mixed seed e.1) 0)
unfolding marks_at joined_marks
joined-more x [] e = go (ℕ_discrete x e.0)
  where
    go : (d : Dec (x ≡ e.0)) → joined_marks (select d (inserted e.1 []) []) ≡ bit_or 0 (select d (mixed seed e.1) 0)
    go (yes q) = joined-inserted e.1 [] ∙ or_comm (mixed seed e.1) 0
    go (no q) = sym (or_zero_l 0)
joined-more x (a ∷ l) e = go (ℕ_discrete x a.0) (joined-more x l e)
  where
    s : ℕ
    s = select (ℕ_discrete x e.0) (mixed seed e.1) 0

    go : (d : Dec (x ≡ a.0)) → joined_marks (marks_at x (l ++ (e ∷ []))) ≡ bit_or (joined_marks (marks_at x l)) s
        → joined_marks (select d (inserted a.1 (marks_at x (l ++ (e ∷ [])))) (marks_at x (l ++ (e ∷ [])))) ≡ bit_or (joined_marks (select d (inserted a.1 (marks_at x l)) (marks_at x l))) s
    go (yes q) r =
        joined-inserted a.1 (marks_at x (l ++ (e ∷ []))) ∙ ap (bit_or (mixed seed a.1)) r ∙ sym (or_assoc (mixed seed a.1) (joined_marks (marks_at x l)) s)
        ∙ ap (λ (w : ℕ). bit_or w s) (sym (joined-inserted a.1 (marks_at x l)))
    go (no q) r = r

-- mark m of link y is joined to what the marks before it gave
module _ (l : List (ℕ × ℕ)) (links : List ℕ) (n p y m r : ℕ) (room : length links ≡ n) (at : p < length l) (entry : get_or l p (0, 0) ≡ (y, m)) (link : Range n y) where
  pub marks-next : ((x : ℕ) → x < n → get_or links x 0 ≡ joined_marks (marks_at (suc x) (take p l))) → r ≡ bit_or (get_or links (y - 1) 0) (mixed seed m)
      → (x : ℕ) → x < n → get_or (set links (y - 1) r) x 0 ≡ joined_marks (marks_at (suc x) (take (p + 1) l))
  marks-next before e x h = go (ℕ_discrete (suc x) y) more
    where
      more : joined_marks (marks_at (suc x) (take (p + 1) l)) ≡ bit_or (joined_marks (marks_at (suc x) (take p l))) (select (ℕ_discrete (suc x) y) (mixed seed m) 0)
      more = rw (add-one p) (ap (λ (w : List (ℕ × ℕ)). joined_marks (marks_at (suc x) w)) (take-suc l p (0, 0) at ∙ ap (λ (w : ℕ × ℕ). take p l ++ (w ∷ [])) entry) ∙ joined-more (suc x) (take p l) (y, m))

      go : (d : Dec (suc x ≡ y)) → joined_marks (marks_at (suc x) (take (p + 1) l)) ≡ bit_or (joined_marks (marks_at (suc x) (take p l))) (select d (mixed seed m) 0)
          → get_or (set links (y - 1) r) x 0 ≡ joined_marks (marks_at (suc x) (take (p + 1) l))
      go (yes q) k =
          let s : x ≡ y - 1 = omega arith in
          let w : y - 1 < length links = omega (arith, h, room) in
          ap (λ (z : ℕ). get_or (set links (y - 1) r) z 0) s ∙ get_or-set_same links (y - 1) r 0 w ∙ e ∙ ap (λ (z : ℕ). bit_or (get_or links z 0) (mixed seed m)) (sym s) ∙ ap (λ (z : ℕ). bit_or z (mixed seed m)) (before x h) ∙ sym k
      go (no q) k = get_or-set_other links (y - 1) x r 0 (λ s. q (omega (arith, s, link.0))) ∙ before x h ∙ sym (k ∙ or_zero_r (joined_marks (marks_at (suc x) (take p l))))
