-- The smallest good placing: what is found is good, nothing good is earlier, and none is found exactly where nothing is good.
use Prim.Native.Nat.{ℕ, zero, suc, ◌-◌, ◌≤◌}
use mathlib.Core.Path.{◌≡◌, refl, sym, ◌∙◌, ap, subst}
use mathlib.Core.Logic.{◌⊎◌, inl, inr, ◌↔◌}
use mathlib.Core.List.Memᴰ
use mathlib.Core.List.{List, [], ◌∷◌, ◌++◌, map}
use mathlib.Core.Bool.{Bool, true, false}
use mathlib.Core.Option.{Option, none, some}
use native.Mathlib.Omega.{arith}
use lib.ListN.{length, get_or, take, drop, replicate, take-append-drop}
use lib.Seq.{take_at, drop_at}
use Rattle.hyperlmntal.specs.Link.{◌∈◌}
use Rattle.hyperlmntal.proofs.Positions.{some-injective}
use Rattle.placing.specs.Net.{NetCell, Net, Range, greatest}
use Rattle.placing.specs.Placing.{Placing, given_to, Good}
use Rattle.placing.specs.First.{Within, nothing, also, Before, here, later, first_list}
use Rattle.placing.specs.Smallest.{is_taken, Earlier, list_of, placing_of, bounds_of, placing_from, good_list, placing_in, smallest}
use Rattle.placing.proofs.FirstLaws.{both_ways, before-or, first-least, first-none}
use Rattle.placing.proofs.Tests.{refuted, turned_down}
use Rattle.placing.proofs.GoodTest.{says-taken, says-good}

-- A placing as one list.
pub placing-of-list : (n m : ℕ) (p : Placing) → length p.atoms_to ≡ n → length p.links_to ≡ m → placing_of n m (list_of p) ≡ p
placing-of-list n m p e f = λ i. record { atoms_to = take_at p.atoms_to (p.links_to ++ p.given) n e i; links_to = (ap (take m) d ∙ take_at p.links_to p.given m f) i; given = (ap (drop m) d ∙ drop_at p.links_to p.given m f) i }
  where
    d : drop n (list_of p) ≡ p.links_to ++ p.given
    d = drop_at p.atoms_to (p.links_to ++ p.given) n e

-- The order of placings is that of their lists.
before-longer : (a b : List ℕ) {l m : List ℕ} → Before l m → Before (l ++ a) (m ++ b)
before-longer a b (here h) = here h
before-longer a b (later e d) = later e (before-longer a b d)

before_same : (a b : List ℕ) {l m : List ℕ} → a ≡ b → Before l m → Before (a ++ l) (b ++ m)
before_same a b {l} {m} e d = subst (λ c. Before (a ++ l) (c ++ m)) e (front a)
  where
    front : (c : List ℕ) → Before (c ++ l) (c ++ m)
    front [] = d
    front (x ∷ c) = later refl (front c)

pub earlier-before : (q p : Placing) → Earlier q p → Before (list_of q) (list_of p)
earlier-before q p (inl d) = before-longer _ _ d
earlier-before q p (inr (e, inl d)) = before_same _ _ e (before-longer _ _ d)
earlier-before q p (inr (e, inr (f, d))) = before_same _ _ e (before_same _ _ f d)

-- Of two placings of the same lengths that differ, one is earlier.
pub earlier-or : (p q : Placing) → length p.atoms_to ≡ length q.atoms_to → length p.links_to ≡ length q.links_to → length p.given ≡ length q.given
    → Earlier p q ⊎ (Earlier q p ⊎ (p ≡ q))
earlier-or p q a l g = atoms (before-or _ _ a) (before-or _ _ l) (before-or _ _ g)
  where
    Order : List ℕ → List ℕ → Type 0
    Order k m = Before k m ⊎ (Before m k ⊎ (k ≡ m))

    atoms : Order p.atoms_to q.atoms_to → Order p.links_to q.links_to → Order p.given q.given → Earlier p q ⊎ (Earlier q p ⊎ (p ≡ q))
    atoms (inl d) s t = inl (inl d)
    atoms (inr (inl d)) s t = inr (inl (inl d))
    atoms (inr (inr e)) (inl d) t = inl (inr (e, inl d))
    atoms (inr (inr e)) (inr (inl d)) t = inr (inl (inr (sym e, inl d)))
    atoms (inr (inr e)) (inr (inr f)) (inl d) = inl (inr (e, inr (f, d)))
    atoms (inr (inr e)) (inr (inr f)) (inr (inl d)) = inr (inl (inr (sym e, inr (sym f, d))))
    atoms (inr (inr e)) (inr (inr f)) (inr (inr h)) = inr (inr (λ i. record { atoms_to = e i; links_to = f i; given = h i }))

-- A good placing is within the bounds.
at-most-greatest : {x : ℕ} {l : List ℕ} → x ∈ l → x ≤ greatest l
at-most-greatest (Memᴰ.head {x = y} {xs = l} e) = omega arith
at-most-greatest (Memᴰ.tail {x = y} {xs = l} m) = let h = at-most-greatest m in omega arith

within-append : {bs cs l m : List ℕ} → Within bs l → Within cs m → Within (bs ++ cs) (l ++ m)
within-append nothing w = w
within-append (also h v) w = also h (within-append v w)

within-alike : (b n : ℕ) (l : List ℕ) → length l ≡ n → ((i : ℕ) → Range n i → get_or l (i - 1) 0 ≤ b) → Within (replicate n b) l
within-alike b zero [] e h = nothing
within-alike b zero (x ∷ l) e h = absurd (omega arith)
within-alike b (suc n) [] e h = absurd (omega arith)
within-alike b (suc n) (x ∷ l) e h = also (h 1 (omega arith, omega arith)) (within-alike b n l (omega arith) next)
  where
    next : (i : ℕ) → Range n i → get_or l (i - 1) 0 ≤ b
    next i r =
        let k : 1 ≤ i = r.0 in let g : i ≤ n = r.1 in
        let q : suc i - 1 ≡ suc (i - 1) = omega arith in
        subst (λ (j : ℕ). get_or (x ∷ l) j 0 ≤ b) q (h (suc i) (omega arith, omega arith))

module _ (S F : Net) where
  pub good-within : (p : Placing) → Good S F p → Within (bounds_of S F) (list_of p)
  good-within p g =
      within-append (within-alike _ _ p.atoms_to g.sending.atoms-sent (λ i r. (g.sending.to-atoms i r).1))
      (within-append (within-alike _ _ p.links_to g.sending.links-sent (λ x r. (g.sending.to-links x r).1)) (within-alike _ _ p.given g.sending.atoms-given (λ j r. low j r (is_taken S F p j) refl)))
    where
      low : (j : ℕ) → Range (length S.atoms) j → (c : Bool) → is_taken S F p j ≡ c → given_to p j ≤ greatest (map (λ (row : NetCell). row.0) F.contexts)
      low j r true e = let q = g.sending.not-given j r ((says-taken S F p j).sound e) in omega (arith, q)
      low j r false e =
          let t = g.sending.to-contexts j r (refuted (says-taken S F p j) e) in
          let m : t.0.0 ≤ greatest (map (λ (row : NetCell). row.0) F.contexts) = at-most-greatest (Memᴰ.map (λ (row : NetCell). row.0) t.1) in
          subst (λ (k : ℕ). k ≤ greatest (map (λ (row : NetCell). row.0) F.contexts)) t.2 m

  pub good-list : (p : Placing) → Good S F p → placing_from S F (list_of p) ≡ p
  good-list p g = placing-of-list _ _ p g.sending.atoms-sent g.sending.links-sent

  good-passes : (p : Placing) → Good S F p → good_list S F (list_of p) ≡ true
  good-passes p g = (says-good S F (placing_from S F (list_of p))).complete (subst (Good S F) (sym (good-list p g)) g)

  list_back : (l : List ℕ) → list_of (placing_from S F l) ≡ l
  list_back l = ap (λ (k : List ℕ). take (length F.atoms) l ++ k) (take-append-drop F.links (drop (length F.atoms) l)) ∙ take-append-drop (length F.atoms) l

  found : (p : Placing) → smallest S F ≡ some p → (l : List ℕ) × (first_list (good_list S F) (bounds_of S F) ≡ some l) × (placing_from S F l ≡ p)
  unfolding smallest
  found p e = go (first_list (good_list S F) (bounds_of S F)) refl e
    where
      go : (o : Option (List ℕ)) → first_list (good_list S F) (bounds_of S F) ≡ o → placing_in S F o ≡ some p
          → (l : List ℕ) × (first_list (good_list S F) (bounds_of S F) ≡ some l) × (placing_from S F l ≡ p)
      go none q h = absurd (let z : ◌≡◌ {A = ℕ} 0 1 = cc in omega arith)
      go (some l) q h = (l, q, some-injective h)

  -- The smallest is good,
  pub smallest-good : (p : Placing) → smallest S F ≡ some p → Good S F p
  smallest-good p e =
      let t = found p e in
      subst (Good S F) t.2 ((says-good S F (placing_from S F t.0)).sound ((first-least (good_list S F) (bounds_of S F) t.0).0 t.1).passes)

  -- and no good placing is earlier.
  pub smallest-least : (p : Placing) → smallest S F ≡ some p → (q : Placing) → Good S F q → ¬ Earlier q p
  smallest-least p e q g d =
      let t = found p e in
      let b : Before (list_of q) t.0 = subst (Before (list_of q)) (ap list_of (sym t.2) ∙ list_back t.0) (earlier-before q p d) in
      both_ways (good-passes q g) (((first-least (good_list S F) (bounds_of S F) t.0).0 t.1).none_before (list_of q) (good-within q g) b)

  -- None is found exactly where no placing is good.
  pub smallest-none : (smallest S F ≡ none) ↔ ((p : Placing) → Good S F p → ⊥)
  unfolding smallest
  smallest-none = (λ e. onward (first_list (good_list S F) (bounds_of S F)) refl e, λ n. ap (placing_in S F) ((first-none (good_list S F) (bounds_of S F)).1 (λ l w. turned_down (says-good S F (placing_from S F l)) (n (placing_from S F l)))))
    where
      onward : (o : Option (List ℕ)) → first_list (good_list S F) (bounds_of S F) ≡ o → placing_in S F o ≡ none → (p : Placing) → Good S F p → ⊥
      onward none q h p g = both_ways (good-passes p g) ((first-none (good_list S F) (bounds_of S F)).0 q (list_of p) (good-within p g))
      onward (some l) q h p g = absurd (let z : ◌≡◌ {A = ℕ} 0 1 = cc in omega arith)

  -- A good placing that no good placing is earlier than is the smallest.
  pub smallest-only : (p : Placing) → Good S F p → ((q : Placing) → Good S F q → ¬ Earlier q p) → smallest S F ≡ some p
  smallest-only p g n = go (smallest S F) refl
    where
      go : (o : Option Placing) → smallest S F ≡ o → smallest S F ≡ some p
      go none e = absurd (smallest-none.0 e p g)
      go (some r) e = either (smallest-good r e)
        where
          either : Good S F r → smallest S F ≡ some p
          either k = at (earlier-or p r (g.sending.atoms-sent ∙ sym k.sending.atoms-sent) (g.sending.links-sent ∙ sym k.sending.links-sent) (g.sending.atoms-given ∙ sym k.sending.atoms-given))
            where
              at : Earlier p r ⊎ (Earlier r p ⊎ (p ≡ r)) → smallest S F ≡ some p
              at (inl d) = absurd (smallest-least r e p g d)
              at (inr (inl d)) = absurd (n r k d)
              at (inr (inr q)) = e ∙ ap some (sym q)
