-- For each sheet link the first figure link that goes there.
use Prim.Native.Nat.{ℕ, suc, ◌+◌, ◌-◌, ◌≤◌, ◌<◌}
use mathlib.Core.Path.{◌≡◌, refl, sym, ◌∙◌, ap, subst}
use mathlib.Core.Logic.{◌≢◌}
use mathlib.Core.List.{List}
use native.Mathlib.Decide.{ℕ_discrete}
use native.Mathlib.Omega.{arith}
use lib.ListN.{length, get_or, set, replicate}
use lib.Seq.{get_or-set_same, get_or-set_other}
use Rattle.candidates.specs.declared.ports.PortSet.{PortSet}
use Rattle.network.specs.Reach.{Reach, stay, move}
use Rattle.stepping.specs.Labels.{Tie, Labelled, MeetApart}
use Rattle.stepping.proofs.Tables.{below_next, zeros}

-- links between which steps lead have one label
tied-label : (sets : List PortSet) (rows : ℕ) (to labels : List ℕ) → Labelled sets rows to labels → {x z : ℕ} → Reach (Tie sets rows to) x z → get_or labels x 0 ≡ get_or labels z 0
tied-label sets rows to labels l stay = refl
tied-label sets rows to labels l (move {x = x} {y = y} t r) = l.complete t.row t.row_in x y t.first-in t.second-in t.first t.second t.together ∙ tied-label sets rows to labels l r

module _ (to labels : List ℕ) (none : ℕ) where
  -- an owner o, from 1, of link p, from 0, after x links
  abbrev Owns : ℕ → ℕ → ℕ → Type 0
  Owns x p o = (1 ≤ o) × (o ≤ x) × (get_or to (o - 1) 0 ≡ p + 1)

  -- link i has the label of the owner of where it goes
  abbrev Agrees : List ℕ → ℕ → Type 0
  Agrees owner i = get_or to i 0 ≢ none → (get_or owner (get_or to i 0 - 1) 0 ≢ 0) × (get_or labels i 0 ≡ get_or labels (get_or owner (get_or to i 0 - 1) 0 - 1) 0)

  abbrev pub Owners : ℕ → List ℕ → Type 0
  Owners x owner = ((p : ℕ) → get_or owner p 0 ≢ 0 → Owns x p (get_or owner p 0)) × ((i : ℕ) → i < x → Agrees owner i)

  pub owners-start : (n : ℕ) → Owners 0 (replicate n 0)
  owners-start n = ((λ p e. absurd (e (zeros n p))), (λ i h. absurd (omega arith)))

  module _ (x : ℕ) (owner : List ℕ) (f : Owners x owner) where
    later : (p o : ℕ) → Owns x p o → Owns (x + 1) p o
    later p o w = let h : o ≤ x = w.1 in (w.0, omega arith, w.2)

    pub owners-none : get_or to x 0 ≡ none → Owners (x + 1) owner
    owners-none e = ((λ p n. later p (get_or owner p 0) (f.0 p n)), below_next (Agrees owner) x f.1 (λ n. absurd (n e)))

    pub owners-same : get_or owner (get_or to x 0 - 1) 0 ≢ 0 → get_or labels (get_or owner (get_or to x 0 - 1) 0 - 1) 0 ≡ get_or labels x 0 → Owners (x + 1) owner
    owners-same n e = ((λ p i. later p (get_or owner p 0) (f.0 p i)), below_next (Agrees owner) x f.1 (λ i. (n, sym e)))

    pub owners-new : 1 ≤ get_or to x 0 → get_or to x 0 - 1 < length owner → get_or owner (get_or to x 0 - 1) 0 ≡ 0 → Owners (x + 1) (set owner (get_or to x 0 - 1) (x + 1))
    owners-new low room free = (owns, below_next (Agrees next) x old (λ i. ((λ e. let j : x + 1 ≡ 0 = sym here ∙ e in omega arith), ap (λ (n : ℕ). get_or labels n 0) (sym (ap (λ (n : ℕ). n - 1) here ∙ (let j : x + 1 - 1 ≡ x = omega arith in j))))))
      where
        y : ℕ
        y = get_or to x 0 - 1

        next : List ℕ
        next = set owner y (x + 1)

        here : get_or next y 0 ≡ x + 1
        here = get_or-set_same owner y (x + 1) 0 room

        owns : (p : ℕ) → get_or next p 0 ≢ 0 → Owns (x + 1) p (get_or next p 0)
        owns p n = go (ℕ_discrete p y)
          where
            go : Dec (p ≡ y) → Owns (x + 1) p (get_or next p 0)
            go (yes e) = subst (λ (i : ℕ). Owns (x + 1) i (get_or next i 0)) (sym e) (subst (Owns (x + 1) y) (sym here)
                (omega arith, omega arith, ap (λ (i : ℕ). get_or to i 0) (let j : x + 1 - 1 ≡ x = omega arith in j) ∙ (let j : get_or to x 0 ≡ y + 1 = omega arith in j)))
            go (no i) = let e = get_or-set_other owner y p (x + 1) 0 i in subst (Owns (x + 1) p) (sym e) (later p (get_or owner p 0) (f.0 p (λ q. n (e ∙ q))))

        old : (i : ℕ) → i < x → Agrees next i
        old i h n = let w = f.1 i h n in
            let e : get_or next (get_or to i 0 - 1) 0 ≡ get_or owner (get_or to i 0 - 1) 0 = get_or-set_other owner y (get_or to i 0 - 1) (x + 1) 0 (λ q. w.0 (ap (λ (k : ℕ). get_or owner k 0) q ∙ free)) in
            ((λ q. w.0 (sym e ∙ q)), w.1 ∙ ap (λ (k : ℕ). get_or labels (k - 1) 0) (sym e))

    -- the link has another label than the owner of where it goes
    pub owners-apart : (sets : List PortSet) (rows links : ℕ) → Labelled sets rows to labels → x < links → 1 ≤ get_or to x 0 → get_or to x 0 ≢ none
        → get_or owner (get_or to x 0 - 1) 0 ≢ 0 → get_or labels (get_or owner (get_or to x 0 - 1) 0 - 1) 0 ≢ get_or labels x 0 → MeetApart sets rows links to none (get_or to x 0 - 1)
    owners-apart sets rows links l h low not_none n e =
        let w = f.0 (get_or to x 0 - 1) n in
        let k : get_or owner (get_or to x 0 - 1) 0 ≤ x = w.1 in
        let i : suc (get_or to x 0 - 1) ≡ get_or to x 0 = omega arith in (
          get_or owner (get_or to x 0 - 1) 0 - 1,
          x,
          record {
            first-in = omega arith;
            second-in = h;
            first-at = w.2 ∙ (omega arith);
            second_at = sym i;
            not_none = λ j. not_none (sym i ∙ j);
          },
          λ r. e (tied-label sets rows to labels l r),
        )
