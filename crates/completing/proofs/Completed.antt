-- Each component of the other atoms to its least allowed context: a good placing, where figure links at one sheet link are linked.
use Prim.Native.Nat.{ℕ}
use mathlib.Core.Path.{◌≡◌, refl}
use mathlib.Core.Logic.{◌⊎◌, inl, inr}
use mathlib.Core.List.{List}
use native.Mathlib.Omega.{arith}
use lib.ListN.{length}
use Rattle.hyperlmntal.specs.Link.{◌∈◌}
use Rattle.placing.specs.Net.{Net, Range, Normal}
use Rattle.placing.specs.Placing.{Placing, cell_at, given_to, Taken, At, PortAt, Inside, Good}
use Rattle.completing.specs.Completion.{Partial, Completion}
use Rattle.network.specs.Reach.{stay, move}
use Rattle.completing.specs.Fault.{Used, Other, Beside, Joined, Allowed, AllLinked, LeastContext, LeastGiven, completed}
use Rattle.network.proofs.Reaching.{reach-then, reach-back}
use Rattle.completing.proofs.Decide.{used-dec}
use Rattle.completing.proofs.Kept.{linked-map, taken-same, unused-other, unused-unmarked}

module _ (S F : Net) (q : Placing) where
  pub beside_back : (j j' : ℕ) → Beside S F q j j' → Beside S F q j' j
  beside_back j j' b = record { first-other = b.second-other; second-other = b.first-other; link = b.link; first = b.second; second = b.first; unused = b.unused }

  pub joined_back : {j j' : ℕ} → Joined S F q j j' → Joined S F q j' j
  joined_back r = reach-back (Beside S F q) beside_back r

  pub allowed-joined : (k j j' : ℕ) → Joined S F q j j' → Allowed S F q k j → Allowed S F q k j'
  allowed-joined k j j' r h i l s = h i l (reach-then (Beside S F q) r s)

  -- The least context is the same over a component,
  pub least-joined : (k j j' : ℕ) → Joined S F q j j' → LeastContext S F q j k → LeastContext S F q j' k
  least-joined k j j' r c = record {
    number = c.number;
    allowed = allowed-joined k j j' r c.allowed;
    least = λ d n h. c.least d n (allowed-joined d j' j (joined_back r) h);
  }

  -- and there is one.
  pub least-only : (j k k' : ℕ) → LeastContext S F q j k → LeastContext S F q j k' → k ≡ k'
  least-only j k k' c d = omega (arith, c.least k' d.number d.allowed, d.least k c.number c.allowed)

  module _ (NS : Normal S) (NF : Normal F) (un : List ℕ) (a : Partial S F q un) (linked : AllLinked S F q) (g : List ℕ) (w : LeastGiven S F q g) where
    abbrev whole : Placing
    whole = completed q g

    to-q : (j : ℕ) → Taken S F whole j → Taken S F q j
    to-q = taken-same S F whole q refl

    from-q : (j : ℕ) → Taken S F q j → Taken S F whole j
    from-q = taken-same S F q whole refl

    at-q : (x y : ℕ) → At S F whole x y → At S F q x y
    at-q x y h = record { figure-link = h.figure-link; sheet-link = h.sheet-link; there = h.there }

    own : (j : ℕ) → Other S F q j → (y : ℕ) → y ∈ (cell_at S.atoms j).1 → PortAt S F whole (given_to whole j) y ⊎ Inside S F whole (given_to whole j) y
    own j o y m = go (used-dec S F q y)
      where
        go : Dec (Used S F q y) → PortAt S F whole (given_to whole j) y ⊎ Inside S F whole (given_to whole j) y
        go (yes u) = let r = (w.least-given j o).allowed j o.0 stay y m u in
            inl (record { row = r.row; of-figure = r.of-figure; number = r.number; link = r.link; port = r.port; there = r.there })
        go (no u) = inr (record { no-figure-link = λ x k e. u (x, k, e); no-mark = unused-unmarked S F NS NF q a.same-marks y u; only-there = only })
          where
            only : (j' : ℕ) → Range (length S.atoms) j' → y ∈ (cell_at S.atoms j').1 → (¬ Taken S F whole j') × (given_to whole j' ≡ given_to whole j)
            only j' r m' = (
              (λ t. n (to-q j' t)),
              least-only j' (given_to whole j') (given_to whole j) (w.least-given j' (r, n))
                  (least-joined (given_to whole j) j j' (move b stay) (w.least-given j o)),
            )
              where
                n : ¬ Taken S F q j'
                n = unused-other S F NF q a.across y u j' m'

                b : Beside S F q j j'
                b = record { first-other = o; second-other = (r, n); link = y; first = m; second = m'; unused = u }

    pub completed-good : Good S F (completed q g)
    completed-good = record {
      sending = record {
        atoms-sent = a.atoms-sent;
        to-atoms = a.to-atoms;
        different = a.different;
        links-sent = a.links-sent;
        to-links = a.to-links;
        atoms-given = w.atoms-given;
        not-given = λ j r t. w.not-given j r (to-q j t);
        to-contexts = λ j r n. (w.least-given j (r, λ t. n (from-q j t))).number;
      };
      across = λ i r. record { name = (a.across i r).name; places = (a.across i r).places };
      same-marks = record { onward = a.same-marks.onward; backward = a.same-marks.backward };
      linked = λ x x' y u v. linked-map S F q whole y y (λ z. z) (λ row r z m. m)
          (λ z h. record { figure-link = h.figure-link; sheet-link = h.sheet-link; there = h.there })
          (linked x x' y (at-q x y u) (at-q x' y v));
      own-links = λ j r n y m. own j (r, λ t. n (from-q j t)) y m;
    }

    pub completed-completion : Completion S F q un (completed q g)
    completed-completion = record { good = completed-good; same-atoms = refl; settled = λ x r n. refl }
