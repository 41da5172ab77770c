-- The least completion: the open links settled in ascending order, each at the first sheet link with which the rest can be
-- completed, then the least contexts.
use Prim.Native.Nat.{ℕ, suc, ◌-◌, ◌≤◌, ◌<◌}
use mathlib.Core.Path.{◌≡◌, refl, sym, ◌∙◌, subst}
use mathlib.Core.Logic.{◌⊎◌, inl, inr}
use mathlib.Core.List.Memᴰ
use mathlib.Core.List.{List, [], ◌∷◌, ◌++◌}
use native.Mathlib.Decide.{dec_lt, dec_le, ℕ_discrete}
use native.Mathlib.Omega.{arith}
use lib.ListN.{length, get_or}
use lib.Seq.{ext_get_or}
use Rattle.hyperlmntal.specs.Link.{◌∈◌}
use Rattle.placing.specs.Net.{Net, Range, Normal}
use Rattle.placing.specs.Placing.{Placing, number_at, link_target, given_to, Taken, At, PortAt, Inside}
use Rattle.placing.specs.First.{Before}
use Rattle.placing.specs.Smallest.{list_of}
use Rattle.placing.proofs.Standing.{context-link}
use Rattle.completing.specs.Completion.{Partial, Completion, Completable, put, remove}
use Rattle.network.specs.Reach.{stay, move}
use Rattle.completing.specs.Fault.{Other, Beside, Joined, Number, Allowed, AllLinked, LeastGiven, completed}
use Rattle.completing.specs.Leaf.{LeastCompletion, Ascending}
use Rattle.completing.proofs.Lists.{before-rest, greater-at, nowhere-less, ascending-rest}
use Rattle.completing.proofs.Decide.{taken-dec}
use Rattle.completing.proofs.Kept.{linked-map, taken-same}
use Rattle.completing.proofs.Put.{completion-put, put-completion, put-there}
use Rattle.completing.proofs.Completed.{completed-completion}

-- All links are settled: what a completion gives to the contexts.
module _ (S F : Net) (NF : Normal F) (q : Placing) (p : Placing) (c : Completion S F q [] p) where
  same-link : (x : ℕ) → Range F.links x → link_target p x ≡ link_target q x
  same-link x r = c.settled x r Memᴰ.not-nil

  other : (j : ℕ) → ¬ Taken S F q j → ¬ Taken S F p j
  other j n t = n (taken-same S F p q c.same-atoms j t)

  beside-given : (j j' : ℕ) → Beside S F q j j' → given_to p j' ≡ given_to p j
  beside-given j j' b = at (c.good.own-links j b.first-other.0 (other j b.first-other.1) b.link b.first)
    where
      at : PortAt S F p (given_to p j) b.link ⊎ Inside S F p (given_to p j) b.link → given_to p j' ≡ given_to p j
      at (inl r) = let m = context-link F NF r.row r.link r.of-figure r.port in
          absurd (b.unused (r.link, m, sym (same-link r.link m) ∙ r.there))
      at (inr r) = (r.only-there j' b.second-other.0 b.second).1

  joined-given : (j j' : ℕ) → Joined S F q j j' → given_to p j' ≡ given_to p j
  joined-given j j' stay = refl
  joined-given j j' (move {y = k} b r) = joined-given k j' r ∙ beside-given j k b

  joined_free : (j j' : ℕ) → ¬ Taken S F q j → Joined S F q j j' → ¬ Taken S F q j'
  joined_free j j' n stay = n
  joined_free j j' n (move {y = k} b r) = joined_free k j' b.second-other.1 r

  -- each component has a context that is allowed
  pub given-allowed : (j : ℕ) → Other S F q j → Allowed S F q (given_to p j) j
  given-allowed j o j' r s y m u = at (c.good.own-links j' r (other j' (joined_free j j' o.1 s)) y m)
    where
      at : PortAt S F p (given_to p j') y ⊎ Inside S F p (given_to p j') y → PortAt S F q (given_to p j) y
      at (inl t) = record {
        row = t.row;
        of-figure = t.of-figure;
        number = t.number ∙ joined-given j j' s;
        link = t.link;
        port = t.port;
        there = sym (same-link t.link (context-link F NF t.row t.link t.of-figure t.port)) ∙ t.there;
      }
      at (inr t) = absurd (t.no-figure-link u.0 u.1 (same-link u.0 u.1 ∙ u.2))

  pub given-number : (j : ℕ) → Other S F q j → Number S F q (given_to p j)
  given-number j o = c.good.sending.to-contexts j o.0 (other j o.1)

  settled-linked : AllLinked S F q
  settled-linked x x' y h h' = linked-map S F p q y y (λ z. z) (λ row r z m. m)
      (λ z w. record { figure-link = w.figure-link; sheet-link = w.sheet-link; there = sym (same-link z w.figure-link) ∙ w.there })
      (c.good.linked x x' y (to x h) (to x' h'))
    where
      to : (z : ℕ) → At S F q z y → At S F p z y
      to z w = record { figure-link = w.figure-link; sheet-link = w.sheet-link; there = same-link z w.figure-link ∙ w.there }

  given-least : (g : List ℕ) → LeastGiven S F q g → (j : ℕ) → Range (length S.atoms) j → number_at g j ≤ given_to p j
  given-least g w j r = go (taken-dec S F q j)
    where
      go : Dec (Taken S F q j) → number_at g j ≤ given_to p j
      go (yes t) = omega (arith, w.not-given j r t)
      go (no n) = (w.least-given j (r, n)).least (given_to p j) (given-number j (r, n)) (given-allowed j (r, n))

-- a position of a list, as a place counted from 1
place : (l m : List ℕ) (i : ℕ) → number_at l (suc i) ≡ number_at m (suc i) → get_or l i 0 ≡ get_or m i 0
place l m i e = let f : suc i - 1 ≡ i = omega arith in subst (λ (z : ℕ). get_or l z 0 ≡ get_or m z 0) f e

place-le : (l m : List ℕ) (i : ℕ) → number_at l (suc i) ≤ number_at m (suc i) → get_or l i 0 ≤ get_or m i 0
place-le l m i h = let f : suc i - 1 ≡ i = omega arith in subst (λ (z : ℕ). get_or l z 0 ≤ get_or m z 0) f h

module _ (S F : Net) (NS : Normal S) (NF : Normal F) (q : Placing) where
  -- All settled, and it can be completed: with the least contexts it is the least completion.
  pub settled-least : Partial S F q [] → Completable S F q [] → (g : List ℕ) → LeastGiven S F q g → LeastCompletion S F q [] (completed q g)
  settled-least a c g w = record { completion = completed-completion S F q NS NF [] a (settled-linked S F NF q c.0 c.1) g w; none_before = least }
    where
      least : (p : Placing) → Completion S F q [] p → ¬ Before (list_of p) (list_of (completed q g))
      least p d b = nowhere-less p.given g (d.good.sending.atoms-given ∙ sym w.atoms-given)
          (λ i h. place-le g p.given i (given-least S F NF q p d g w (suc i) (omega arith, omega (arith, d.good.sending.atoms-given))))
          (before-rest p.links_to q.links_to p.given g same
          (before-rest p.atoms_to q.atoms_to (p.links_to ++ p.given) (q.links_to ++ g) d.same-atoms b))
        where
          same : p.links_to ≡ q.links_to
          same = ext_get_or 0 p.links_to q.links_to (d.good.sending.links-sent ∙ sym a.links-sent)
              (λ i h. place p.links_to q.links_to i (same-link S F NF q p d (suc i) (omega arith, omega (arith, d.good.sending.links-sent))))

  module _ (un : List ℕ) (a : Partial S F q un) (x : ℕ) (mine : x ∈ un) where
    -- Some number from 1 on, up to none, will do for x;
    pub settle-some : Completable S F q un → (y : ℕ) × Range (suc S.links) y × Completable S F (put q x y) (remove x un)
    settle-some c = let y = link_target c.0 x in
        (y, c.1.good.sending.to-links x (a.are-open x mine).is-link, (c.0, completion-put S F NF q un a x mine y c.0 c.1 refl))

    -- if no sheet link will, then none.
    pub settle-last : Completable S F q un → ((z : ℕ) → Range S.links z → ¬ Completable S F (put q x z) (remove x un))
        → Completable S F (put q x (suc S.links)) (remove x un)
    settle-last c n = go (settle-some c)
      where
        go : (y : ℕ) × Range (suc S.links) y × Completable S F (put q x y) (remove x un) → Completable S F (put q x (suc S.links)) (remove x un)
        go (y, r, d) = at (dec_le y S.links)
          where
            at : Dec (y ≤ S.links) → Completable S F (put q x (suc S.links)) (remove x un)
            at (yes h) = absurd (n y (r.0, h) d)
            at (no h) = subst (λ (z : ℕ). Completable S F (put q x z) (remove x un)) (omega (arith, r.1)) d

    -- The least unsettled link at the first number that will do: the least completion from there is the least.
    pub settle_step : ((z : ℕ) → z ∈ un → x ≤ z) → (y : ℕ) → ((z : ℕ) → 1 ≤ z → z < y → ¬ Completable S F (put q x z) (remove x un))
        → (p : Placing) → LeastCompletion S F (put q x y) (remove x un) p → LeastCompletion S F q un p
    settle_step first y refused p b = record { completion = whole; none_before = least }
      where
        whole : Completion S F q un p
        whole = put-completion S F NF q un a x mine y p b.completion

        there : link_target p x ≡ y
        there = put-there S F NF q un a x mine y p b.completion

        link : Range F.links x
        link = (a.are-open x mine).is-link

        least : (p' : Placing) → Completion S F q un p' → ¬ Before (list_of p') (list_of p)
        least p' d = go (dec_lt (link_target p' x) y) (ℕ_discrete (link_target p' x) y)
          where
            short : (r : Placing) → Completion S F q un r → x - 1 < length r.links_to
            short r e = omega (arith, e.good.sending.links-sent, link.0, link.1)

            agree : (i : ℕ) → i < x - 1 → get_or p'.links_to i 0 ≡ get_or p.links_to i 0
            agree i h = place p'.links_to p.links_to i (d.settled (suc i) r out ∙ sym (whole.settled (suc i) r out))
              where
                r : Range F.links (suc i)
                r = (omega arith, omega (arith, link.1))

                out : ¬ (suc i ∈ un)
                out m = let k : x ≤ suc i = first (suc i) m in omega arith

            go : Dec (link_target p' x < y) → Dec (link_target p' x ≡ y) → ¬ Before (list_of p') (list_of p)
            go (yes l) e k = refused (link_target p' x) (d.good.sending.to-links x link).0 l (p', completion-put S F NF q un a x mine (link_target p' x) p' d refl)
            go (no l) (yes e) k = b.none_before p' (completion-put S F NF q un a x mine y p' d e) k
            go (no l) (no e) k = greater-at (x - 1) p'.links_to p.links_to p'.given p.given (short p' d) (short p whole) agree (let u = there in omega arith)
                (before-rest p'.atoms_to p.atoms_to (p'.links_to ++ p'.given) (p.links_to ++ p.given) (d.same-atoms ∙ sym whole.same-atoms) k)

  -- The same for a list of unsettled links in ascending order.
  pub settle-next : (x : ℕ) (un : List ℕ) → Ascending (x ∷ un) → Partial S F q (x ∷ un) → (y : ℕ) → ((z : ℕ) → 1 ≤ z → z < y → ¬ Completable S F (put q x z) un)
      → (p : Placing) → LeastCompletion S F (put q x y) un p → LeastCompletion S F q (x ∷ un) p
  settle-next x un s a y refused p b = settle_step (x ∷ un) a x (Memᴰ.head refl) (λ z m. first z (Memᴰ.cases_cons m)) y
      (λ z h l c. refused z h l (subst (λ (k : List ℕ). Completable S F (put q x z) k) (ascending-rest x un s) c)) p
      (subst (λ (k : List ℕ). LeastCompletion S F (put q x y) k p) (sym (ascending-rest x un s)) b)
    where
      first : (z : ℕ) → (z ≡ x) ⊎ (z ∈ un) → x ≤ z
      first z (inl e) = omega arith
      first z (inr m) = let h : x < z = s.0 z m in omega arith
