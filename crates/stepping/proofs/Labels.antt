-- The laws of labels that ties join.
use Prim.Native.Nat.{ℕ, ◌+◌, ◌≤◌, ◌<◌}
use mathlib.Core.Path.{◌≡◌, refl, sym, ◌∙◌, ap, subst}
use mathlib.Core.Logic.{◌⊎◌, inl, inr, ◌≢◌, ⊎_elim}
use mathlib.Core.List.{List}
use native.Mathlib.Decide.{ℕ_discrete}
use native.Mathlib.Omega.{arith}
use lib.ListN.{get_or, set}
use Rattle.rows.specs.Held.{relabelled}
use Rattle.rows.specs.Limits.{sheet_link_limit}
use Rattle.placing.proofs.Joined.{relabelled-hit, relabelled-miss}
use Rattle.candidates.specs.Words.{pair_digits, InPair, PartOf, without_link}
use Rattle.candidates.specs.PortSets.{Below}
use Rattle.candidates.specs.declared.ports.PortSet.{PortSet}
use Rattle.candidates.proofs.Halves.{in_without}
use Rattle.candidates.proofs.Members.{Seen, seen_more}
use Rattle.network.specs.Reach.{Reach, stay, move}
use Rattle.network.proofs.Reaching.{reach-then}
use Rattle.stepping.specs.Labels.{Tie, Sound, Relabelled, Bounded, Grew, GrewWith, Tied}

pub relabelled-same : (from to c : ℕ) → to ≡ from → relabelled from to c ≡ c
relabelled-same from to c e = go (ℕ_discrete c from)
  where
    go : Dec (c ≡ from) → relabelled from to c ≡ c
    go (yes q) = relabelled-hit from to c q ∙ e ∙ sym q
    go (no q) = relabelled-miss from to c q

-- a tie holds both ways
pub tie-back : (sets : List PortSet) (rows : ℕ) (to : List ℕ) (x z : ℕ) → Tie sets rows to x z → Tie sets rows to z x
tie-back sets rows to x z t = record {
  row = t.row;
  row_in = t.row_in;
  first-in = t.second-in;
  second-in = t.first-in;
  first = t.second;
  second = t.first;
  together = sym t.together;
}

-- Links a and b, from 0, are joined.
module _ (labels next : List ℕ) (a b : ℕ) (ra : a < sheet_link_limit) (rb : b < sheet_link_limit)
    (new : (x : ℕ) → x < sheet_link_limit → get_or next x 0 ≡ relabelled (get_or labels b 0) (get_or labels a 0) (get_or labels x 0)) where
  pub joined-kept : (x z : ℕ) → x < sheet_link_limit → z < sheet_link_limit → get_or labels x 0 ≡ get_or labels z 0 → get_or next x 0 ≡ get_or next z 0
  joined-kept x z h k e = new x h ∙ ap (relabelled (get_or labels b 0) (get_or labels a 0)) e ∙ sym (new z k)

  pub joined-one : get_or next a 0 ≡ get_or next b 0
  joined-one = new a ra ∙ go (ℕ_discrete (get_or labels a 0) (get_or labels b 0)) ∙ sym (relabelled-hit (get_or labels b 0) (get_or labels a 0) (get_or labels b 0) refl) ∙ sym (new b rb)
    where
      go : Dec (get_or labels a 0 ≡ get_or labels b 0) → relabelled (get_or labels b 0) (get_or labels a 0) (get_or labels a 0) ≡ get_or labels a 0
      go (yes q) = relabelled-hit _ _ _ q
      go (no q) = relabelled-miss _ _ _ q

  pub joined-sound : (sets : List PortSet) (rows : ℕ) (to : List ℕ) → Tie sets rows to a b → Sound sets rows to labels → Sound sets rows to next
  joined-sound sets rows to t s x z h k e = at (ℕ_discrete (get_or labels x 0) (get_or labels b 0)) (ℕ_discrete (get_or labels z 0) (get_or labels b 0))
    where
      R : ℕ → ℕ → Type 0
      R = Tie sets rows to

      both : relabelled (get_or labels b 0) (get_or labels a 0) (get_or labels x 0) ≡ relabelled (get_or labels b 0) (get_or labels a 0) (get_or labels z 0)
      both = sym (new x h) ∙ e ∙ new z k

      back : Reach R b a
      back = move (tie-back sets rows to a b t) stay

      at : Dec (get_or labels x 0 ≡ get_or labels b 0) → Dec (get_or labels z 0 ≡ get_or labels b 0) → Reach R x z
      at (yes i) (yes j) = s x z h k (i ∙ sym j)
      at (yes i) (no j) = reach-then R (s x b h rb i) (reach-then R back (s a z ra k (sym (relabelled-hit _ _ _ i) ∙ both ∙ relabelled-miss _ _ _ j)))
      at (no i) (yes j) = reach-then R (s x a h ra (sym (relabelled-miss _ _ _ i) ∙ both ∙ relabelled-hit _ _ _ j)) (reach-then R (move t stay) (s b z rb k (sym j)))
      at (no i) (no j) = s x z h k (sym (relabelled-miss _ _ _ i) ∙ both ∙ relabelled-miss _ _ _ j)

pub grew_same : (to set l : List ℕ) → Grew to set l l
grew_same to set l = record { kept = λ x z h k e. e; sound = λ sets rows row i j s. s }

pub grew_then : (to set l m n : List ℕ) → Grew to set l m → Grew to set m n → Grew to set l n
grew_then to set l m n f g = record {
  kept = λ x z h k e. g.kept x z h k (f.kept x z h k e);
  sound = λ sets rows row i j s. g.sound sets rows row i j (f.sound sets rows row i j s);
}

-- Two links of a set that go to one sheet link are joined.
module _ (to set : List ℕ) (a b : ℕ) (ra : a < sheet_link_limit) (rb : b < sheet_link_limit) (ia : InPair set a) (ib : InPair set b) (e : get_or to b 0 ≡ get_or to a 0) (labels next : List ℕ)
    (new : (x : ℕ) → x < sheet_link_limit → get_or next x 0 ≡ relabelled (get_or labels b 0) (get_or labels a 0) (get_or labels x 0)) where
  pub grew-joined : Grew to set labels next
  grew-joined = record {
    kept = joined-kept labels next a b ra rb new;
    sound = λ sets rows row i p. joined-sound labels next a b ra rb new sets rows to (record {
      row = row;
      row_in = i;
      first-in = omega (arith, ra);
      second-in = omega (arith, rb);
      first = subst (λ (l : List ℕ). InPair l a) (sym p) ia;
      second = subst (λ (l : List ℕ). InPair l b) (sym p) ib;
      together = sym e;
    });
  }

-- One link b more of a set is tied to link a.
module _ (to set : List ℕ) (n : ℕ) (few : n ≤ sheet_link_limit) (below : Below n set) (a : ℕ) (ra : a < n) (b : ℕ) (small : b < pair_digits) (ib : InPair set b) where
  rb : b < sheet_link_limit
  rb = omega (arith, below b small ib)

  tied-kept : (next m : List ℕ) → ((x z : ℕ) → x < sheet_link_limit → z < sheet_link_limit → get_or next x 0 ≡ get_or next z 0 → get_or m x 0 ≡ get_or m z 0)
      → (z : ℕ) → z < pair_digits → InPair set z → Tied to next a z → Tied to m a z
  tied-kept next m kept z h i t e = kept a z (omega (arith, ra)) (omega (arith, below z h i)) (t e)

  pub port-step : (rest less labels next m : List ℕ) → less ≡ without_link rest b → GrewWith to set a labels next → Seen (Tied to next a) set rest
      → ((get_or to b 0 ≡ get_or to a 0) × ((x : ℕ) → x < sheet_link_limit → get_or m x 0 ≡ relabelled (get_or next b 0) (get_or next a 0) (get_or next x 0)))
      ⊎ ((¬ (get_or to b 0 ≡ get_or to a 0)) × (m ≡ next))
      → GrewWith to set a labels m × Seen (Tied to m a) set less
  port-step rest less labels next m e g f (inl w) = (
    (λ whole i p. grew_then to whole labels next m (g whole i p) (grew-joined to whole a b (omega (arith, ra)) rb i (p b small ib) w.0 next m w.1)),
    seen_more set rest b small less e (Tied to next a) (Tied to m a) f
        (tied-kept next m (joined-kept next m a b (omega (arith, ra)) rb w.1))
        (λ q. joined-one next m a b (omega (arith, ra)) rb w.1),
  )
  port-step rest less labels next m e g f (inr w) = (
    (λ whole i p. subst (Grew to whole labels) (sym w.1) (g whole i p)),
    seen_more set rest b small less e (Tied to next a) (Tied to m a) f
        (λ z h i. subst (λ (l : List ℕ). Tied to next a z → Tied to l a z) (sym w.1) (λ t. t))
        (λ q. absurd (w.0 (sym q))),
  )

-- tied to all links of a set
abbrev pub AllWith : List ℕ → List ℕ → List ℕ → ℕ → Type 0
AllWith to set l x = (z : ℕ) → z < pair_digits → InPair set z → Tied to l x z

-- Link a is tied to all of a set: to those that are left by one more turn, to those before it since they were.
module _ (to set : List ℕ) (below : Below sheet_link_limit set) (a : ℕ) (small : a < pair_digits) (rest less : List ℕ) (e : less ≡ without_link rest a) (part : PartOf rest set) (ia : InPair rest a) where
  pub context-step : (labels next : List ℕ) → ((x z : ℕ) → x < sheet_link_limit → z < sheet_link_limit → get_or labels x 0 ≡ get_or labels z 0 → get_or next x 0 ≡ get_or next z 0)
      → Seen (AllWith to set labels) set rest → ((z : ℕ) → z < pair_digits → InPair less z → Tied to next a z) → Seen (AllWith to set next) set less
  context-step labels next kept f t = seen_more set rest a small less e (AllWith to set labels) (AllWith to set next) f onward (λ z h i. at z h i (ℕ_discrete z a))
    where
      onward : (x : ℕ) → x < pair_digits → InPair set x → AllWith to set labels x → AllWith to set next x
      onward x l j w z h i q = kept x z (below x l j) (below z h i) (w z h i q)

      at : (z : ℕ) → z < pair_digits → InPair set z → Dec (z ≡ a) → Tied to next a z
      at z h i (yes q) w = ap (λ (x : ℕ). get_or next x 0) (sym q)
      at z h i (no d) w = ⊎_elim (λ j. t z h (in_without rest a small less e z h j d) w) (λ s. sym (onward z h i s a small (part a small ia) (sym w))) (f z h i)

-- each link its own label
pub own-sound : (sets : List PortSet) (rows : ℕ) (to labels : List ℕ) → ((x : ℕ) → x < sheet_link_limit → get_or labels x 0 ≡ x + 1) → Sound sets rows to labels
own-sound sets rows to labels f x z h k e =
    let p = f x h in let q = f z k in
    let i : x ≡ z = omega arith in
    subst (Reach (Tie sets rows to) x) i stay

-- The first n links have labels that are at most n.
module _ (n : ℕ) (few : n ≤ sheet_link_limit) (labels : List ℕ) where
  pub own-bounded : ((x : ℕ) → x < sheet_link_limit → get_or labels x 0 ≡ x + 1) → Bounded n labels
  own-bounded f = record { own = λ x h k. f x k; low = λ x h. omega (arith, f x (omega arith)) }

  module _ (b : Bounded n labels) where
    pub port-low : (a : ℕ) → a < n → get_or labels a 0 ≤ n
    port-low a r = b.low a r

    -- no other link has a label of theirs
    pub above_other : (from : ℕ) → from ≤ n → (x : ℕ) → n ≤ x → x < sheet_link_limit → get_or labels x 0 ≢ from
    above_other from l x h k e = let o = b.own x h k in omega arith

    pub bounded-next : (from to : ℕ) → from ≤ n → to ≤ n → (next : List ℕ) → Relabelled labels next from to → Bounded n next
    bounded-next from to i j next f = record {
      own = λ x h k. f x k ∙ relabelled-miss from to (get_or labels x 0) (above_other from i x h k) ∙ b.own x h k;
      low = λ x h. low x h (ℕ_discrete (get_or labels x 0) from);
    }
      where
        low : (x : ℕ) → x < n → Dec (get_or labels x 0 ≡ from) → get_or next x 0 ≤ n
        low x h (yes e) = omega (arith, f x (omega arith), relabelled-hit from to (get_or labels x 0) e)
        low x h (no e) = omega (arith, f x (omega arith), relabelled-miss from to (get_or labels x 0) e, b.low x h)
