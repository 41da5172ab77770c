-- An open link on one context row may as well go to none.
use Prim.Native.Nat.{ℕ, suc, ◌≤◌}
use mathlib.Core.Path.{◌≡◌, refl, sym, ◌∙◌, ap, subst}
use mathlib.Core.Logic.{◌⊎◌, inl, inr, ◌≢◌}
use mathlib.Core.List.Memᴰ
use mathlib.Core.List.{List, [], ◌∷◌}
use native.Mathlib.Decide.{ℕ_discrete}
use native.Mathlib.Omega.{arith}
use lib.ListN.{length}
use Rattle.hyperlmntal.specs.Link.{◌∈◌}
use Rattle.placing.specs.Net.{NetCell, Net, Range, Normal}
use Rattle.placing.specs.Placing.{Placing, cell_at, link_target, given_to, Taken, At, Step, Linked, here, step, Across, SameMarks, PortAt, Inside, Good}
use Rattle.placing.proofs.Standing.{context-link, place-link}
use Rattle.completing.specs.Completion.{Open, Partial, Completable, put, remove}
use Rattle.completing.specs.Fault.{Used}
use Rattle.completing.specs.OneRow.{OneRow}
use Rattle.completing.proofs.Decide.{dec-and, dec-not, member-dec, used-dec}
use Rattle.completing.proofs.Kept.{taken-same, unused-other, unused-unmarked}
use Rattle.completing.proofs.Lists.{of-remove, in_remove}
use Rattle.completing.proofs.Put.{completable-wider, partial-fewer, put-here, put_other, put-sent, put-cases, put-across, put-marks}

module _ (S F : Net) (NS : Normal S) (NF : Normal F) (x : ℕ) (o : Open F x) (one : OneRow F x) (p : Placing) (g : Good S F p) where
  -- p, but x goes to none
  abbrev unsent : Placing
  unsent = put p x (suc S.links)

  unsent-none : link_target unsent x ≡ suc S.links
  unsent-none = put-here S F NF p g.sending.links-sent x o (suc S.links)

  unsent-other : (z : ℕ) → Range F.links z → z ≢ x → link_target unsent z ≡ link_target p z
  unsent-other = put_other S F NF p g.sending.links-sent x o (suc S.links)

  -- What still goes to a sheet link is not x, and p sends it there too.
  still-there : (z y : ℕ) → Range F.links z → y ≤ S.links → link_target unsent z ≡ y → (z ≢ x) × (link_target p z ≡ y)
  still-there z y r h e = (n, sym (unsent-other z r n) ∙ e)
    where
      n : z ≢ x
      n f = let k : link_target unsent z ≡ suc S.links = ap (link_target unsent) f ∙ unsent-none in absurd (omega arith)

  at-unsent : (y z : ℕ) → z ≢ x → At S F p z y → At S F unsent z y
  at-unsent y z n h = record { figure-link = h.figure-link; sheet-link = h.sheet-link; there = unsent-other z h.figure-link n ∙ h.there }

  at_p : (y z : ℕ) → At S F unsent z y → At S F p z y
  at_p y z h = record { figure-link = h.figure-link; sheet-link = h.sheet-link; there = (still-there z y h.figure-link h.sheet-link.1 h.there).1 }

  not-x : (y z : ℕ) → At S F unsent z y → z ≢ x
  not-x y z h = (still-there z y h.figure-link h.sheet-link.1 h.there).0

  step-unsent : (y z w : ℕ) → z ≢ x → w ≢ x → Step S F p y z w → Step S F unsent y z w
  step-unsent y z w n m s = record {
    row = s.row;
    of-figure = s.of-figure;
    first = s.first;
    second = s.second;
    first-at = at-unsent y z n s.first-at;
    second_at = at-unsent y w m s.second_at;
  }

  -- A step to x and one from x are on its one row, so they are one step.
  past-x : (y z v w : ℕ) → v ≡ x → Step S F p y z v → Step S F p y v w → Step S F p y z w
  past-x y z v w e s t = record {
    row = t.row;
    of-figure = t.of-figure;
    first = subst (λ (row : NetCell). z ∈ row.1)
        (one s.row t.row s.of-figure t.of-figure (Memᴰ.cast (sym e) s.second) (Memᴰ.cast (sym e) t.first)) s.first;
    second = t.second;
    first-at = s.first-at;
    second_at = t.second_at;
  }

  linked-after : (y b : ℕ) → b ≢ x → (z v : ℕ) → z ≢ x → Step S F p y z v → Linked S F p y v b → Linked S F unsent y z b
  linked-after y b n z v m s here = step (step-unsent y z v m n s) here
  linked-after y b n z v m s (step {x' = w} t l) = go (ℕ_discrete v x) (λ d k u. linked-after y b n d w k u l)
    where
      go : Dec (v ≡ x) → ((d : ℕ) → d ≢ x → Step S F p y d w → Linked S F unsent y d b) → Linked S F unsent y z b
      go (yes e) r = r z m (past-x y z v w e s t)
      go (no k) r = step (step-unsent y z v m k s) (r v k t)

  unsent-linked : (y z b : ℕ) → z ≢ x → b ≢ x → Linked S F p y z b → Linked S F unsent y z b
  unsent-linked y z b m n here = here
  unsent-linked y z b m n (step {x' = v} s l) = linked-after y b n z v m s l

  -- Linked to another link, x has a step to another link.
  first_step : (y b : ℕ) → b ≢ x → (z : ℕ) → z ≡ x → Linked S F p y z b → (d : ℕ) × (d ≢ x) × Step S F p y x d
  first_step y b n z e here = absurd (n e)
  first_step y b n z e (step {x' = d} s l) = go (ℕ_discrete d x) (λ f. first_step y b n d f l)
    where
      go : Dec (d ≡ x) → (d ≡ x → (d : ℕ) × (d ≢ x) × Step S F p y x d) → (d : ℕ) × (d ≢ x) × Step S F p y x d
      go (yes f) r = r f
      go (no k) r = (d, k, subst (λ (w : ℕ). Step S F p y w d) e s)

  port-link : (k y : ℕ) (r : PortAt S F p k y) → Range F.links r.link
  port-link k y r = context-link F NF r.row r.link r.of-figure r.port

  same_row : (k k' y : ℕ) (r : PortAt S F p k y) (s : PortAt S F p k' y) → r.link ≡ x → s.link ≡ x → r.row ≡ s.row
  same_row k k' y r s e f = one r.row s.row r.of-figure s.of-figure (Memᴰ.cast (sym e) r.port) (Memᴰ.cast (sym f) s.port)

  -- Where figure links still go, a port stays one: if it is x, one of them is on its row.
  still-port : (k y : ℕ) → Range S.links y → Used S F unsent y → PortAt S F p k y → PortAt S F unsent k y
  still-port k y real u r = go (ℕ_discrete r.link x)
    where
      by : (z : ℕ) → z ∈ r.row.1 → Range F.links z → z ≢ x → link_target p z ≡ y → PortAt S F unsent k y
      by z m h n e = record { row = r.row; of-figure = r.of-figure; number = r.number; link = z; port = m; there = unsent-other z h n ∙ e }

      go : Dec (r.link ≡ x) → PortAt S F unsent k y
      go (no n) = by r.link r.port (port-link k y r) n r.there
      go (yes e) = by t.0 (subst (λ (row : NetCell). t.0 ∈ row.1) same t.2.second) t.2.second_at.figure-link t.1 t.2.second_at.there
        where
          w : (u.0 ≢ x) × (link_target p u.0 ≡ y)
          w = still-there u.0 y u.1 real.1 u.2

          x-at : At S F p x y
          x-at = record { figure-link = o.is-link; sheet-link = real; there = ap (link_target p) (sym e) ∙ r.there }

          t : (d : ℕ) × (d ≢ x) × Step S F p y x d
          t = first_step y u.0 w.0 x refl (g.linked x u.0 y x-at (record { figure-link = u.1; sheet-link = real; there = w.1 }))

          same : t.2.row ≡ r.row
          same = one t.2.row r.row t.2.of-figure r.of-figure t.2.first (Memᴰ.cast (sym e) r.port)

  to-p : (j : ℕ) → Taken S F unsent j → Taken S F p j
  to-p = taken-same S F unsent p refl

  from-p : (j : ℕ) → Taken S F p j → Taken S F unsent j
  from-p = taken-same S F p unsent refl

  across : (i : ℕ) → Range (length F.atoms) i → Across S F unsent i
  across = put-across S F NF p g.sending.links-sent x o (suc S.links) g.across

  marks : SameMarks S F unsent
  marks = put-marks S F NF p g.sending.links-sent x o (suc S.links) g.same-marks

  -- Where none goes any more, only x went there: all atoms at y have its context.
  now-inside : (k y : ℕ) → ¬ Used S F unsent y → PortAt S F p k y → Inside S F unsent k y
  now-inside k y u r = record {
    no-figure-link = λ z h e. u (z, h, e);
    no-mark = unused-unmarked S F NS NF unsent marks y u;
    only-there = λ j h m. (free j m, given j (g.own-links j h (λ t. free j m (from-p j t)) y m));
  }
    where
      free : (j : ℕ) → y ∈ (cell_at S.atoms j).1 → ¬ Taken S F unsent j
      free = unused-other S F NF unsent across y u

      is_x : (k' : ℕ) (s : PortAt S F p k' y) → s.link ≡ x
      is_x k' s = go (ℕ_discrete s.link x)
        where
          go : Dec (s.link ≡ x) → s.link ≡ x
          go (yes e) = e
          go (no n) = absurd (u (s.link, port-link k' y s, unsent-other s.link (port-link k' y s) n ∙ s.there))

      given : (j : ℕ) → PortAt S F p (given_to p j) y ⊎ Inside S F p (given_to p j) y → given_to p j ≡ k
      given j (inl s) = sym s.number ∙ (ap (λ (row : NetCell). row.0) (same_row (given_to p j) k y s r (is_x (given_to p j) s) (is_x k r)) ∙ r.number)
      given j (inr s) = absurd (s.no-figure-link r.link (port-link k y r) r.there)

  own : (k y : ℕ) → Range S.links y → PortAt S F p k y ⊎ Inside S F p k y → PortAt S F unsent k y ⊎ Inside S F unsent k y
  own k y real (inl r) = go (used-dec S F unsent y)
    where
      go : Dec (Used S F unsent y) → PortAt S F unsent k y ⊎ Inside S F unsent k y
      go (yes u) = inl (still-port k y real u r)
      go (no u) = inr (now-inside k y u r)
  own k y real (inr i) = inr (record {
    no-figure-link = λ z h e. i.no-figure-link z h (still-there z y h real.1 e).1;
    no-mark = i.no-mark;
    only-there = λ j h m. let t = i.only-there j h m in ((λ u. t.0 (to-p j u)), t.1);
  })

  unsent-good : Good S F unsent
  unsent-good = record {
    sending = record {
      atoms-sent = g.sending.atoms-sent;
      to-atoms = g.sending.to-atoms;
      different = g.sending.different;
      links-sent = put-sent S F NF p g.sending.links-sent x o (suc S.links);
      to-links = put-cases S F NF p g.sending.links-sent x o (suc S.links) (Range (suc S.links)) (omega arith, omega arith) g.sending.to-links;
      atoms-given = g.sending.atoms-given;
      not-given = λ j r t. g.sending.not-given j r (to-p j t);
      to-contexts = λ j r n. g.sending.to-contexts j r (λ t. n (from-p j t));
    };
    across = across;
    same-marks = marks;
    linked = λ z b y u v. unsent-linked y z b (not-x y z u) (not-x y b v) (g.linked z b y (at_p y z u) (at_p y b v));
    own-links = λ j r n y m. own (given_to p j) y (place-link S NS j y r m) (g.own-links j r (λ t. n (from-p j t)) y m);
  }

module _ (S F : Net) (NS : Normal S) (NF : Normal F) (q : Placing) where
  -- One such link need not be tried,
  one-row-spared : (un : List ℕ) → Partial S F q un → (x : ℕ) → x ∈ un → OneRow F x → Completable S F q un → Completable S F q (remove x un)
  one-row-spared un a x mine one (p, c) = (
    p',
    record { good = unsent-good S F NS NF x o one p c.good; same-atoms = c.same-atoms; settled = λ z r n. go z r n (ℕ_discrete z x) },
  )
    where
      o : Open F x
      o = a.are-open x mine

      p' : Placing
      p' = unsent S F NS NF x o one p c.good

      go : (z : ℕ) → Range F.links z → ¬ (z ∈ remove x un) → Dec (z ≡ x) → link_target p' z ≡ link_target q z
      go z r n (yes e) = ap (link_target p') e ∙ (unsent-none S F NS NF x o one p c.good ∙ (sym (a.read_none x mine) ∙ ap (link_target q) (sym e)))
      go z r n (no k) = unsent-other S F NS NF x o one p c.good z r k ∙ c.settled z r (λ m. n (in_remove z x un m k))

  -- nor those that are not in un', taken off one after the other; k has all that are left.
  rows-spared : (un' k un : List ℕ) → Partial S F q un → ((x : ℕ) → x ∈ un → ¬ (x ∈ un') → (x ∈ k) × OneRow F x)
      → Completable S F q un → Completable S F q un'
  rows-spared un' [] un a one c = completable-wider S F q un un' (λ x m. go x m (member-dec x un')) c
    where
      go : (x : ℕ) → x ∈ un → Dec (x ∈ un') → x ∈ un'
      go x m (yes i) = i
      go x m (no n) = absurd (Memᴰ.not-nil (one x m n).0)
  rows-spared un' (x ∷ k) un a one c = go (dec-and (member-dec x un) (dec-not (member-dec x un'))) (rows-spared un' k)
    where
      later : (z : ℕ) → z ≢ x → (z ≡ x) ⊎ (z ∈ k) → z ∈ k
      later z n (inl e) = absurd (n e)
      later z n (inr m) = m

      rest : (z : ℕ) → z ∈ un → ¬ (z ∈ un') → z ≢ x → (z ∈ k) × OneRow F z
      rest z m h n = let t = one z m h in (later z n (Memᴰ.cases_cons t.0), t.1)

      Rest : Type 0
      Rest = (v : List ℕ) → Partial S F q v → ((z : ℕ) → z ∈ v → ¬ (z ∈ un') → (z ∈ k) × OneRow F z) → Completable S F q v → Completable S F q un'

      go : Dec ((x ∈ un) × (¬ (x ∈ un'))) → Rest → Completable S F q un'
      go (yes t) r = r (remove x un) (partial-fewer S F q un (remove x un) (λ z m. (of-remove z x un m).0) a)
          (λ z m h. let i = of-remove z x un m in rest z i.0 h i.1) (one-row-spared un a x t.0 (one x t.0 t.1).1 c)
      go (no n) r = r un a (λ z m h. rest z m h (λ e. n (Memᴰ.cast (sym e) m, λ i. h (Memᴰ.cast e i)))) c

-- Only the open links on two context rows or more decide whether there is a completion.
pub several-suffice : (S F : Net) → Normal S → Normal F → (q : Placing) (un un' : List ℕ) → Partial S F q un
    → ((x : ℕ) → x ∈ un' → x ∈ un) → ((x : ℕ) → x ∈ un → ¬ (x ∈ un') → OneRow F x)
    → Completable S F q un → Completable S F q un'
several-suffice S F NS NF q un un' a fewer one = rows-spared S F NS NF q un' un un a (λ x m n. (m, one x m n))
