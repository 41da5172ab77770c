-- On a plain way an open link may as well go to the neighbour of a sheet link.
use Prim.Native.Nat.{ℕ}
use mathlib.Core.Path.{◌≡◌, refl, sym, ◌∙◌, ap, subst}
use mathlib.Core.Logic.{◌⊎◌, inl, inr, ◌≢◌}
use mathlib.Core.List.Memᴰ
use mathlib.Core.List.{List}
use native.Mathlib.Decide.{ℕ_discrete}
use lib.ListN.{length}
use Rattle.hyperlmntal.specs.Link.{◌∈◌}
use Rattle.hyperlmntal.proofs.Lists.{map-agree}
use Rattle.placing.specs.Net.{NetCell, Net, Range, Normal}
use Rattle.placing.specs.Placing.{Placing, cell_at, link_target, given_to, Taken, At, Step, Linked, here, step, Across, SameMarks, PortAt, Inside, Good}
use Rattle.placing.proofs.Standing.{context-link, mark-link, place-link}
use Rattle.completing.specs.Completion.{Partial, Completion, Completable, put, remove}
use Rattle.completing.specs.Fault.{Used, Other}
use Rattle.completing.specs.Known.{Touches}
use Rattle.completing.specs.Neighbours.{PlainStep, OneEach}
use Rattle.completing.proofs.Decide.{member-dec}
use Rattle.completing.proofs.Kept.{taken-same, unused-unmarked}
use Rattle.completing.proofs.Put.{completion-put, put-completion, put-there}
use Rattle.completing.proofs.Shifted.{Further, Stays, Moved, over, away, still, from-z, stays-there, Came, came, moved-range, Shifted, shift}

-- A completion p with figure link x at z, and its links and contexts shifted.
module _ (S F : Net) (NS : Normal S) (NF : Normal F) (one : OneEach F) (q : Placing) (un : List ℕ) (a : Partial S F q un)
    (t u y z : ℕ) (way : PlainStep S F q t u y z) (p : Placing) (c : Completion S F q un p) (x : ℕ) (x-at : At S F p x z)
    (links given : List ℕ) (shifted : Shifted S F p t u y z links given) where
  abbrev after : Placing
  after = record { atoms_to = p.atoms_to; links_to = links; given = given }

  y-stays : Stays S t y z y
  y-stays = (way.differ, λ f. f.1.0 refl)

  -- Only unsettled links move.
  settled-stays : (v : ℕ) → Range F.links v → ¬ (v ∈ un) → link_target after v ≡ link_target p v
  settled-stays v r n = go (shifted.to v r)
    where
      used : (b : ℕ) → link_target p v ≡ b → Used S F q b
      used b e = (v, r, sym (c.settled v r n) ∙ e)

      go : Moved S t y z (link_target p v) (link_target after v) → link_target after v ≡ link_target p v
      go (over h d) = absurd (way.unused (used z h))
      go (away f d) = absurd ((way.private (link_target p v) f.0 f.1.0 f.1.1).0 (used (link_target p v) refl))
      go (still s d) = d

  -- Atoms and marks.
  g : Good S F p
  g = c.good

  to-p : (j : ℕ) → Taken S F after j → Taken S F p j
  to-p = taken-same S F after p refl

  from-p : (j : ℕ) → Taken S F p j → Taken S F after j
  from-p = taken-same S F p after refl

  free : (j : ℕ) → Other S F q j → ¬ Taken S F p j
  free j o k = o.1 (taken-same S F p q c.same-atoms j k)

  across : (i : ℕ) → Range (length F.atoms) i → Across S F after i
  across i r = record { name = (g.across i r).name; places = map-agree (link_target after) (link_target p) (cell_at F.atoms i).1 on-atom ∙ (g.across i r).places }
    where
      on-atom : (v : ℕ) → v ∈ (cell_at F.atoms i).1 → link_target after v ≡ link_target p v
      on-atom v m = settled-stays v (place-link F NF i v r m) (λ k. (a.are-open v k).no-atom i r m)

  marks : SameMarks S F after
  marks = record { onward = on-mark; backward = g.same-marks.backward }
    where
      on-mark : (v m : ℕ) → (v, m) ∈ F.marks → (link_target after v, m) ∈ S.marks
      on-mark v m h = subst (λ (w : ℕ). (w, m) ∈ S.marks) (sym (settled-stays v (mark-link F NF v m h) (λ k. (a.are-open v k).no-mark m h))) (g.same-marks.onward v m h)

  -- Contexts: t gets that of u.
  given-u : given_to after u ≡ given_to p u
  given-u = go (ℕ_discrete u t)
    where
      go : Dec (u ≡ t) → given_to after u ≡ given_to p u
      go (yes e) = ap (given_to after) e ∙ shifted.given-t
      go (no n) = shifted.given-other u way.next-other.0 n

  contexts-given : (j : ℕ) → Range (length S.atoms) j → ¬ Taken S F after j → (row : NetCell) × (row ∈ F.contexts) × (row.0 ≡ given_to after j)
  contexts-given j r n = go (ℕ_discrete j t)
    where
      go : Dec (j ≡ t) → (row : NetCell) × (row ∈ F.contexts) × (row.0 ≡ given_to after j)
      go (yes e) = let k = g.sending.to-contexts u way.next-other.0 (free u way.next-other) in (k.0, k.1, k.2 ∙ sym (ap (given_to after) e ∙ shifted.given-t))
      go (no m) = let k = g.sending.to-contexts j r (λ h. n (from-p j h)) in (k.0, k.1, k.2 ∙ sym (shifted.given-other j r m))

  -- Links that go to y are linked there.
  at-z : (v : ℕ) → At S F p v z → At S F after v y
  at-z v h = record { figure-link = h.figure-link; sheet-link = place-link S NS t y way.step_other.0 way.from; there = from-z S t y z (shifted.to v h.figure-link) h.there }

  at-still : (b : ℕ) → Stays S t y z b → (v : ℕ) → At S F p v b → At S F after v b
  at-still b s v h = record { figure-link = h.figure-link; sheet-link = h.sheet-link; there = stays-there S t y z (shifted.to v h.figure-link) b s h.there }

  -- what was linked at b is linked at d, with what follows there
  carried : (b d e : ℕ) → ((v : ℕ) → At S F p v b → At S F after v d) → {v v' : ℕ} → Linked S F p b v v' → Linked S F after d v' e → Linked S F after d v e
  carried b d e at here k = k
  carried b d e at (step {x = v} {x' = v'} s l) k = step
      (record { row = s.row; of-figure = s.of-figure; first = s.first; second = s.second; first-at = at v s.first-at; second_at = at v' s.second_at })
      (carried b d e at l k)

  -- where a figure link goes, an other atom has a port
  port-used : (j b v : ℕ) → Other S F q j → Touches S j b → At S F p v b → PortAt S F p (given_to p j) b
  port-used j b v o m h = go (g.own-links j o.0 (free j o) b m)
    where
      go : PortAt S F p (given_to p j) b ⊎ Inside S F p (given_to p j) b → PortAt S F p (given_to p j) b
      go (inl r) = r
      go (inr i) = absurd (i.no-figure-link v h.figure-link h.there)

  port-link : (k b : ℕ) (r : PortAt S F p k b) → Range F.links r.link
  port-link k b r = context-link F NF r.row r.link r.of-figure r.port

  port-at : (k b : ℕ) → Range S.links b → (r : PortAt S F p k b) → At S F p r.link b
  port-at k b real r = record { figure-link = port-link k b r; sheet-link = real; there = r.there }

  -- Both groups are on the row of the context that t had.
  module _ (v v' : ℕ) (h : At S F p v y) (h' : At S F p v' z) where
    at_y : PortAt S F p (given_to p t) y
    at_y = port-used t y v way.step_other way.from h

    near-z : PortAt S F p (given_to p t) z
    near-z = port-used t z v' way.step_other way.onto h'

    y-link : At S F p at_y.link y
    y-link = port-at (given_to p t) y h.sheet-link at_y

    z-link : At S F p near-z.link z
    z-link = port-at (given_to p t) z h'.sheet-link near-z

    on_row : near-z.link ∈ at_y.row.1
    on_row = subst (λ (row : NetCell). near-z.link ∈ row.1)
        (one near-z.row at_y.row near-z.of-figure at_y.of-figure (near-z.number ∙ sym at_y.number)) near-z.port

    between : Step S F after y at_y.link near-z.link
    between = record { row = at_y.row; of-figure = at_y.of-figure; first = at_y.port; second = on_row; first-at = at-still y y-stays at_y.link y-link; second_at = at-z near-z.link z-link }

    onward : Linked S F after y v v'
    onward = carried y y v' (at-still y y-stays) (g.linked v at_y.link y h y-link)
        (step between (carried z y v' at-z (g.linked near-z.link v' z z-link h') here))

    backward : Linked S F after y v' v
    backward = carried z y v at-z (g.linked v' near-z.link z h' z-link)
        (step (record { row = between.row; of-figure = between.of-figure; first = between.second; second = between.first; first-at = between.second_at; second_at = between.first-at })
        (carried y y v (at-still y y-stays) (g.linked at_y.link v y y-link h) here))

  linked : (v v' b : ℕ) → At S F after v b → At S F after v' b → Linked S F after b v v'
  linked v v' b h h' = go (came S t y z (shifted.to v h.figure-link) b h.sheet-link.1 h.there) (came S t y z (shifted.to v' h'.figure-link) b h'.sheet-link.1 h'.there)
    where
      at : (w d : ℕ) → At S F after w b → Range S.links d → link_target p w ≡ d → At S F p w d
      at w d k r e = record { figure-link = k.figure-link; sheet-link = r; there = e }

      to-b : b ≡ y → Linked S F after y v v' → Linked S F after b v v'
      to-b e l = subst (λ (d : ℕ). Linked S F after d v v') (sym e) l

      at_b : (w : ℕ) → b ≡ y → At S F after w b → link_target p w ≡ b → At S F p w y
      at_b w e k f = at w y k (subst (Range S.links) e k.sheet-link) (f ∙ e)

      go : Came S t y z (link_target p v) b → Came S t y z (link_target p v') b → Linked S F after b v v'
      go (inr (s, e)) (inr (s', e')) = carried b b v' (at-still b s) (g.linked v v' b (at v b h h.sheet-link e) (at v' b h' h.sheet-link e')) here
      go (inl (f, e)) (inl (f', e')) = to-b f (carried z y v' at-z (g.linked v v' z (at v z h x-at.sheet-link e) (at v' z h' x-at.sheet-link e')) here)
      go (inr (s, e)) (inl (f, e')) = to-b f (onward v v' (at_b v f h e) (at v' z h' x-at.sheet-link e'))
      go (inl (f, e)) (inr (s, e')) = to-b f (backward v' v (at_b v' f h' e') (at v z h x-at.sheet-link e))

  -- The links of the atoms that contexts have.
  unused-now : (b : ℕ) → Range S.links b → b ≢ y → ¬ Stays S t y z b → ¬ Used S F after b
  unused-now b real n s (v, r, e) = go (came S t y z (shifted.to v r) b real.1 e)
    where
      go : Came S t y z (link_target p v) b → ⊥
      go (inl (f, k)) = n f
      go (inr (k, f)) = s k

  -- where none goes any more, and all atoms have context k
  empty : (k b : ℕ) → Range S.links b → b ≢ y → ¬ Stays S t y z b
      → ((j : ℕ) → Range (length S.atoms) j → Touches S j b → (¬ Taken S F after j) × (given_to after j ≡ k)) → Inside S F after k b
  empty k b real n s all = let w = unused-now b real n s in
      record { no-figure-link = λ v r e. w (v, r, e); no-mark = unused-unmarked S F NS NF after marks b w; only-there = all }

  z-port : (k : ℕ) → PortAt S F p k z → PortAt S F after k y
  z-port k r = record { row = r.row; of-figure = r.of-figure; number = r.number; link = r.link; port = r.port; there = from-z S t y z (shifted.to r.link (port-link k z r)) r.there }

  still-port : (k b : ℕ) → Stays S t y z b → PortAt S F p k b → PortAt S F after k b
  still-port k b s r = record { row = r.row; of-figure = r.of-figure; number = r.number; link = r.link; port = r.port; there = stays-there S t y z (shifted.to r.link (port-link k b r)) b s r.there }

  abbrev Own : ℕ → ℕ → Type 0
  Own j b = PortAt S F after (given_to after j) b ⊎ Inside S F after (given_to after j) b

  -- at z, both atoms have the context of u
  own-z : (j : ℕ) → Range (length S.atoms) j → Touches S j z → Inside S F after (given_to after j) z
  own-z j r m = empty (given_to after j) z x-at.sheet-link (λ e. way.differ (sym e)) (λ s. s.0 refl)
      (λ i h k. let o = of-u i h k in (o.0, o.1 ∙ sym (of-u j r m).1))
    where
      OfU : ℕ → Type 0
      OfU i = (¬ Taken S F after i) × (given_to after i ≡ given_to p u)

      of-u : (i : ℕ) → Range (length S.atoms) i → Touches S i z → OfU i
      of-u i h k = go (way.only i h k)
        where
          go : (i ≡ t) ⊎ (i ≡ u) → OfU i
          go (inl e) = subst OfU (sym e) ((λ s. free t way.step_other (to-p t s)), shifted.given-t)
          go (inr e) = subst OfU (sym e) ((λ s. free u way.next-other (to-p u s)), given-u)

  -- t is alone at its further links
  own-further : (j b : ℕ) → Range (length S.atoms) j → Touches S j b → Further S t y z b → Inside S F after (given_to after j) b
  own-further j b r m f = empty (given_to after j) b (place-link S NS j b r m) f.1.0 (λ s. s.1 f)
      (λ i s k. ((λ h. free t way.step_other (to-p t (subst (Taken S F after) (alone i s k) h))), ap (given_to after) (alone i s k ∙ sym (alone j r m))))
    where
      alone : (i : ℕ) → Range (length S.atoms) i → Touches S i b → i ≡ t
      alone = (way.private b f.0 f.1.0 f.1.1).1

  -- at y, what came from z is on the contexts of t and of u
  own-y : (j : ℕ) → Range (length S.atoms) j → ¬ Taken S F p j → Touches S j y → PortAt S F after (given_to after j) y
  own-y j r n m = go (ℕ_discrete j t)
    where
      by : PortAt S F p (given_to p j) y ⊎ Inside S F p (given_to p j) y → PortAt S F after (given_to p j) y
      by (inl k) = still-port (given_to p j) y y-stays k
      by (inr i) = z-port (given_to p j) (subst (λ (k : ℕ). PortAt S F p k z) (i.only-there t way.step_other.0 way.from).1
          (port-used t z x way.step_other way.onto x-at))

      go : Dec (j ≡ t) → PortAt S F after (given_to after j) y
      go (yes e) = subst (λ (k : ℕ). PortAt S F after k y) (sym (ap (given_to after) e ∙ shifted.given-t)) (z-port (given_to p u) (port-used u z x way.next-other way.next-on x-at))
      go (no k) = subst (λ (k : ℕ). PortAt S F after k y) (sym (shifted.given-other j r k)) (by (g.own-links j r n y m))

  -- elsewhere all is as it was
  own-elsewhere : (j b : ℕ) → Range (length S.atoms) j → ¬ Taken S F p j → Touches S j b → ¬ Touches S t b → Own j b
  own-elsewhere j b r n m off = subst (λ (k : ℕ). PortAt S F after k b ⊎ Inside S F after k b) (sym (shifted.given-other j r (not_t j m))) (by (g.own-links j r n b m))
    where
      not_t : (i : ℕ) → Touches S i b → i ≢ t
      not_t i k e = off (subst (λ (h : ℕ). Touches S h b) e k)

      stays : Stays S t y z b
      stays = ((λ e. off (Memᴰ.cast e way.onto)), (λ f. off f.0))

      before : (v : ℕ) → Came S t y z (link_target p v) b → link_target p v ≡ b
      before v (inl (e, k)) = absurd (off (Memᴰ.cast e way.from))
      before v (inr (s, k)) = k

      by : PortAt S F p (given_to p j) b ⊎ Inside S F p (given_to p j) b → PortAt S F after (given_to p j) b ⊎ Inside S F after (given_to p j) b
      by (inl k) = inl (still-port (given_to p j) b stays k)
      by (inr i) = inr (record {
        no-figure-link = λ v h e. i.no-figure-link v h (before v (came S t y z (shifted.to v h) b (place-link S NS j b r m).1 e));
        no-mark = i.no-mark;
        only-there = λ l h k. let o = i.only-there l h k in ((λ s. o.0 (to-p l s)), shifted.given-other l h (not_t l k) ∙ o.1);
      })

  own : (j : ℕ) → Range (length S.atoms) j → ¬ Taken S F p j → (b : ℕ) → Touches S j b → Own j b
  own j r n b m = go (ℕ_discrete b y) (ℕ_discrete b z) (member-dec b (cell_at S.atoms t).1)
    where
      go : Dec (b ≡ y) → Dec (b ≡ z) → Dec (Touches S t b) → Own j b
      go (yes e) d f = inl (subst (PortAt S F after (given_to after j)) (sym e) (own-y j r n (Memᴰ.cast (sym e) m)))
      go (no h) (yes e) f = inr (subst (Inside S F after (given_to after j)) (sym e) (own-z j r (Memᴰ.cast (sym e) m)))
      go (no h) (no k) (yes f) = inr (own-further j b r m (f, (h, k)))
      go (no h) (no k) (no f) = own-elsewhere j b r n m f

  after-good : Good S F after
  after-good = record {
    sending = record {
      atoms-sent = g.sending.atoms-sent;
      to-atoms = g.sending.to-atoms;
      different = g.sending.different;
      links-sent = shifted.links-sent;
      to-links = λ v r. moved-range S t y z (place-link S NS t y way.step_other.0 way.from) (shifted.to v r) (g.sending.to-links v r);
      atoms-given = shifted.atoms-given;
      not-given = λ j r k. shifted.given-other j r (λ e. free t way.step_other (subst (Taken S F p) e (to-p j k))) ∙ g.sending.not-given j r (to-p j k);
      to-contexts = contexts-given;
    };
    across = across;
    same-marks = marks;
    linked = linked;
    own-links = λ j r n b m. own j r (λ k. n (from-p j k)) b m;
  }

  after-completion : Completion S F q un after
  after-completion = record { good = after-good; same-atoms = c.same-atoms; settled = λ v r n. settled-stays v r n ∙ c.settled v r n }

-- Where an open link can be settled at z it can at y.
pub neighbour-completable : (S F : Net) → Normal S → Normal F → OneEach F → (q : Placing) (un : List ℕ) → Partial S F q un → (t u y z : ℕ) → PlainStep S F q t u y z → (x : ℕ) → x ∈ un
    → Completable S F (put q x z) (remove x un) → Completable S F (put q x y) (remove x un)
neighbour-completable S F NS NF one q un a t u y z way x mine (p, c) = go (shift S F p t u y z way.step_other.0 c.good.sending.atoms-given)
  where
    whole : Completion S F q un p
    whole = put-completion S F NF q un a x mine z p c

    x-at : At S F p x z
    x-at = record { figure-link = (a.are-open x mine).is-link; sheet-link = place-link S NS t z way.step_other.0 way.onto; there = put-there S F NF q un a x mine z p c }

    go : (links : List ℕ) × (given : List ℕ) × Shifted S F p t u y z links given → Completable S F (put q x y) (remove x un)
    go (links, given, shifted) = (
      record { atoms_to = p.atoms_to; links_to = links; given = given },
      completion-put S F NF q un a x mine y (record { atoms_to = p.atoms_to; links_to = links; given = given })
          (after-completion S F NS NF one q un a t u y z way p whole x x-at links given shifted)
          (from-z S t y z (shifted.to x x-at.figure-link) x-at.there),
    )
