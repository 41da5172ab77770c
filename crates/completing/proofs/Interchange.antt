-- Open links on the same contexts are interchangeable.
use Prim.Native.Nat.{ℕ, suc, ◌+◌, ◌-◌}
use mathlib.Core.Path.{◌≡◌, refl, sym, ◌∙◌, ap, subst, subst₂}
use mathlib.Core.Logic.{◌⊎◌, inl, inr}
use mathlib.Core.List.Memᴰ
use mathlib.Core.List.{List}
use native.Mathlib.Omega.{arith}
use lib.ListN.{length}
use Rattle.hyperlmntal.specs.Link.{◌∈◌}
use Rattle.hyperlmntal.proofs.Lists.{map-agree}
use Rattle.placing.specs.Net.{NetCell, Net, Range, Normal}
use Rattle.placing.specs.Placing.{Placing, cell_at, link_target, given_to, Taken, At, Linked, PortAt, Inside, Good}
use Rattle.placing.specs.Smallest.{table}
use Rattle.placing.proofs.Lists.{table-length, table_at}
use Rattle.placing.proofs.Standing.{context-link, mark-link, place-link}
use Rattle.completing.specs.Completion.{Open, Partial, Completion, Completable, put, remove, SameContexts}
use Rattle.network.proofs.Swapped.{swapped, swapped-cases, swapped-second, swapped_other, swapped-twice}
use Rattle.completing.proofs.Kept.{linked-map, taken-same}
use Rattle.completing.proofs.Put.{completion-put, put-completion, put-there}

module _ (S F : Net) (NF : Normal F) (u v : ℕ) (ou : Open F u) (ov : Open F v) (same : SameContexts F u v) (p : Placing) (g : Good S F p) where
  -- each of the two goes where the other did
  abbrev exchanged : Placing
  exchanged = record { atoms_to = p.atoms_to; links_to = table (λ x. link_target p (swapped u v x)) 1 F.links; given = p.given }

  swap-link : (x : ℕ) → Range F.links x → Range F.links (swapped u v x)
  swap-link x r = swapped-cases (λ a b. Range F.links a → Range F.links b) u v x (λ k. ov.is-link) (λ k. ou.is-link) (λ h k w. w) r

  exchanged-to : (x : ℕ) → Range F.links x → link_target exchanged x ≡ link_target p (swapped u v x)
  exchanged-to x r = table_at (λ z. link_target p (swapped u v z)) 1 F.links (x - 1) 0 (omega (arith, r.0, r.1))
      ∙ ap (λ (z : ℕ). link_target p (swapped u v z)) (let e : 1 + (x - 1) ≡ x = omega (arith, r.0) in e)

  swap-row : (row : NetCell) → row ∈ F.contexts → (x : ℕ) → x ∈ row.1 → swapped u v x ∈ row.1
  swap-row row r x m = swapped-cases (λ a b. a ∈ row.1 → b ∈ row.1) u v x (same row r).0 (same row r).1 (λ h k w. w) m

  atom-still : (i : ℕ) → Range (length F.atoms) i → (x : ℕ) → x ∈ (cell_at F.atoms i).1 → link_target exchanged x ≡ link_target p x
  atom-still i r x m = exchanged-to x (place-link F NF i x r m)
      ∙ ap (link_target p) (swapped_other u v x (λ e. ou.no-atom i r (Memᴰ.cast (sym e) m)) (λ e. ov.no-atom i r (Memᴰ.cast (sym e) m)))

  mark-still : (x m : ℕ) → (x, m) ∈ F.marks → link_target exchanged x ≡ link_target p x
  mark-still x m h = exchanged-to x (mark-link F NF x m h)
      ∙ ap (link_target p) (swapped_other u v x (λ e. ou.no-mark m (subst (λ (w : ℕ). (w, m) ∈ F.marks) e h)) (λ e. ov.no-mark m (subst (λ (w : ℕ). (w, m) ∈ F.marks) e h)))

  exchanged-back : (x : ℕ) → Range F.links x → link_target exchanged (swapped u v x) ≡ link_target p x
  exchanged-back x r = exchanged-to (swapped u v x) (swap-link x r) ∙ ap (link_target p) (swapped-twice u v x)

  at-exchanged : (y x : ℕ) → At S F exchanged x y → At S F p (swapped u v x) y
  at-exchanged y x h = record { figure-link = swap-link x h.figure-link; sheet-link = h.sheet-link; there = sym (exchanged-to x h.figure-link) ∙ h.there }

  exchanged-at : (y x : ℕ) → At S F p x y → At S F exchanged (swapped u v x) y
  exchanged-at y x h = record { figure-link = swap-link x h.figure-link; sheet-link = h.sheet-link; there = exchanged-back x h.figure-link ∙ h.there }

  to-p : (j : ℕ) → Taken S F exchanged j → Taken S F p j
  to-p = taken-same S F exchanged p refl

  from-p : (j : ℕ) → Taken S F p j → Taken S F exchanged j
  from-p = taken-same S F p exchanged refl

  own : (k y : ℕ) → PortAt S F p k y ⊎ Inside S F p k y → PortAt S F exchanged k y ⊎ Inside S F exchanged k y
  own k y (inl r) = inl (record {
    row = r.row;
    of-figure = r.of-figure;
    number = r.number;
    link = swapped u v r.link;
    port = swap-row r.row r.of-figure r.link r.port;
    there = exchanged-back r.link (context-link F NF r.row r.link r.of-figure r.port) ∙ r.there;
  })
  own k y (inr r) = inr (record {
    no-figure-link = λ x h e. r.no-figure-link (swapped u v x) (swap-link x h) (sym (exchanged-to x h) ∙ e);
    no-mark = r.no-mark;
    only-there = λ j h m. let o = r.only-there j h m in ((λ t. o.0 (to-p j t)), o.1);
  })

  exchanged-good : Good S F exchanged
  exchanged-good = record {
    sending = record {
      atoms-sent = g.sending.atoms-sent;
      to-atoms = g.sending.to-atoms;
      different = g.sending.different;
      links-sent = table-length (λ x. link_target p (swapped u v x)) 1 F.links;
      to-links = λ x r. subst (Range (suc S.links)) (sym (exchanged-to x r)) (g.sending.to-links (swapped u v x) (swap-link x r));
      atoms-given = g.sending.atoms-given;
      not-given = λ j r t. g.sending.not-given j r (to-p j t);
      to-contexts = λ j r n. g.sending.to-contexts j r (λ t. n (from-p j t));
    };
    across = λ i r. record {
      name = (g.across i r).name;
      places = map-agree (link_target exchanged) (link_target p) (cell_at F.atoms i).1 (atom-still i r) ∙ (g.across i r).places;
    };
    same-marks = record {
      onward = λ x m h. subst (λ (w : ℕ). (w, m) ∈ S.marks) (sym (mark-still x m h)) (g.same-marks.onward x m h);
      backward = g.same-marks.backward;
    };
    linked = λ x x' y a b. subst₂ (λ (s t : ℕ). Linked S F exchanged y s t) (swapped-twice u v x) (swapped-twice u v x')
        (linked-map S F p exchanged y y (swapped u v) swap-row (exchanged-at y) (g.linked (swapped u v x) (swapped u v x') y (at-exchanged y x a) (at-exchanged y x' b)));
    own-links = λ j r n y m. own (given_to p j) y (g.own-links j r (λ t. n (from-p j t)) y m);
  }

module _ (S F : Net) (NF : Normal F) (q : Placing) (un : List ℕ) (a : Partial S F q un) where
  -- Two unsettled links on the same contexts: what can be completed with the one at y can with the other at y.
  pub interchange : (u v y : ℕ) → u ∈ un → v ∈ un → SameContexts F u v → Completable S F (put q u y) (remove u un) → Completable S F (put q v y) (remove v un)
  interchange u v y mu mv same (p, c) = (p', completion-put S F NF q un a v mv y p' whole there)
    where
      ou : Open F u
      ou = a.are-open u mu

      ov : Open F v
      ov = a.are-open v mv

      p' : Placing
      p' = exchanged S F NF u v ou ov same p c.good

      to : (x : ℕ) → Range F.links x → link_target p' x ≡ link_target p (swapped u v x)
      to = exchanged-to S F NF u v ou ov same p c.good

      there : link_target p' v ≡ y
      there = to v ov.is-link ∙ (ap (link_target p) (swapped-second u v) ∙ put-there S F NF q un a u mu y p c)

      base : Completion S F q un p
      base = put-completion S F NF q un a u mu y p c

      whole : Completion S F q un p'
      whole = record {
        good = exchanged-good S F NF u v ou ov same p c.good;
        same-atoms = c.same-atoms;
        settled = λ z r n. to z r ∙ (ap (link_target p) (swapped_other u v z (λ e. n (Memᴰ.cast e mu)) (λ e. n (Memᴰ.cast e mv))) ∙ base.settled z r n);
      }
