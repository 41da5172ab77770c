-- Steps that cut the sets and lose no good placing: an atom is sent, loses where it does not go, and sets are narrowed.
use Prim.Native.Nat.{ℕ, suc, ◌-◌, ◌<◌}
use mathlib.Core.Path.{◌≡◌, refl, sym, ◌∙◌, ap, subst}
use mathlib.Core.List.{List, [], ◌∷◌, ◌++◌, append_assoc}
use mathlib.Core.Bool.{Bool, true, false}
use native.Mathlib.Omega.{arith}
use lib.Bits.{bit_and}
use lib.ListN.{length, get_or, set}
use lib.Seq.{get_or-append_seam}
use Rattle.rows.specs.declared.Sheet as form
use Rattle.placing.specs.Net.{Net}
use Rattle.placing.specs.Placing.{Placing, atom_target, Good}
use Rattle.placing.proofs.FirstLaws.{both_ways}
use Rattle.network.specs.NetIn.{net_in}
use Rattle.network.specs.Begun.{Begins}
use Rattle.candidates.specs.Sets.{Obeys}
use Rattle.candidates.specs.Kin.{RowLabels}
use Rattle.candidates.specs.Tables.{AtomIn, MayAtom, MayLink, NoAtom}
use Rattle.candidates.specs.Words.{alone, fewer}
use Rattle.candidates.specs.Laid.{LaidOut}
use Rattle.candidates.proofs.Sending.{row-range, row-place}
use Rattle.narrowing.specs.Steps.{Narrowed, NarrowedBy}
use Rattle.narrowing.proofs.Choice.{choose-obeys, lose-obeys}
use Rattle.ways.specs.Nodes.{NoneStays}
use Rattle.matching.specs.Search.{KeepsIn, Kept, GoesTo, Sent, Pruned}

-- A placing that begins with more begins with less, and where it sends the next figure atom.
begins-before : (pre : List ℕ) (t : ℕ) (p : Placing) → Begins (pre ++ (t ∷ [])) p → Begins pre p
begins-before pre t p b = ((t ∷ []) ++ b.0, b.1 ∙ append_assoc pre (t ∷ []) b.0)

begins-next : (pre : List ℕ) (t : ℕ) (p : Placing) → Begins (pre ++ (t ∷ [])) p → atom_target p (suc (length pre)) ≡ t
begins-next pre t p b =
    ap (λ (k : ℕ). get_or p.atoms_to k 0) (let q : suc (length pre) - 1 ≡ length pre = omega arith in q)
    ∙ ap (λ (l : List ℕ). get_or l (length pre) 0) (b.1 ∙ append_assoc pre (t ∷ []) b.0) ∙ get_or-append_seam pre t b.0 0

module _ (sheet figure : form.Sheet) where
  abbrev S : Net
  S = net_in sheet

  abbrev F : Net
  F = net_in figure

  -- ---- what the search keeps

  -- A figure atom is sent, the next after those placed.
  pub sent-kept : (pre : List ℕ) (k t : ℕ) → length pre ≡ k → (a l b m : List ℕ) (r : Bool) → KeepsIn sheet figure pre a l → Sent sheet figure k t a l b m r → Kept sheet figure (pre ++ (suc t ∷ [])) b m r
  sent-kept pre k t e a l b m r keeps s = record { keeps = λ p g w. s.stays p (goes p g w); none = λ z w. s.none z w.0 (goes w.0 w.1 w.2) }
    where
      goes : (p : Placing) → Good S F p → Begins (pre ++ (suc t ∷ [])) p → GoesTo sheet figure a l k t p
      goes p g w = record {
        good = g;
        obeys = keeps p g (begins-before pre (suc t) p w);
        there = ap (λ (i : ℕ). atom_target p (suc i) - 1) (sym e) ∙ (let q : atom_target p (suc (length pre)) - 1 ≡ t = omega (arith, begins-next pre (suc t) p w) in q);
      }

  pub pruned-kept : (pre a l b m : List ℕ) (r : Bool) → KeepsIn sheet figure pre a l → Pruned sheet figure a l b m r → Kept sheet figure pre b m r
  pruned-kept pre a l b m r keeps s = record { keeps = λ p g w. s.stays p g (keeps p g w); none = λ z w. s.none z w.0 w.1 (keeps w.0 w.1 w.2) }

  -- ---- one step after another

  pub sent-pruned : (k t : ℕ) (a l b m c d : List ℕ) (r q : Bool) → Sent sheet figure k t a l b m r → Pruned sheet figure b m c d q → Sent sheet figure k t a l c d q
  sent-pruned k t a l b m c d r q s u = record { stays = λ p h. u.stays p h.good (s.stays p h); none = λ z p h. u.none z p h.good (s.stays p h) }

  pub pruned-after : (a l b m c d : List ℕ) (r : Bool) → Narrowed sheet figure a l b m → Pruned sheet figure b m c d r → Pruned sheet figure a l c d r
  pruned-after a l b m c d r n s = record { stays = λ p g o. s.stays p g (n p g o); none = λ z p g o. s.none z p g (n p g o) }

  -- ---- the steps

  pub chosen-sent : (k t : ℕ) (a l b : List ℕ) → b ≡ set a k (bit_and (get_or a k 0) (alone t)) → Sent sheet figure k t a l b l false
  chosen-sent k t a l b e = record { stays = λ p h. choose-obeys S F (MayLink l) p a h.obeys k b t e h.there; none = λ z. both_ways z refl }

  pub lost-narrowed : (k t : ℕ) (a l b : List ℕ) → b ≡ set a k (fewer (get_or a k 0) (alone t)) → ((p : Placing) → ¬ GoesTo sheet figure a l k t p) → Narrowed sheet figure a l b l
  lost-narrowed k t a l b e dead p g o = lose-obeys S F (MayLink l) p a o k b t e (λ w. dead p (record { good = g; obeys = o; there = w }))

  pub stays-none : (a l : List ℕ) (r : Bool) → NoneStays sheet figure a l r → Pruned sheet figure a l a l r
  stays-none a l r n = record { stays = λ p g o. o; none = n }

  -- What narrowing promises, where they are laid out.
  pub narrow-pruned : (laid : List ℕ) (n : ℕ) (parts : List ℕ) (m : ℕ) → LaidOut sheet laid n → LaidOut figure parts m → (kin : List ℕ) → RowLabels F (λ x. get_or kin (x - 1) 0)
      → (a l b k : List ℕ) (r : Bool) → NarrowedBy kin laid n parts m a l b k → (r ≡ true → (i : ℕ) × (i < m) × NoAtom b i) → Pruned sheet figure a l b k r
  narrow-pruned laid n parts m os of kin rows a l b k r narrowed empty = record { stays = narrowed sheet figure os of rows; none = λ z p g o. lost p g (narrowed sheet figure os of rows p g o) (empty z) }
    where
      lost : (p : Placing) → Good S F p → Obeys S F (MayAtom b) (MayLink k) p → (i : ℕ) × (i < m) × NoAtom b i → ⊥
      lost p g o w =
          let t = atom_target p (suc w.0) - 1 in
          w.2 t (subst (λ (j : ℕ). AtomIn b j t) (row-place sheet figure os.fit of.fit os.normal of.normal p g w.0)
          (o.atoms (suc w.0) (row-range sheet figure os.fit of.fit os.normal of.normal p g w.0 (omega (arith, w.1, of.count)))))

  -- A figure atom is sent, and the sets are narrowed.
  pub sent-narrowed : (laid : List ℕ) (n : ℕ) (parts : List ℕ) (m : ℕ) → LaidOut sheet laid n → LaidOut figure parts m → (kin : List ℕ) → RowLabels F (λ x. get_or kin (x - 1) 0)
      → (k t : ℕ) (a l s b g : List ℕ) (r : Bool) → s ≡ set a k (bit_and (get_or a k 0) (alone t)) → NarrowedBy kin laid n parts m s l b g → (r ≡ true → (i : ℕ) × (i < m) × NoAtom b i) → Sent sheet figure k t a l b g r
  sent-narrowed laid n parts m os of kin rows k t a l s b g r e narrowed empty =
      sent-pruned k t a l s l b g false r (chosen-sent k t a l s e) (narrow-pruned laid n parts m os of kin rows s l b g r narrowed empty)
