-- The labels of classes follow the fusions: each step of the wiring gives two nodes one label exactly
-- where the fusions so far connect them.
use Prim.Native.Nat.{ℕ, ◌<◌, ◌≤◌}
use mathlib.Core.Path.{◌≡◌, refl, ◌∙◌, sym, ap, subst}
use mathlib.Core.List.Memᴰ
use mathlib.Core.List.{List, [], ◌∷◌, ◌++◌}
use mathlib.Core.Logic.{◌⊎◌, inl, inr, ⊎_elim, ◌↔◌}
use native.Mathlib.Nat.{eq-or-lt_of_le}
use native.Mathlib.Omega.{arith}
use lib.ListN.{length, get_or, length-append, get_or-append}
use lib.Seq.{get_or_at}
use borrow.Author.Tests.{le-ltb}
use Rattle.hyperlmntal.specs.Link.{local, free, ◌∈◌}
use Rattle.hyperlmntal.specs.Hypergraph.{Node, inner, name, Fusion, Connected, stay, along, back, then}
use Rattle.hyperlmntal.proofs.Connection.{connected-mono}
use Rattle.rows.specs.Held.{Wiring, index_of, with_link, with_links, relabelled, merged, with_fusion, with_mark, no_wiring, Among}
use Rattle.linking.specs.Steps.{Wired}
use Rattle.rows.proofs.Lists.{index_of-append, index_of-added, get_d-mapped}
use Rattle.linking.proofs.Wired.{distinct-added, link_added, link-new, link-by, mark_added, mark-by, wired-none, wired-link, wired-merged, wired-mark}
use Rattle.reading.specs.Labels.{label_in}
use Rattle.reading.specs.Agrees.{Known, Labels}
use Rattle.reading.proofs.normal.Merging.{among-added, among-stays, among_there, relabelled-same, relabelled-one, relabelled-below, Adds}

-- Connected nodes have what the ends of each fusion have in common.
pub connected-same : (E : List (Fusion ℕ)) (f : Node ℕ → ℕ) → ((e : Fusion ℕ) → e ∈ E → f e.0 ≡ f e.1) → {x y : Node ℕ} → Connected E x y → f x ≡ f y
connected-same E f h stay = refl
connected-same E f h (along {a} {b} m) = h (a, b) m
connected-same E f h (back c) = sym (connected-same E f h c)
connected-same E f h (then c d) = connected-same E f h c ∙ connected-same E f h d

module _ (w : Wiring) (E : List (Fusion ℕ)) (L : Labels w E) where
  pub label-iff : (x y : Node ℕ) → Known w x → Known w y → (label_in w x ≡ label_in w y) ↔ Connected E x y
  label-iff x y p q = (L.joined x y p q, λ c. connected-same E (label_in w) L.fused c)

  pub label-within : (x : Node ℕ) → Known w x → label_in w x < length w.links
  label-within (inner x) k = L.below _ k
  label-within (name (free m)) k = L.below _ (L.wired.within _ k)
  label-within (name (local n)) k = absurd k

pub labels-none : Labels no_wiring []
unfolding index_of
labels-none =
    record {
      wired = wired-none;
      below = λ k h. absurd (omega arith);
      marks = λ k h. absurd (omega arith);
      ends = λ e m. absurd (Memᴰ.not-nil m);
      fused = λ e m. absurd (Memᴰ.not-nil m);
      joined = none;
    }
  where
    none : (x y : Node ℕ) → Known no_wiring x → Known no_wiring y → label_in no_wiring x ≡ label_in no_wiring y → Connected [] x y
    none (inner x) y p q e = absurd (omega arith)
    none (name (free m)) y p q e = absurd (omega arith)
    none (name (local n)) y p q e = absurd p

-- A new link is a class of its own.
module _ (w : Wiring) (x : ℕ) (new : length w.links ≤ index_of x w.links) where
  pub added-known : (n : Node ℕ) → Known (link_added w x) n ↔ (Known w n ⊎ (n ≡ inner x))
  added-known (inner y) = (λ k. ⊎_elim (λ a. inl a) (λ e. inr (ap inner e)) (among-added y x w.links k), ⊎_elim (λ k. among-stays y x w.links k) (λ e. among_there x w.links new y (cc)))
  added-known (name (free m)) = (λ k. inl k, ⊎_elim (λ k. k) (λ e. absurd (let z : ◌≡◌ {A = ℕ} 0 1 = cc in omega arith)))
  added-known (name (local m)) = (λ k. absurd k, ⊎_elim (λ k. k) (λ e. absurd (let z : ◌≡◌ {A = ℕ} 0 1 = cc in omega arith)))

  module _ (wired : Wired w) where
    pub added-same : (n : Node ℕ) → Known w n → label_in (link_added w x) n ≡ label_in w n
    added-same (inner y) k = rw (index_of-append y w.links (x ∷ []) k) (get_or-append w.classes _ 0 _ (omega arith))
    added-same (name (free m)) k = get_or-append w.classes _ 0 _ (omega (arith, wired.within _ k))
    added-same (name (local m)) k = absurd k

    pub added-fresh : label_in (link_added w x) (inner x) ≡ length w.links
    added-fresh = rw (index_of-added x w.links new) (get_or_at w.classes _ [] 0 _ wired.classed)

  pub labels-added : (E : List (Fusion ℕ)) → Labels w E → Labels (link_added w x) E
  labels-added E L =
      record {
        wired = subst Wired (link-new w x new) (wired-link w x L.wired);
        below = below;
        marks = L.marks;
        ends = λ e m. ((added-known e.0).1 (inl (L.ends e m).0), (added-known e.1).1 (inl (L.ends e m).1));
        fused = λ e m. same e.0 (L.ends e m).0 ∙ L.fused e m ∙ sym (same e.1 (L.ends e m).1);
        joined = λ y z p q e. joined y z ((added-known y).0 p) ((added-known z).0 q) e;
      }
    where
      same : (n : Node ℕ) → Known w n → label_in (link_added w x) n ≡ label_in w n
      same n k = added-same L.wired n k

      below : (k : ℕ) → k < length (w.links ++ (x ∷ [])) → get_or (w.classes ++ (length w.links ∷ [])) k 0 < length (w.links ++ (x ∷ []))
      below k h = simp length-append (⊎_elim
          (λ e. rw (get_or_at w.classes (length w.links) [] 0 k (L.wired.classed ∙ sym e)) (omega arith))
          (λ p. rw (get_or-append w.classes (length w.links ∷ []) 0 k (omega (arith, L.wired.classed))) (omega (arith, L.below k p)))
          (eq-or-lt_of_le (omega (arith, length-append w.links (x ∷ [])))))

      apart : (y z : Node ℕ) → Known w y → z ≡ inner x → label_in (link_added w x) y ≡ label_in (link_added w x) z → ⊥
      apart y z k e q =
          let f : label_in (link_added w x) z ≡ length w.links = rw e (added-fresh L.wired) in
          omega (arith, same y k, label-within w E L y k)

      joined : (y z : Node ℕ) → (Known w y ⊎ (y ≡ inner x)) → (Known w z ⊎ (z ≡ inner x)) → label_in (link_added w x) y ≡ label_in (link_added w x) z → Connected E y z
      joined y z (inl p) (inl q) e = L.joined y z p q (sym (same y p) ∙ e ∙ same z q)
      joined y z (inl p) (inr q) e = absurd (apart y z p q e)
      joined y z (inr p) (inl q) e = absurd (apart z y q p (sym e))
      joined y z (inr p) (inr q) e = subst (λ v. Connected E y v) (p ∙ sym q) stay

pub labels-link : (w : Wiring) (x : ℕ) (E : List (Fusion ℕ)) → Labels w E → Labels (with_link w x) E
labels-link w x E L = link-by w x (λ v. Labels v E) (λ h. L) (λ h. labels-added w x h E L)

pub labels-links : (w : Wiring) (l : List ℕ) (E : List (Fusion ℕ)) → Labels w E → Labels (with_links w l) E
unfolding with_links
labels-links w [] E L = L
labels-links w (x ∷ l) E L = labels-links (with_link w x) l E (labels-link w x E L)

-- Two classes made one have the same nodes, each with its label changed.
module _ (w : Wiring) (i j : ℕ) where
  pub merged-known : (n : Node ℕ) → Known (merged w i j) n ↔ Known w n
  unfolding merged
  merged-known (inner x) = (λ k. k, λ k. k)
  merged-known (name (free m)) = (λ k. k, λ k. k)
  merged-known (name (local m)) = (λ k. k, λ k. k)

  pub merged-label : Wired w → (n : Node ℕ) → Known w n → label_in (merged w i j) n ≡ relabelled (get_or w.classes j 0) (get_or w.classes i 0) (label_in w n)
  unfolding merged
  merged-label k (inner x) h = get_d-mapped _ w.classes _ 0 0 (omega arith)
  merged-label k (name (free m)) h = get_d-mapped _ w.classes _ 0 0 (omega (arith, k.within _ h))
  merged-label k (name (local m)) h = absurd h

-- A fusion of two nodes that are there makes their classes one.
module _ (w : Wiring) (E D : List (Fusion ℕ)) (L : Labels w E) (u v : Node ℕ) (way : Adds E ((u, v) ∷ []) D ⊎ Adds E ((v, u) ∷ []) D) where
  grown : (e : Fusion ℕ) → e ∈ E → e ∈ D
  grown e m = ⊎_elim (λ a. (a e).1 (inl m)) (λ a. (a e).1 (inl m)) way

  which : (P : Fusion ℕ → Type 0) → ((e : Fusion ℕ) → e ∈ E → P e) → P (u, v) → P (v, u) → (e : Fusion ℕ) → e ∈ D → P e
  which P old p q e m = ⊎_elim
      (λ a. ⊎_elim (λ k. old e k) (λ k. subst P (sym (Memᴰ.eq_of_singleton k)) p) ((a e).0 m))
      (λ a. ⊎_elim (λ k. old e k) (λ k. subst P (sym (Memᴰ.eq_of_singleton k)) q) ((a e).0 m))
      way

  linked : Connected D u v
  linked = ⊎_elim (λ a. along ((a (u, v)).1 (inr (Memᴰ.head refl)))) (λ a. back (along ((a (v, u)).1 (inr (Memᴰ.head refl))))) way

  pub labels-merged : (i j : ℕ) → i < length w.links → get_or w.classes i 0 ≡ label_in w u → get_or w.classes j 0 ≡ label_in w v
      → Known w u → Known w v → Labels (merged w i j) D
  unfolding merged
  labels-merged i j h p q ku kv =
      record {
        wired = wired-merged w i j L.wired;
        below = λ k l. rw (get_d-mapped f w.classes k 0 0 (omega (arith, L.wired.classed))) (relabelled-below _ _ _ _ (L.below i h) (L.below k l));
        marks = L.marks;
        ends = which (λ e. Known (merged w i j) e.0 × Known (merged w i j) e.1) (λ e m. (known e.0 (L.ends e m).0, known e.1 (L.ends e m).1))
            (known u ku, known v kv) (known v kv, known u ku);
        fused = which (λ e. label_in (merged w i j) e.0 ≡ label_in (merged w i j) e.1)
            (λ e m. same e.0 (L.ends e m).0 ∙ ap f (L.fused e m) ∙ sym (same e.1 (L.ends e m).1)) one (sym one);
        joined = λ x y k l e. joined x y ((merged-known w i j x).0 k) ((merged-known w i j y).0 l) e;
      }
    where
      f : ℕ → ℕ
      f c = relabelled (get_or w.classes j 0) (get_or w.classes i 0) c

      known : (n : Node ℕ) → Known w n → Known (merged w i j) n
      known n k = (merged-known w i j n).1 k

      same : (n : Node ℕ) → Known w n → label_in (merged w i j) n ≡ f (label_in w n)
      same n k = merged-label w i j L.wired n k

      one : label_in (merged w i j) u ≡ label_in (merged w i j) v
      one = same u ku ∙ ap f (sym p) ∙ relabelled-one (get_or w.classes j 0) (get_or w.classes i 0) ∙ ap f q ∙ sym (same v kv)

      meet : (x y : Node ℕ) → Known w x → Known w y → label_in w x ≡ get_or w.classes i 0 → label_in w y ≡ get_or w.classes j 0 → Connected D x y
      meet x y k l a b =
          then (connected-mono E D grown (L.joined x u k ku (a ∙ p))) (then linked (connected-mono E D grown (L.joined v y kv l (sym (b ∙ q)))))

      joined : (x y : Node ℕ) → Known w x → Known w y → label_in (merged w i j) x ≡ label_in (merged w i j) y → Connected D x y
      joined x y k l e = ⊎_elim
          (λ s. connected-mono E D grown (L.joined x y k l s))
          (⊎_elim (λ c. meet x y k l c.0 c.1) (λ c. back (meet y x l k c.1 c.0)))
          (relabelled-same (get_or w.classes j 0) (get_or w.classes i 0) (label_in w x) (label_in w y) (sym (same x k) ∙ e ∙ same y l))

pub mark-new : (w : Wiring) (a m : ℕ) → length w.marks ≤ index_of m w.marks → with_mark w a m ≡ mark_added w a m
unfolding with_mark
mark-new w a m h = rw (le-ltb _ _ h)

-- A new mark is one with the link that it is put on.
module _ (w : Wiring) (a m : ℕ) (new : length w.marks ≤ index_of m w.marks) where
  pub marked-known : (n : Node ℕ) → Known (mark_added w a m) n ↔ (Known w n ⊎ (n ≡ name (free m)))
  marked-known (inner y) = (λ k. inl k, ⊎_elim (λ k. k) (λ e. absurd (let z : ◌≡◌ {A = ℕ} 0 1 = cc in omega arith)))
  marked-known (name (free l)) = (
    λ k. ⊎_elim (λ h. inl h) (λ e. inr (ap (λ x. name (free x)) e)) (among-added l m w.marks k),
    ⊎_elim (λ k. among-stays l m w.marks k) (λ e. among_there m w.marks new l (cc)),
  )
  marked-known (name (local l)) = (λ k. absurd k, ⊎_elim (λ k. k) (λ e. absurd (let z : ◌≡◌ {A = ℕ} 0 1 = cc in omega arith)))

  module _ (wired : Wired w) where
    pub marked-same : (n : Node ℕ) → Known w n → label_in (mark_added w a m) n ≡ label_in w n
    marked-same (inner y) k = refl
    marked-same (name (free l)) k = rw (index_of-append l w.marks (m ∷ []) k, get_or-append w.marked (index_of a w.links ∷ []) 0 (index_of l w.marks) (omega arith))
    marked-same (name (local l)) k = absurd k

    pub marked-label : label_in (mark_added w a m) (name (free m)) ≡ label_in w (inner a)
    marked-label = rw (index_of-added m w.marks new, get_or_at w.marked (index_of a w.links) [] 0 (length w.marks) wired.placed)

  pub labels-marked : (E D : List (Fusion ℕ)) → Labels w E → Among a w.links → Adds E ((inner a, name (free m)) ∷ []) D → Labels (mark_added w a m) D
  labels-marked E D L there adds =
      record {
        wired = subst Wired (mark-new w a m new) (wired-mark w a m there L.wired);
        below = L.below;
        marks = distinct-added m w.marks new L.marks;
        ends = λ e k. ⊎_elim
            (λ o. (known e.0 (L.ends e o).0, known e.1 (L.ends e o).1))
            (λ o. subst (λ d. Known (mark_added w a m) d.0 × Known (mark_added w a m) d.1) (sym (Memᴰ.eq_of_singleton o)) (there, (marked-known (name (free m))).1 (inr refl)))
            ((adds e).0 k);
        fused = λ e k. ⊎_elim
            (λ o. same e.0 (L.ends e o).0 ∙ L.fused e o ∙ sym (same e.1 (L.ends e o).1))
            (λ o. subst (λ d. label_in (mark_added w a m) d.0 ≡ label_in (mark_added w a m) d.1) (sym (Memᴰ.eq_of_singleton o)) (sym (marked-label L.wired)))
            ((adds e).0 k);
        joined = λ x y p q e.
            let s = stands x ((marked-known x).0 p) in
            let t = stands y ((marked-known y).0 q) in
            then s.3 (then (connected-mono E D grow (L.joined s.0 t.0 s.1 t.1 (sym s.2 ∙ e ∙ t.2))) (back t.3));
      }
    where
      grow : (e : Fusion ℕ) → e ∈ E → e ∈ D
      grow e k = (adds e).1 (inl k)

      known : (n : Node ℕ) → Known w n → Known (mark_added w a m) n
      known n k = (marked-known n).1 (inl k)

      same : (n : Node ℕ) → Known w n → label_in (mark_added w a m) n ≡ label_in w n
      same n k = marked-same L.wired n k

      -- each node is one with a node that was there before
      stands : (n : Node ℕ) → (Known w n ⊎ (n ≡ name (free m))) → (z : Node ℕ) × Known w z × (label_in (mark_added w a m) n ≡ label_in w z) × Connected D n z
      stands n (inl k) = (n, k, same n k, stay)
      stands n (inr e) =
          (inner a, there, ap (label_in (mark_added w a m)) e ∙ marked-label L.wired, subst (λ x. Connected D x (inner a)) (sym e) (back (along ((adds (inner a, name (free m))).1 (inr (Memᴰ.head refl))))))

-- A fusion and an edge, of links that are there.
module _ (w : Wiring) (E D : List (Fusion ℕ)) (L : Labels w E) (a : ℕ) (there : Among a w.links) where
  pub labels-fusion : (b : ℕ) → Among b w.links → Adds E ((inner a, inner b) ∷ []) D → Labels (with_fusion w a b) D
  unfolding with_fusion
  labels-fusion b k adds = labels-merged w E D L (inner a) (inner b) (inl adds) (index_of a w.links) (index_of b w.links) there refl refl there k

  pub labels-mark : (m : ℕ) → Adds E ((inner a, name (free m)) ∷ []) D → Labels (with_mark w a m) D
  labels-mark m adds = mark-by w a m (λ v. Labels v D)
      (λ h. labels-merged w E D L (name (free m)) (inner a) (inr adds) (get_or w.marked (index_of m w.marks) 0) (index_of a w.links) (L.wired.within _ h) refl refl h there)
      (λ h. labels-marked w a m h E D L there adds)
