-- How a row changes links, classes and marks: what grows, what stays, and that each link stands once
-- and keeps a class, and each mark a link's place.
use Prim.Native.Nat.{ℕ, zero, suc, ◌<◌, ◌≤◌}
use mathlib.Core.Path.{◌≡◌, refl, ◌∙◌, sym}
use mathlib.Core.List.{List, [], ◌∷◌, ◌++◌}
use mathlib.Core.Bool.{Bool, true, false}
use mathlib.Core.Logic.{◌⊎◌, ⊎_elim}
use native.Mathlib.Nat.{eq-or-lt_of_le}
use native.Mathlib.Omega.{arith}
use lib.Dec.{eqb}
use lib.ListN.{length, get_or, length-append, length-map, get_or-append}
use lib.Seq.{get_or_at}
use borrow.Author.Tests.{ltb-true, ltb-false, lt-ltb, le-ltb, eqb-true, eqb-false}
use Rattle.rows.specs.Pick.{pick}
use Rattle.rows.specs.Held.{Wiring, Held, index_of, is_in, with_link, with_links, relabelled, merged, with_fusion, with_mark, no_wiring, links_of, with_atom, with_context, with_fusion_row, with_edge_row, with_head, with_row, Among}
use Rattle.linking.specs.Steps.{Distinct, Wired}
use Rattle.rows.specs.declared.row.Row.{Row}
use Rattle.rows.proofs.Lists.{index_of-le, index_of-append, index_of-added}

-- Where no number stood twice, none does with one more that is new.
pub distinct-added : (x : ℕ) (l : List ℕ) → length l ≤ index_of x l → Distinct l → Distinct (l ++ (x ∷ []))
distinct-added x l new once p h =
    ⊎_elim
    (λ e. rw (get_or_at l x [] 0 p (sym e)) (index_of-added x l new ∙ sym e))
    (λ q. rw (get_or-append l (x ∷ []) 0 p q) (index_of-append (get_or l p 0) l (x ∷ []) (rw (once p q) q) ∙ once p q))
    (eq-or-lt_of_le (let q : p ≤ length l = omega (arith, length-append l (x ∷ [])) in q))

-- The wiring with a further link, which is new.
abbrev pub link_added : Wiring → ℕ → Wiring
link_added w x = record { links = w.links ++ (x ∷ []); classes = w.classes ++ (length w.links ∷ []); marks = w.marks; marked = w.marked }

-- One link more: either it is there, or it is put behind the others.
module _ (w : Wiring) (x : ℕ) where
  pub link-known : Among x w.links → with_link w x ≡ w
  unfolding with_link
  link-known h = rw (lt-ltb _ _ h)

  pub link-new : length w.links ≤ index_of x w.links → with_link w x ≡ link_added w x
  unfolding with_link
  link-new h = rw (le-ltb _ _ h)

  -- What holds in both cases holds.
  pub link-by : (P : Wiring → Type 0) → (Among x w.links → P w) → (length w.links ≤ index_of x w.links → P (link_added w x)) → P (with_link w x)
  unfolding with_link
  link-by P known new = go (is_in x w.links) refl
    where
      go : (b : Bool) → is_in x w.links ≡ b → P (pick b w (link_added w x))
      go true e = known (ltb-true _ _ e)
      go false e = new (ltb-false _ _ e)

  pub link-marks : (with_link w x).marks ≡ w.marks
  link-marks = link-by (λ v. v.marks ≡ w.marks) (λ h. refl) (λ h. refl)

  pub link-marked : (with_link w x).marked ≡ w.marked
  link-marked = link-by (λ v. v.marked ≡ w.marked) (λ h. refl) (λ h. refl)

  pub link-keeps : length w.links ≤ length (with_link w x).links
  link-keeps = link-by (λ v. length w.links ≤ length v.links) (λ h. omega arith) (λ h. simp length-append (omega arith))

  -- The link is there, and every other stays in its place.
  pub link-there : Among x (with_link w x).links
  link-there = link-by (λ v. Among x v.links) (λ h. h) (λ h. rw (index_of-added x w.links h) (simp length-append (omega arith)))

  pub link-found : index_of x (with_link w x).links ≡ index_of x w.links
  link-found = link-by (λ v. index_of x v.links ≡ index_of x w.links) (λ h. refl) (λ h. index_of-added x w.links h ∙ omega (arith, index_of-le x w.links))

  pub link-place : (y : ℕ) → Among y w.links → index_of y (with_link w x).links ≡ index_of y w.links
  link-place y k = link-by (λ v. index_of y v.links ≡ index_of y w.links) (λ h. refl) (λ h. index_of-append y w.links (x ∷ []) k)

  pub link_stays : (y : ℕ) → Among y w.links → Among y (with_link w x).links
  link_stays y k = omega (arith, link-place y k, link-keeps)

-- Several links more.
pub links-marks : (w : Wiring) (l : List ℕ) → (with_links w l).marks ≡ w.marks
unfolding with_links
links-marks w [] = refl
links-marks w (x ∷ l) = links-marks (with_link w x) l ∙ link-marks w x

pub links-marked : (w : Wiring) (l : List ℕ) → (with_links w l).marked ≡ w.marked
unfolding with_links
links-marked w [] = refl
links-marked w (x ∷ l) = links-marked (with_link w x) l ∙ link-marked w x

pub links-keep : (w : Wiring) (l : List ℕ) → length w.links ≤ length (with_links w l).links
unfolding with_links
links-keep w [] = omega arith
links-keep w (x ∷ l) = omega (arith, links-keep (with_link w x) l, link-keeps w x)

pub links-place : (w : Wiring) (l : List ℕ) (y : ℕ) → Among y w.links → index_of y (with_links w l).links ≡ index_of y w.links
unfolding with_links
links-place w [] y k = refl
links-place w (x ∷ l) y k = links-place (with_link w x) l y (link_stays w x y k) ∙ link-place w x y k

pub links-stay : (w : Wiring) (l : List ℕ) (y : ℕ) → Among y w.links → Among y (with_links w l).links
links-stay w l y k = omega (arith, links-place w l y k, links-keep w l)

pub links-there : (w : Wiring) (l : List ℕ) (k : ℕ) → k < length l → Among (get_or l k 0) (with_links w l).links
unfolding with_links
links-there w [] k h = absurd (omega arith)
links-there w (x ∷ l) zero h = links-stay (with_link w x) l x (link-there w x)
links-there w (x ∷ l) (suc k) h = links-there (with_link w x) l k (omega arith)

-- Two classes made one: as many labels as before.
module _ (w : Wiring) (i j : ℕ) where
  pub merged-classes : length (merged w i j).classes ≡ length w.classes
  unfolding merged
  merged-classes = length-map w.classes (relabelled (get_or w.classes j 0) (get_or w.classes i 0))

-- The wiring with a further mark, which is new.
abbrev pub mark_added : Wiring → ℕ → ℕ → Wiring
mark_added w a m = record { links = w.links; classes = w.classes; marks = w.marks ++ (m ∷ []); marked = w.marked ++ (index_of a w.links ∷ []) }

module _ (w : Wiring) (a m : ℕ) where
  pub mark-known : Among m w.marks → with_mark w a m ≡ merged w (get_or w.marked (index_of m w.marks) 0) (index_of a w.links)
  unfolding with_mark
  mark-known h = rw (lt-ltb _ _ h)

  pub mark-new : length w.marks ≤ index_of m w.marks → with_mark w a m ≡ mark_added w a m
  unfolding with_mark
  mark-new h = rw (le-ltb _ _ h)

  -- What holds with two classes made one, and with the mark put behind the others, holds.
  pub mark-by : (P : Wiring → Type 0) → (Among m w.marks → P (merged w (get_or w.marked (index_of m w.marks) 0) (index_of a w.links)))
      → (length w.marks ≤ index_of m w.marks → P (mark_added w a m)) → P (with_mark w a m)
  unfolding with_mark
  mark-by P known new = go (is_in m w.marks) refl
    where
      go : (b : Bool) → is_in m w.marks ≡ b → P (pick b (merged w (get_or w.marked (index_of m w.marks) 0) (index_of a w.links)) (mark_added w a m))
      go true e = known (ltb-true _ _ e)
      go false e = new (ltb-false _ _ e)

  pub mark-links : (with_mark w a m).links ≡ w.links
  unfolding merged
  mark-links = mark-by (λ v. v.links ≡ w.links) (λ h. refl) (λ h. refl)

-- Each link stands once and has its class, and each mark a link's place.
pub wired-none : Wired no_wiring
wired-none = record { distinct = λ p h. absurd (omega arith); classed = refl; placed = refl; within = λ p h. absurd (omega arith) }

pub wired-link : (w : Wiring) (x : ℕ) → Wired w → Wired (with_link w x)
wired-link w x k = link-by w x Wired (λ h. k) (λ h.
    record {
      distinct = distinct-added x w.links h k.distinct;
      classed = simp (length-append, k.classed);
      placed = k.placed;
      within = λ p l. simp length-append (omega (arith, k.within p l));
    })

pub wired-links : (w : Wiring) (l : List ℕ) → Wired w → Wired (with_links w l)
unfolding with_links
wired-links w [] k = k
wired-links w (x ∷ l) k = wired-links (with_link w x) l (wired-link w x k)

pub wired-merged : (w : Wiring) (i j : ℕ) → Wired w → Wired (merged w i j)
unfolding merged
wired-merged w i j k = record { distinct = k.distinct; classed = merged-classes w i j ∙ k.classed; placed = k.placed; within = k.within }

pub wired-fusion : (w : Wiring) (a b : ℕ) → Wired w → Wired (with_fusion w a b)
unfolding with_fusion
wired-fusion w a b k = wired-merged w (index_of a w.links) (index_of b w.links) k

pub wired-mark : (w : Wiring) (a m : ℕ) → Among a w.links → Wired w → Wired (with_mark w a m)
wired-mark w a m there k = mark-by w a m Wired (λ h. wired-merged w _ _ k) (λ h.
    record {
      distinct = k.distinct;
      classed = k.classed;
      placed = simp (length-append, k.placed);
      within = λ p l. ⊎_elim
          (λ e. rw (get_or_at w.marked (index_of a w.links) [] 0 p (k.placed ∙ sym e)) there)
          (λ q. rw (get_or-append w.marked (index_of a w.links ∷ []) 0 p (omega (arith, k.placed))) (k.within p q))
          (last p l);
    })
  where
    last : (p : ℕ) → p < length (w.marks ++ (m ∷ [])) → (p ≡ length w.marks) ⊎ (p < length w.marks)
    last p l = eq-or-lt_of_le (omega (arith, length-append w.marks (m ∷ [])))

-- A row more, by its letter: what holds in each case holds.
module _ (h : Held) (r : Row) where
  pub row_by : (P : Held → Type 0)
      → (r.letter ≡ 0 → P (with_atom h r.nums))
      → (r.letter ≡ 1 → P (with_context h r.nums))
      → (r.letter ≡ 2 → P (with_fusion_row h (get_or r.nums 0 0) (get_or r.nums 1 0)))
      → (r.letter ≡ 3 → P (with_edge_row h (get_or r.nums 0 0) (get_or r.nums 1 0)))
      → (3 < r.letter → P (with_head h r.nums))
      → P (with_row h r)
  unfolding with_row
  row_by P s b f e l = go (eqb r.letter 0) (eqb r.letter 1) (eqb r.letter 2) (eqb r.letter 3) refl refl refl refl
    where
      go : (p q u v : Bool) → eqb r.letter 0 ≡ p → eqb r.letter 1 ≡ q → eqb r.letter 2 ≡ u → eqb r.letter 3 ≡ v
          → P (pick p (with_atom h r.nums)
          (pick q (with_context h r.nums)
          (pick u (with_fusion_row h (get_or r.nums 0 0) (get_or r.nums 1 0))
          (pick v (with_edge_row h (get_or r.nums 0 0) (get_or r.nums 1 0)) (with_head h r.nums)))))
      go true q u v i j k m = s (eqb-true _ _ i)
      go false true u v i j k m = b (eqb-true _ _ j)
      go false false true v i j k m = f (eqb-true _ _ k)
      go false false false true i j k m = e (eqb-true _ _ m)
      go false false false false i j k m =
          l (omega (arith, eqb-false r.letter 0 i, eqb-false r.letter 1 j, eqb-false r.letter 2 k, eqb-false r.letter 3 m))

  pub wired-row : Wired h.wiring → Wired (with_row h r).wiring
  unfolding with_atom with_context with_fusion_row with_edge_row with_head
  wired-row k =
      row_by (λ g. Wired g.wiring) (λ l. wired-links h.wiring (links_of r.nums) k) (λ l. wired-links h.wiring (links_of r.nums) k)
      (λ l. wired-fusion _ _ _ (wired-links h.wiring (get_or r.nums 0 0 ∷ get_or r.nums 1 0 ∷ []) k))
      (λ l. wired-mark _ _ _ (links-there h.wiring (get_or r.nums 0 0 ∷ []) 0 (omega arith)) (wired-links h.wiring (get_or r.nums 0 0 ∷ []) k))
      (λ l. wired-none)
