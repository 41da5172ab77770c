-- What the steps of taking in links and marks make of the arrays of a text.
use Prim.Native.Nat.{ℕ, ◌+◌, ◌-◌, ◌<◌, ◌≤◌}
use mathlib.Core.Path.{◌≡◌, refl, ◌∙◌, sym}
use mathlib.Core.List.{List, [], ◌∷◌, ◌++◌}
use mathlib.Core.Bool.{Bool, true, false}
use native.Mathlib.Omega.{arith}
use lib.Dec.{eqb}
use borrow.Author.Tests.{eq-eqb, ne_eqb}
use lib.ListN.{length, get_or, take, set, length-append}
use Rattle.rows.specs.Pick.{pick}
use Rattle.rows.specs.Format.{head_letter}
use Rattle.rows.specs.Limits.{link_room, mark_room}
use Rattle.rows.specs.Held.{Wiring, index_of, with_link, with_links, relabelled, merged, with_fusion, with_mark, no_wiring}
use Rattle.linking.specs.Steps.{Distinct, count_with, Places, gone, cleared, Wired, Linked, Relinks, Marked, Tied}
use Rattle.rows.proofs.Padding.{take-padded, set-padded, get_d-padding, mapped-padded}
use Rattle.linking.proofs.Loops.{cleared-padded}
use Rattle.rows.proofs.Lists.{mapped}
use Rattle.linking.proofs.Wired.{link-known, link-new, link-found, link-there, link-place, mark-known, mark-new, wired-none, wired-link, wired-links}

pub gone-fits : (letter n : ℕ) → gone letter n ≤ n
gone-fits letter n = go (eqb letter head_letter)
  where
    go : (b : Bool) → pick b n 0 ≤ n
    go true = omega arith
    go false = omega arith

-- links one after the other
pub links-snoc : (w : Wiring) (l : List ℕ) (x : ℕ) → with_links w (l ++ (x ∷ [])) ≡ with_link (with_links w l) x
unfolding with_links
links-snoc w [] x = refl
links-snoc w (y ∷ l) x = links-snoc (with_link w y) l x

pub links-none : (links classes : List ℕ) (n : ℕ) → Relinks links classes n links classes n (λ w. with_links w [])
unfolding with_links
links-none links classes n w wired k = k

pub links-more : (links classes : List ℕ) (n : ℕ) (links' classes' : List ℕ) (n' : ℕ) (links'' classes'' : List ℕ) (n'' : ℕ) (l : List ℕ) (x : ℕ)
    → Relinks links classes n links' classes' n' (λ w. with_links w l) → Relinks links' classes' n' links'' classes'' n'' (λ w. with_link w x) → Relinks links classes n links'' classes'' n'' (λ w. with_links w (l ++ (x ∷ [])))
links-more links classes n links' classes' n' links'' classes'' n'' l x f g w wired k = rw (links-snoc w l x) (g (with_links w l) (wired-links w l wired) (f w wired k))

module _ (w : Wiring) (wired : Wired w) (links classes : List ℕ) (n : ℕ) (k : Linked w links classes n) where
  own : take n links ≡ w.links
  own = rw k.numbers (rw k.count (take-padded link_room 0 w.links))

  -- a link's place: where it is, or behind the others
  module _ (x p : ℕ) (place : Distinct (take n links) → p ≡ index_of x (take n links)) where
    at_place : p ≡ index_of x w.links
    at_place = rw own at (place (rw own wired.distinct))

    pub link-old : p < n → (p ≡ index_of x w.links) × Linked (with_link w x) links classes (count_with n p)
    link-old q = (at_place, rw (ne_eqb p n (λ e. omega arith)) (rw (link-known w x (omega (arith, at_place, k.count))) k))

    pub link-added : n ≤ p → p ≤ n → n < link_room → (n ≡ index_of x w.links) × Linked (with_link w x) (set links n x) (set classes n n) (count_with n n)
    link-added q h room =
        let fits : length w.links < link_room = rw k.count at room in
        let fits-too : length w.classes < link_room = rw (← wired.classed) at fits in (
          omega (arith, at_place),
          rw (eq-eqb n n refl) (rw (link-new w x (omega (arith, at_place, k.count)))
              record {
                numbers = rw k.numbers (set-padded link_room 0 w.links x n k.count fits);
                labels = rw k.labels (rw k.count (set-padded link_room 0 w.classes (length w.links) (length w.links) (sym wired.classed) fits-too));
                count = rw k.count (rw length-append);
              }),
        )

  -- two links that are there, made one point
  pub link-merged : (i j : ℕ) (out : List ℕ) → out ≡ mapped (relabelled (get_or classes j 0) (get_or classes i 0)) n classes → Linked (merged w i j) links out n
  unfolding merged
  link-merged i j out e =
      let at = get_d-padding link_room 0 w.classes in
      record {
        numbers = k.numbers;
        labels = rw e (rw k.labels (rw (at i) (rw (at j) (mapped-padded link_room 0 w.classes (relabelled (get_or w.classes j 0) (get_or w.classes i 0)) n (k.count ∙ sym wired.classed)))));
        count = k.count;
      }

  -- with a head they are gone
  pub cleared-links : (letter kept : ℕ) (links' classes' : List ℕ) → n ≤ link_room → kept ≡ n - gone letter n → links' ≡ cleared (gone letter n) links → classes' ≡ cleared (gone letter n) classes
      → Wired (pick (eqb letter head_letter) no_wiring w) × Linked (pick (eqb letter head_letter) no_wiring w) links' classes' kept
  cleared-links letter kept links' classes' room eo el ec = go (eqb letter head_letter) eo el ec
    where
      go : (b : Bool) → kept ≡ n - pick b n 0 → links' ≡ cleared (pick b n 0) links → classes' ≡ cleared (pick b n 0) classes → Wired (pick b no_wiring w) × Linked (pick b no_wiring w) links' classes' kept
      go true q p r = (
        wired-none,
        record {
          numbers = p ∙ rw k.numbers (cleared-padded link_room w.links n k.count (omega (arith, k.count)));
          labels = r ∙ rw k.labels (cleared-padded link_room w.classes n (k.count ∙ sym wired.classed) (omega (arith, k.count, wired.classed)));
          count = omega arith;
        },
      )
      go false q p r = (wired, record { numbers = p ∙ k.numbers; labels = r ∙ k.labels; count = omega (arith, k.count) })

  -- a mark on a link that is there: known, or put behind the others
  module _ (marks marked : List ℕ) (m : ℕ) (t : Marked w marks marked m) (a mark : ℕ) where
    own-marks : take m marks ≡ w.marks
    own-marks = rw t.numbers (rw t.count (take-padded mark_room 0 w.marks))

    pub mark-merged : (i p : ℕ) (out : List ℕ) → i ≡ index_of a (take n links) → p ≡ index_of mark (take m marks) → p < m
        → out ≡ mapped (relabelled (get_or classes i 0) (get_or classes (get_or marked p 0) 0)) n classes → Tied (with_mark w a mark) links out n marks marked m
    unfolding merged
    mark-merged i p out ei ep q e =
        let ip : i ≡ index_of a w.links = rw own at ei in
        let pp : p ≡ index_of mark w.marks = rw own-marks at ep in
        let place : get_or marked p 0 ≡ get_or w.marked (index_of mark w.marks) 0 = rw t.places (rw pp (get_d-padding mark_room 0 w.marked (index_of mark w.marks))) in
        rw (mark-known w a mark (omega (arith, pp, t.count)))
        (link-merged (get_or w.marked (index_of mark w.marks) 0) (index_of a w.links) out (rw (← place) (rw (← ip) e)), record { numbers = t.numbers; places = t.places; count = t.count })

    pub mark-added : (i : ℕ) → i ≡ index_of a (take n links) → m ≤ index_of mark (take m marks) → m < mark_room → Tied (with_mark w a mark) links classes n (set marks m mark) (set marked m i) (m + 1)
    mark-added i ei q room =
        let ip : i ≡ index_of a w.links = rw own at ei in
        let fits : length w.marks < mark_room = rw t.count at room in
        let fits-too : length w.marked < mark_room = rw (← wired.placed) at fits in
        rw (mark-new w a mark (rw (own-marks, t.count) at q)) (
          record { numbers = k.numbers; labels = k.labels; count = k.count },
          record {
            numbers = rw t.numbers (set-padded mark_room 0 w.marks mark m t.count fits);
            places = rw t.places (rw ip (set-padded mark_room 0 w.marked (index_of a w.links) m (t.count ∙ sym wired.placed) fits-too));
            count = rw t.count (rw length-append);
          },
        )

-- two links one after the other, made one point: the first keeps its place
pub links-fused : (links classes : List ℕ) (n : ℕ) (links₁ classes₁ : List ℕ) (m : ℕ) (links₂ classes₂ : List ℕ) (o : ℕ) (a b i j : ℕ) (out : List ℕ)
    → Places links classes n links₁ classes₁ a i → m ≡ count_with n i → Places links₁ classes₁ m links₂ classes₂ b j → o ≡ count_with m j
    → out ≡ mapped (relabelled (get_or classes₂ j 0) (get_or classes₂ i 0)) o classes₂ → Relinks links classes n links₂ out o (λ w. with_fusion (with_link (with_link w a) b) a b)
unfolding with_fusion
links-fused links classes n links₁ classes₁ m links₂ classes₂ o a b i j out f em g eo e w wired k =
    let u = with_link w a in
    let v = with_link u b in
    let wired-too = wired-link w a wired in
    let p = f w wired k in
    let q = g u wired-too (rw em p.1) in
    let ei : i ≡ index_of a v.links = p.0 ∙ sym (link-place u b a (link-there w a) ∙ link-found w a) in
    let ej : j ≡ index_of b v.links = q.0 ∙ sym (link-found u b) in
    rw (← ei) (rw (← ej) (link-merged v (wired-link u b wired-too) links₂ classes₂ o (rw eo q.1) i j out e))
