-- The links of a row, by its letter: how many, from which field on, and what they make of links and classes.
use Prim.Native.Nat.{ℕ, zero, suc, ◌+◌, ◌-◌, ◌<◌, ◌≤◌}
use mathlib.Core.Path.{◌≡◌, refl}
use mathlib.Core.List.{List, [], ◌∷◌}
use mathlib.Core.Bool.{Bool, true, false}
use native.Mathlib.Numerals.{add-one}
use native.Mathlib.Omega.{arith}
use lib.Dec.{eqb}
use lib.ListN.{length, get_or, take, drop, drop_of_length-le}
use lib.Seq.{drop-cons}
use borrow.Author.Tests.{ne_eqb}
use Rattle.rows.specs.Pick.{pick}
use Rattle.rows.specs.Format.{field_count, most_links, atom_letter, context_letter, fusion_letter, edge_letter, head_letter, no_letter, blank}
use Rattle.rows.specs.Limits.{filling_links}
use Rattle.rows.specs.Held.{Wiring, with_link, with_links, with_fusion, no_wiring}
use Rattle.linking.specs.Steps.{gone, cleared, Wired, Linked, Relinks, first_link_in, link_count_in, first_link, link_total, linked_by}
use Rattle.rows.specs.declared.row.Row.{Row}
use Rattle.rows.specs.declared.row.Rule.{Rule}
use Rattle.linking.proofs.Arrays.{cleared-links}

-- the first number of a row, and its first two
pub first_one : (l : List ℕ) → 0 < length l → take 1 l ≡ get_or l 0 0 ∷ []
first_one [] h = absurd (omega arith)
first_one (x ∷ l) h = refl

pub first_two : (l : List ℕ) → 1 < length l → take 2 l ≡ get_or l 0 0 ∷ get_or l 1 0 ∷ []
first_two [] h = absurd (omega arith)
first_two (x ∷ []) h = absurd (omega arith)
first_two (x ∷ y ∷ l) h = refl

-- no row has more than six links, and all of them stand in its fields
pub count_fits : (letter : ℕ) (nums : List ℕ) → letter < no_letter → (letter ≡ atom_letter → get_or nums 1 0 ≤ most_links) → (letter ≡ context_letter → get_or nums 1 0 ≤ most_links)
    → (link_total letter nums ≤ most_links) × (first_link letter + link_total letter nums ≤ field_count)
unfolding first_link_in link_count_in
count_fits zero nums h atom context = (atom refl, omega (arith, atom refl))
count_fits (suc zero) nums h atom context = (context refl, omega (arith, context refl))
count_fits (suc (suc zero)) nums h atom context = (omega arith, omega arith)
count_fits (suc (suc (suc zero))) nums h atom context = (omega arith, omega arith)
count_fits (suc (suc (suc (suc zero)))) nums h atom context = (omega arith, omega arith)
count_fits (suc (suc (suc (suc (suc k))))) nums h atom context = absurd (omega arith)

pub count-one : (letter : ℕ) (nums : List ℕ) → letter ≡ edge_letter → link_total letter nums ≡ 1
unfolding link_count_in
count-one letter nums e = rw e

-- the links of a fusion and of an edge begin with the first field
pub fusion-first : (letter : ℕ) → letter ≡ fusion_letter → first_link letter ≡ 0
unfolding first_link_in
fusion-first letter e = rw e

pub edge-first : (letter : ℕ) → letter ≡ edge_letter → first_link letter ≡ 0
unfolding first_link_in
edge-first letter e = rw e

-- one turn of the search for the first link, and of the count of links
module _ (l : List Rule) (f : ℕ) (h : f < length l) where
  pub first-hit : (get_or l f blank).link ≡ true → first_link_in (drop f l) ≡ 0
  unfolding first_link_in
  first-hit e = rw (drop-cons l f blank h) (rw e)

  pub first-miss : (get_or l f blank).link ≡ false → first_link_in (drop f l) ≡ suc (first_link_in (drop (f + 1) l))
  unfolding first_link_in
  first-miss e = rw (drop-cons l f blank h) (rw e (rw add-one))

  -- by whether it is a link's and counted
  pub links-next : (count : ℕ) (link counted : Bool) → (get_or l f blank).link ≡ link → (get_or l f blank).counted ≡ counted
      → link_count_in (drop f l) count ≡ pick link (pick counted count (suc (link_count_in (drop (f + 1) l) count))) (link_count_in (drop (f + 1) l) count)
  unfolding link_count_in
  links-next count link counted e c = rw (drop-cons l f blank h) (rw (e, c) (rw add-one))

pub first-end : (l : List Rule) (f : ℕ) → length l ≤ f → first_link_in (drop f l) ≡ 0
unfolding first_link_in
first-end l f h = rw (drop_of_length-le l h)

pub links_end : (l : List Rule) (f count : ℕ) → length l ≤ f → link_count_in (drop f l) count ≡ 0
unfolding link_count_in
links_end l f count h = rw (drop_of_length-le l h)

-- a row's links taken into arrays from which those of another filling are gone
module _ (r : Row) (links classes : List ℕ) (n kept : ℕ) (links₁ classes₁ links₂ classes₂ : List ℕ) (m : ℕ) (room : n ≤ filling_links)
    (ek : kept ≡ n - gone r.letter n) (el : links₁ ≡ cleared (gone r.letter n) links) (ec : classes₁ ≡ cleared (gone r.letter n) classes) where
  left : (w : Wiring) → Wired w → Linked w links classes n → let u = pick (eqb r.letter head_letter) no_wiring w in Wired u × Linked u links₁ classes₁ kept
  left w wired k = cleared-links w wired links classes n k r.letter kept links₁ classes₁ (omega arith) ek el ec

  pub row-linked : (from count : ℕ) → from ≡ first_link r.letter → count ≡ link_total r.letter r.nums
      → Relinks links₁ classes₁ kept links₂ classes₂ m (λ w. with_links w (take count (drop from r.nums))) → (r.letter ≡ fusion_letter → ⊥) → Relinks links classes n links₂ classes₂ m (linked_by r)
  row-linked from count ef en f h w wired k =
      let u = left w wired k in
      rw (ne_eqb r.letter fusion_letter h) (rw (ef, en) at (f (pick (eqb r.letter head_letter) no_wiring w) u.0 u.1))

  pub row-fused : 1 < length r.nums → r.letter ≡ fusion_letter → (from : ℕ) → from ≡ first_link r.letter
      → Relinks links₁ classes₁ kept links₂ classes₂ m (λ w. let a = get_or r.nums from 0 in let b = get_or r.nums (from + 1) 0 in with_fusion (with_link (with_link w a) b) a b)
      → Relinks links classes n links₂ classes₂ m (linked_by r)
  unfolding with_links first_link_in link_count_in
  row-fused wide e from ef f w wired k =
      let u = left w wired k in
      rw e (rw (first_two r.nums wide) (rw (ef, e) at (f (pick (eqb r.letter head_letter) no_wiring w) u.0 u.1)))
