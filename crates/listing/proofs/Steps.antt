-- One turn of each loop.
use Prim.Native.Nat.{ℕ, ◌+◌, ◌*◌, ◌<◌, ◌≤◌}
use mathlib.Core.Path.{◌≡◌, ap, sym, ◌∙◌}
use mathlib.Core.List.{List, [], ◌∷◌, ◌++◌, map, map-append, append_assoc}
use native.Mathlib.Numerals.{add-one}
use native.Mathlib.Omega.{arith}
use borrow.Author.Tests.{lt-ltb, le-ltb}
use lib.Dec.{ltb}
use lib.ListN.{length, get_or, take, set, length-map, length-append, length-take}
use lib.Seq.{take-suc, length-take-le}
use Rattle.rows.specs.Pick.{pick}
use Rattle.rows.specs.Format.{row_width, most_number}
use Rattle.rows.specs.Packed.{padded}
use Rattle.rows.proofs.Padding.{set-padded}
use Rattle.writing.proofs.RowBytes.{over, over-more}
use Rattle.numbering.specs.Numbering.{Numbering, with_class, with_classes, most_classes}
use Rattle.numbering.proofs.Turns.{with-class-count, with-classes-count, with-classes-append, with-classes-snoc}
use Rattle.numbering.proofs.Kept.{number-kept, Low, low-class, low-after}
use Rattle.rows.specs.declared.Sheet as form
use Rattle.placing.specs.Net.{NetCell, cell_links}
use Rattle.listing.specs.Writing.{number_in, given_at, given_below, symbols_bytes, port_bytes, ports_bytes, filling_bytes, list_bytes, below}
use Rattle.listing.proofs.Atoms.{cell-links-append}
use Rattle.listing.proofs.Texts.{symbols-append, symbols-length, ports-snoc, ports-length, list-snoc}
use Rattle.listing.proofs.Ranks.{below-snoc}

take_next : {A : Type 0} (l : List A) (k : ℕ) (d : A) → k < length l → take (k + 1) l ≡ take k l ++ (get_or l k d ∷ [])
take_next l k d h = rw (add-one k) (take-suc l k d h)

-- One link numbered more.
pub links-next : (from n : Numbering) (l : List ℕ) (k : ℕ) → k < length l → n ≡ with_classes from (take k l) → with_class n (get_or l k 0) ≡ with_classes from (take (k + 1) l)
links-next from n l k h e = ap (λ m. with_class m (get_or l k 0)) e ∙ sym (with-classes-snoc from (take k l) (get_or l k 0)) ∙ ap (with_classes from) (sym (take_next l k 0 h))

-- How many are numbered then.
pub links-few : (from n : Numbering) (l : List ℕ) (k : ℕ) → n ≡ with_classes from (take k l) → n.count ≤ from.count + k
links-few from n l k e = omega (arith, ap (λ m. m.count) e, with-classes-count from (take k l), length-take k l)

-- No number then has more than four digits.
pub links-low : (from n : Numbering) (l : List ℕ) (k : ℕ) → Low from → n ≡ with_classes from (take k l) → from.count + k ≤ most_classes → (x : ℕ) → number_in (with_classes n []).numbers x ≤ most_number
unfolding with_classes
links-low from n l k low e h x = omega (arith, low-after from n (take k l) e low x, links-few from n l k e)

-- A link's number, which nothing that is numbered later changes.
module _ (n m : Numbering) (x : ℕ) (e : m ≡ with_class n x) (later : List ℕ) where
  pub number_put : (v : ℕ) → v ≡ get_or m.numbers x 0 → v ≡ number_in (with_classes m later).numbers x
  number_put v q = q ∙ rw e (sym (number-kept n x later))

  pub number-few : (from : Numbering) (l : List ℕ) (v : ℕ) → Low from → n ≡ with_classes from l → v ≡ get_or m.numbers x 0 → v ≤ from.count + length l + 1
  number-few from l v low q w =
      let a : get_or m.numbers x 0 ≤ m.count = rw e (low-class n x (low-after from n l q low) x) in
      omega (arith, ap (λ k. k.count) e, ap (λ k. k.count) q, with-class-count n x, with-classes-count from l)

  pub number-later : with_classes n (x ∷ later) ≡ with_classes m later
  unfolding with_classes
  number-later = rw e

-- One sheet atom more.
module _ (sheet : form.Sheet) (given : List ℕ) (k i : ℕ) where
  pub below_next : given_below sheet given k (i + 1) ≡ given_below sheet given k i ++ given_at sheet given k i
  unfolding given_below
  below_next = rw (add-one i)

  pub atoms-next : (from n : Numbering) → n ≡ with_classes from (cell_links (given_below sheet given k i))
      → with_classes n (cell_links (given_at sheet given k i)) ≡ with_classes from (cell_links (given_below sheet given k (i + 1)))
  atoms-next from n e =
      ap (λ m. with_classes m (cell_links (given_at sheet given k i))) e
      ∙ sym (with-classes-append from (cell_links (given_below sheet given k i)) (cell_links (given_at sheet given k i)))
      ∙ ap (with_classes from) (sym (cell-links-append (given_below sheet given k i) (given_at sheet given k i)) ∙ ap cell_links (sym below_next))

  pub below_length : length (given_below sheet given k (i + 1)) ≡ length (given_below sheet given k i) + length (given_at sheet given k i)
  below_length = ap length below_next ∙ length-append (given_below sheet given k i) (given_at sheet given k i)

  -- its row is written: `new` is what stands there then
  pub symbols-put : (f : ℕ → ℕ) (l new : List ℕ) (at : ℕ) → at + length (given_below sheet given k i) * row_width ≤ length l
      → new ≡ over (over l at (symbols_bytes f (given_below sheet given k i)) (length (given_below sheet given k i) * row_width)) (at + length (given_below sheet given k i) * row_width)
      (symbols_bytes f (given_at sheet given k i)) (length (given_at sheet given k i) * row_width)
      → new ≡ over l at (symbols_bytes f (given_below sheet given k (i + 1))) (length (given_below sheet given k (i + 1)) * row_width)
  symbols-put f l new at room e =
      let a = given_below sheet given k i in
      let b = given_at sheet given k i in
      let z : length (given_below sheet given k (i + 1)) * row_width ≡ length a * row_width + length b * row_width = omega (arith, below_length) in
      let m : symbols_bytes f (given_below sheet given k (i + 1)) ≡ symbols_bytes f a ++ symbols_bytes f b = ap (symbols_bytes f) below_next ∙ symbols-append f a b in
      e ∙ over-more l at (symbols_bytes f a) (length a * row_width) (symbols-length f a) room (symbols_bytes f b) (length b * row_width) ∙ rw (z, m)

-- One port more.
pub ports-put : (f : ℕ → ℕ) (l new : List ℕ) (at : ℕ) (ports : List ℕ) (k : ℕ) → k < length ports → at + (k + 1) * row_width ≤ length l
    → new ≡ over (over l at (ports_bytes f 1 (take k ports)) (k * row_width)) (at + k * row_width) (port_bytes f (k + 1) (get_or ports k 0)) row_width
    → new ≡ over l at (ports_bytes f 1 (take (k + 1) ports)) ((k + 1) * row_width)
ports-put f l new at ports k h room e =
    let w : length (take k ports) ≡ k = length-take-le k ports (omega arith) in
    let z : (k + 1) * row_width ≡ k * row_width + row_width = omega arith in
    let n : length (ports_bytes f 1 (take k ports)) ≡ k * row_width = ports-length f 1 (take k ports) ∙ rw w in
    let q : 1 + length (take k ports) ≡ k + 1 = omega arith in
    let m : ports_bytes f 1 (take (k + 1) ports) ≡ ports_bytes f 1 (take k ports) ++ port_bytes f (k + 1) (get_or ports k 0)
    = ap (ports_bytes f 1) (take_next ports k 0 h) ∙ ports-snoc f 1 (take k ports) (get_or ports k 0) ∙ rw q in
    e ∙ over-more l at (ports_bytes f 1 (take k ports)) (k * row_width) n (omega arith) (port_bytes f (k + 1) (get_or ports k 0)) row_width ∙ rw (z, m)

-- One number more in a row, after some others.
pub numbers-next : (n : ℕ) (f : ℕ → ℕ) (pre l r : List ℕ) (k at : ℕ) → at ≡ length pre + k → r ≡ padded n 0 (pre ++ map f (take k l)) → k < length l → at < n
    → set r at (f (get_or l k 0)) ≡ padded n 0 (pre ++ map f (take (k + 1) l))
numbers-next n f pre l r k at p e h room =
    let w : length (map f (take k l)) ≡ k = length-map (take k l) f ∙ length-take-le k l (omega arith) in
    let m : pre ++ map f (take (k + 1) l) ≡ (pre ++ map f (take k l)) ++ (f (get_or l k 0) ∷ [])
    = ap (λ t. pre ++ t) (ap (map f) (take_next l k 0 h) ∙ map-append f (take k l) (get_or l k 0 ∷ [])) ∙ sym (append_assoc pre (map f (take k l)) (f (get_or l k 0) ∷ [])) in
    rw (e, m) (set-padded n 0 (pre ++ map f (take k l)) (f (get_or l k 0)) at (omega (arith, p, w, length-append pre (map f (take k l)))) (omega (arith, p, w, room, length-append pre (map f (take k l)))))

-- One context more.
module _ (number : ℕ) (l : List NetCell) (j rank : ℕ) (h : j < length l) (e : rank ≡ below number (take j l)) where
  snoc : below number (take (j + 1) l) ≡ below number (take j l) + pick (ltb (get_or l j (0, [])).0 number) 1 0
  snoc = ap (below number) (take_next l j (0, []) h) ∙ below-snoc number (take j l) (get_or l j (0, []))

  pub rank-more : (get_or l j (0, [])).0 < number → rank + 1 ≡ below number (take (j + 1) l)
  rank-more p = let q = rw (lt-ltb _ _ p) at snoc in omega arith

  pub rank_same : number ≤ (get_or l j (0, [])).0 → rank ≡ below number (take (j + 1) l)
  rank_same p = let q = rw (le-ltb _ _ p) at snoc in omega arith

-- One filling more.
module _ (sheet : form.Sheet) (links given : List ℕ) (l : List NetCell) (i : ℕ) (h : i < length l) where
  pub list-next : list_bytes sheet links given (take (i + 1) l) ≡ list_bytes sheet links given (take i l) ++ filling_bytes sheet links given (get_or l i (0, []))
  list-next = ap (list_bytes sheet links given) (take_next l i (0, []) h) ∙ list-snoc sheet links given (take i l) (get_or l i (0, []))
