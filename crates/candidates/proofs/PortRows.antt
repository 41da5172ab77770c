-- The row that the set of a context's links makes, and what a set says of the row it was made of.
use Prim.Native.Nat.{ℕ, zero, suc, ◌+◌, ◌-◌, ◌<◌, ◌≤◌, ◌/◌, ◌%◌}
use mathlib.Core.Path.{◌≡◌, refl, sym, ◌∙◌, ap, subst}
use mathlib.Core.Logic.{◌↔◌, ◌⊎◌, inl, inr}
use mathlib.Core.Bool.{Bool, true, false}
use mathlib.Core.List.Memᴰ
use mathlib.Core.List.{List, ◌∷◌}
use native.Mathlib.Decide.{ℕ_discrete}
use native.Mathlib.Omega.{arith}
use borrow.Author.Tests.{eqb-true, eqb-false}
use lib.Dec.{eqb}
use lib.ListN.{length, take, get_or, set, replicate}
use lib.Seq.{take-length, get_or-set_same, get_or-set_other}
use Rattle.hyperlmntal.specs.Link.{◌∈◌}
use Rattle.rows.specs.Pick.{pick}
use Rattle.rows.specs.Limits.{sheet_link_limit}
use Rattle.rows.specs.declared.Context.{Context}
use Rattle.rows.specs.declared.Sheet.{Sheet as NormalForm}
use Rattle.placing.specs.Net.{NetCell, Range}
use Rattle.network.specs.NetIn.{net_in, context_in, row_at, context_at, Numbered}
use Rattle.network.proofs.NetIn.{place_in, in_place, context-of, context-in, context-range}
use Rattle.network.proofs.SamePorts.{RowsIn}
use Rattle.candidates.specs.Words.{word_digits, pair_digits, digit, InPair, with_link}
use Rattle.candidates.specs.PortSets.{set_at, PortIn, Ports, LinksOf, SetOf, ContextsIn}
use Rattle.candidates.specs.Frames.{links_from, row_of}
use Rattle.candidates.specs.declared.ports.PortSet.{PortSet}
use Rattle.candidates.proofs.Halves.{empty-pair, with-kept, with-there, with-only}

-- a link of the set, with its number from 1
pub record Listed (pair : List ℕ) (s n y : ℕ) : Type 0 where
  pub link : ℕ
  pub from : s ≤ link
  pub below : link < s + n
  pub number : y ≡ suc link
  pub there : InPair pair link

module _ (pair : List ℕ) where
  pub from_in : (s n y : ℕ) → y ∈ links_from pair s n → Listed pair s n y
  unfolding links_from
  from_in s zero y m = absurd (Memᴰ.not-nil m)
  from_in s (suc n) y m = go (eqb (digit (get_or pair (s / word_digits) 0) (s % word_digits)) 1) refl (from_in (suc s) n y) m
    where
      later : Listed pair (suc s) n y → Listed pair s (suc n) y
      later t = record { link = t.link; from = omega (arith, t.from); below = omega (arith, t.below); number = t.number; there = t.there }

      go : (b : Bool) → eqb (digit (get_or pair (s / word_digits) 0) (s % word_digits)) 1 ≡ b → (y ∈ links_from pair (suc s) n → Listed pair (suc s) n y)
          → y ∈ pick b (suc s ∷ links_from pair (suc s) n) (links_from pair (suc s) n) → Listed pair s (suc n) y
      go true e f m = at (Memᴰ.cases_cons m)
        where
          at : (y ≡ suc s) ⊎ (y ∈ links_from pair (suc s) n) → Listed pair s (suc n) y
          at (inl q) = record { link = s; from = omega arith; below = omega arith; number = q; there = eqb-true _ _ e }
          at (inr k) = later (f k)
      go false e f m = later (f m)

  pub in-from : (s n x : ℕ) → s ≤ x → x < s + n → InPair pair x → suc x ∈ links_from pair s n
  unfolding links_from
  in-from s zero x h k i = absurd (omega arith)
  in-from s (suc n) x h k i = go (eqb (digit (get_or pair (s / word_digits) 0) (s % word_digits)) 1) refl (ℕ_discrete x s) (λ l. in-from (suc s) n x l (omega arith) i)
    where
      go : (b : Bool) → eqb (digit (get_or pair (s / word_digits) 0) (s % word_digits)) 1 ≡ b → Dec (x ≡ s) → (suc s ≤ x → suc x ∈ links_from pair (suc s) n)
          → suc x ∈ pick b (suc s ∷ links_from pair (suc s) n) (links_from pair (suc s) n)
      go true e (yes q) f = Memᴰ.head (ap suc q)
      go true e (no d) f = Memᴰ.tail (f (omega arith))
      go false e (yes q) f = absurd (eqb-false _ _ e (subst (InPair pair) q i))
      go false e (no d) f = f (omega arith)

-- the row has the number and the links of its set
pub row-set : (s : PortSet) → SetOf (row_of s) s
row-set s = record {
  number = refl;
  ports = λ x h. (
    (λ i. subst (λ (l : List ℕ). suc x ∈ l) (sym (take-length links)) (in-from s.links 0 pair_digits x (omega arith) (omega (arith, h)) i)),
    (λ m. let t = from_in s.links 0 pair_digits (suc x) (subst (λ (l : List ℕ). suc x ∈ l) (take-length links) m) in
        subst (InPair s.links) (let q : t.link ≡ x = omega (arith, t.number) in q) t.there),
  );
}
  where
    links : List ℕ
    links = links_from s.links 0 pair_digits

pub wider : {n m count : ℕ} {links : List ℕ} → Numbered n count links → n ≤ m → Numbered m count links
wider u h = record { there = u.there; numbered = λ k l. let r = u.numbered k l in (r.0, omega (arith, r.1)) }

-- The set of the first k links of a row, by their places.
abbrev pub Placed : List ℕ → ℕ → List ℕ → Type 0
Placed links k pair = (x : ℕ) → x < pair_digits → InPair pair x ↔ ((h : ℕ) × (h < k) × (get_or links h 0 ≡ suc x))

pub placed-none : (links : List ℕ) → Placed links 0 (replicate 2 0)
placed-none links x l = ((λ i. absurd (empty-pair x i)), λ t. absurd (let h : t.0 < 0 = t.1 in omega arith))

pub placed-next : (links : List ℕ) (k : ℕ) (pair r : List ℕ) → Placed links k pair → (n : Range sheet_link_limit (get_or links k 0)) → r ≡ with_link pair (get_or links k 0 - 1) → Placed links (k + 1) r
placed-next links k pair r f n e x l = (onward, back)
  where
    y : ℕ
    y = get_or links k 0 - 1

    small : y < sheet_link_limit
    small = omega (arith, n.0, n.1)

    onward : InPair r x → (h : ℕ) × (h < k + 1) × (get_or links h 0 ≡ suc x)
    onward i = go (with-only pair y small r e x l i)
      where
        go : InPair pair x ⊎ (x ≡ y) → (h : ℕ) × (h < k + 1) × (get_or links h 0 ≡ suc x)
        go (inl j) = let t = (f x l).0 j in (t.0, omega (arith, t.1), t.2)
        go (inr q) = (k, omega arith, omega (arith, q, n.0))

    back : (h : ℕ) × (h < k + 1) × (get_or links h 0 ≡ suc x) → InPair r x
    back t = go (ℕ_discrete t.0 k)
      where
        go : Dec (t.0 ≡ k) → InPair r x
        go (yes q) = subst (InPair r) (let w : get_or links t.0 0 ≡ get_or links k 0 = ap (λ (j : ℕ). get_or links j 0) q in let z : y ≡ x = omega (arith, w, t.2) in z) (with-there pair y small r e)
        go (no d) = with-kept pair y small r e x l ((f x l).1 (t.0, omega (arith, d, t.1), t.2))

pub placed-all : (links : List ℕ) (count : ℕ) (pair : List ℕ) → count ≤ length links → Placed links count pair → LinksOf links count pair
placed-all links count pair room f x l = (
  (λ i. let t = (f x l).0 i in subst (λ (y : ℕ). y ∈ take count links) t.2 (place_in count links room t.0 t.1)),
  (λ m. (f x l).1 (in_place count links room (suc x) m)),
)

-- the set of one row more is stored
pub sets-next : (contexts : List Context) (c : ℕ) (sets : List PortSet) → c < length sets → ((i : ℕ) → i < c → SetOf (row_at contexts i) (set_at sets i)) → (s : PortSet) → SetOf (row_at contexts c) s
    → (i : ℕ) → i < c + 1 → SetOf (row_at contexts i) (set_at (set sets c s) i)
sets-next contexts c sets room f s w i h = go (ℕ_discrete i c)
  where
    go : Dec (i ≡ c) → SetOf (row_at contexts i) (set_at (set sets c s) i)
    go (yes e) = subst (λ (j : ℕ). SetOf (row_at contexts j) (set_at (set sets c s) j)) (sym e) (subst (SetOf (row_at contexts c)) (sym (get_or-set_same sets c s _ room)) w)
    go (no d) = subst (SetOf (row_at contexts i)) (sym (get_or-set_other sets c i s _ d)) (f i (omega (arith, d, h)))

module _ {net : NormalForm} {sets : List PortSet} {rows links : ℕ} (c : ContextsIn net sets rows links) where
  row_in : (i : ℕ) → i < rows → i < net.context_count
  row_in i h = omega (arith, h, c.row_count)

  -- a link of the set is one of the row, and back
  pub port-in : (i x : ℕ) → i < rows → x < pair_digits → PortIn sets i x → suc x ∈ (context_in (context_at net i)).1
  port-in i x h k p = ((c.each i h).ports x k).0 p

  pub port-range : (i x : ℕ) → i < rows → x < pair_digits → PortIn sets i x → Range links (suc x)
  port-range i x h k p = subst (λ (n : ℕ). Range n (suc x)) c.link-count (context-range net c.fit i (row_in i h) (suc x) (port-in i x h k p))

  pub in-port : (i y : ℕ) → i < rows → y ∈ (context_in (context_at net i)).1 → (1 ≤ y) × (y ≤ links) × PortIn sets i (y - 1)
  in-port i y h m =
      let r = context-range net c.fit i (row_in i h) y m in
      let l : y ≤ links = omega (arith, r.1, c.link-count) in
      let e : y ≡ suc (y - 1) = omega (arith, r.0) in
      (r.0, l, ((c.each i h).ports (y - 1) (omega (arith, l, c.fit.class-count, c.link-count))).1 (subst (λ (z : ℕ). z ∈ (context_in (context_at net i)).1) e m))

  pub ports-of : Ports sets rows links
  ports-of = record {
    few = omega (arith, c.fit.context-count, c.row_count);
    links-few = omega (arith, c.fit.class-count, c.link-count);
    room = c.room;
    within = λ i h x k p. (port-range i x h k p).1;
  }

-- the rows of two nets with the same sets
pub same_rows : {a b : NormalForm} {sets : List PortSet} {rows links more : ℕ} → ContextsIn a sets rows links → ContextsIn b sets rows more → RowsIn (net_in a).contexts (net_in b).contexts
same_rows {a} {b} {sets} {rows} ca cb row m =
    let t = context-of a ca.fit row m in
    let i = t.0 in
    let h : i < rows = omega (arith, t.1, ca.row_count) in (
      context_in (context_at b i),
      context-in b cb.fit i (omega (arith, t.1, ca.row_count, cb.row_count)),
      sym (cb.each i h).number ∙ ((ca.each i h).number ∙ ap (λ (r : NetCell). r.0) t.2),
      λ y k.
          let w = in-port ca i y h (subst (λ (r : NetCell). y ∈ r.1) (sym t.2) k) in
          let e : suc (y - 1) ≡ y = omega (arith, w.0) in
          subst (λ (z : ℕ). z ∈ (context_in (context_at b i)).1) e (port-in cb i (y - 1) h (omega (arith, w.1, ca.fit.class-count, ca.link-count)) w.2),
    )
