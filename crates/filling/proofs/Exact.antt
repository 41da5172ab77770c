-- Refusals 8 and 9 over whole texts: where there is none, every blank has its filling, and every filling its ports as marks.
use Prim.Native.Nat.{ℕ, zero, suc, ◌+◌, ◌<◌, ◌≤◌}
use mathlib.Core.Path.{◌≡◌, refl, sym, subst}
use mathlib.Core.Bool.{Bool, true, false}
use mathlib.Core.Logic.{◌⊎◌, inl, inr}
use mathlib.Core.List.Memᴰ
use mathlib.Core.List.{List, [], ◌∷◌, map}
use native.Mathlib.Omega.{arith}
use native.Mathlib.Decide.{ℕ_discrete}
use borrow.Author.Tests.{eqb-true}
use lib.Dec.{eqb}
use Rattle.hyperlmntal.specs.Link.{free, ◌∈◌}
use Rattle.hyperlmntal.specs.Hypergraph.{nodes}
use Rattle.rows.specs.Pick.{pick}
use Rattle.rows.specs.Packed.{ports_of}
use Rattle.rows.specs.declared.Context.{Context}
use Rattle.reading.specs.Normal.{marks_of}
use Rattle.reading.proofs.normal.Marks.{marks-in, marks-of, Ascending, marks-ascending, ascending-same}
use Rattle.sheet.specs.HeldLimits.{Every}
use Rattle.placing.specs.Fillings.{edge_row, rows_graph, Filling, ExactMarks, AllExactMarks}
use Rattle.placing.specs.Smallest.{numbers_from, numbers_to}
use Rattle.placing.proofs.Names.{rows-name, name-rows}
use Rattle.placing.proofs.Tests.{says-list}
use Rattle.filling.specs.Read.{filling_read}
use Rattle.filling.specs.Fill.{first_lacking, first_differing, is_exact}

-- The numbers of a range.
pub numbers_of : (s n m : ℕ) → m ∈ numbers_from s n → (s ≤ m) × (m < s + n)
numbers_of s zero m i = absurd (Memᴰ.not-nil i)
numbers_of s (suc n) m i = at (Memᴰ.cases_cons i) (numbers_of (suc s) n m)
  where
    at : (m ≡ s) ⊎ (m ∈ numbers_from (suc s) n) → (m ∈ numbers_from (suc s) n → (suc s ≤ m) × (m < suc s + n)) → (s ≤ m) × (m < s + suc n)
    at (inl e) f = (omega arith, omega arith)
    at (inr j) f = let t = f j in let a : suc s ≤ m = t.0 in let b : m < suc s + n = t.1 in (omega arith, omega arith)

pub numbers-in : (s n m : ℕ) → s ≤ m → m < s + n → m ∈ numbers_from s n
numbers-in s zero m p q = absurd (omega arith)
numbers-in s (suc n) m p q = at (ℕ_discrete m s) (λ h. numbers-in (suc s) n m h (omega arith))
  where
    at : Dec (m ≡ s) → (suc s ≤ m → m ∈ numbers_from (suc s) n) → m ∈ (s ∷ numbers_from (suc s) n)
    at (yes e) f = Memᴰ.head e
    at (no k) f = Memᴰ.tail (f (omega arith))

-- The test of a filling's marks says that they are exactly its ports.
pub exact-marks : (f : Filling) → is_exact f ≡ true → ExactMarks f.ports f.rows
exact-marks f t =
    let e : marks_of (rows_graph f.rows) ≡ numbers_to f.ports = (says-list (marks_of (rows_graph f.rows)) (numbers_to f.ports)).sound t in
    record {
      within = λ x m i. let b = numbers_of 1 f.ports m (subst (λ l. m ∈ l) e (marks-in (nodes (rows_graph f.rows)) m (name-rows f.rows x m i))) in let c : m < 1 + f.ports = b.1 in (b.0, omega arith);
      every = λ m r. let b : m ≤ f.ports = r.1 in
          let n = rows-name f.rows (free m) (marks-of (nodes (rows_graph f.rows)) m (subst (λ l. m ∈ l) (sym e) (numbers-in 1 f.ports m r.0 (omega arith)))) in
          let p : free m ≡ free n.1 = n.3 in
          let q : m ≡ n.1 = cc in
          (n.0, subst (λ k. edge_row n.0 k ∈ f.rows) (sym q) n.2);
    }

numbers-ascend : (s n : ℕ) → Ascending (numbers_from s n)
numbers-ascend s zero = tt
numbers-ascend s (suc n) = (λ k i. let t = numbers_of (suc s) n k i in let a : suc s ≤ k = t.0 in omega arith, numbers-ascend (suc s) n)

pub marks-exact : (f : Filling) → ExactMarks f.ports f.rows → is_exact f ≡ true
marks-exact f x =
    let G = rows_graph f.rows in
    (says-list (marks_of G) (numbers_to f.ports)).complete
    (ascending-same (marks_of G) (numbers_to f.ports) (marks-ascending (nodes G)) (numbers-ascend 1 f.ports)
    (λ m. (
      λ i. let n = rows-name f.rows (free m) (marks-of (nodes G) m i) in
          let p : free m ≡ free n.1 = n.3 in
          let q : m ≡ n.1 = cc in
          let r = x.within n.0 n.1 n.2 in
          let a : 1 ≤ n.1 = r.0 in
          let b : n.1 ≤ f.ports = r.1 in
          numbers-in 1 f.ports m (omega arith) (omega arith),
      λ i. let r = numbers_of 1 f.ports m i in
          let b : m < 1 + f.ports = r.1 in
          let t = x.every m (r.0, omega arith) in
          marks-in (nodes G) m (name-rows f.rows t.0 m t.1),
    )))

-- A row that is refused is counted from 1, so 0 is none.
abbrev pub Rowed : List Context → Type 0
Rowed l = Every (λ (c : Context). 1 ≤ c.row) l

kept : (b : Bool) (n row : ℕ) → 1 ≤ row → pick b n row ≡ 0 → (b ≡ true) × (n ≡ 0)
kept true n row h e = (refl, e)
kept false n row h e = absurd (omega arith)

pub exact-each : (list : List ℕ) (l : List Context) → Rowed l → first_differing list l ≡ 0 → Every (λ (c : Context). is_exact (filling_read list c) ≡ true) l
unfolding first_differing
exact-each list [] r e = tt
exact-each list (c ∷ l) r e = let k = kept (is_exact (filling_read list c)) (first_differing list l) c.row r.0 e in (k.0, exact-each list l r.1 k.1)

pub all-exact : (list : List ℕ) (l : List Context) → Rowed l → first_differing list l ≡ 0 → AllExactMarks (map (filling_read list) l)
unfolding first_differing
all-exact list [] r e f i = absurd (Memᴰ.not-nil i)
all-exact list (c ∷ l) r e f i = let k = kept (is_exact (filling_read list c)) (first_differing list l) c.row r.0 e in at k.0 (Memᴰ.cases_cons i) (all-exact list l r.1 k.1 f)
  where
    at : is_exact (filling_read list c) ≡ true → (f ≡ filling_read list c) ⊎ (f ∈ map (filling_read list) l) → (f ∈ map (filling_read list) l → ExactMarks f.ports f.rows) → ExactMarks f.ports f.rows
    at t (inl p) g = subst (λ h. ExactMarks h.ports h.rows) (sym p) (exact-marks (filling_read list c) t)
    at t (inr j) g = g j

pub none-lacking : (heads l : List Context) → Rowed l → first_lacking heads l ≡ 0 → Every (λ (c : Context). ports_of heads c.number ≡ suc c.count) l
unfolding first_lacking
none-lacking heads [] r e = tt
none-lacking heads (c ∷ l) r e =
    let k = kept (eqb (ports_of heads c.number) (suc c.count)) (first_lacking heads l) c.row r.0 e in
    (eqb-true (ports_of heads c.number) (suc c.count) k.0, none-lacking heads l r.1 k.1)
