-- How often a link stands in a list, in a list sent elsewhere, and in the rows of a net.
use Prim.Native.Nat.{ℕ, suc, ◌+◌, ◌≤◌, ◌<◌}
use mathlib.Core.Path.{◌≡◌, refl, ap}
use mathlib.Core.List.Memᴰ
use mathlib.Core.List.{List, [], ◌∷◌, ◌++◌, map}
use native.Mathlib.Decide.{ℕ_discrete}
use native.Mathlib.Omega.{arith}
use lib.ListN.{length, get_or}
use Rattle.hyperlmntal.specs.Link.{◌∈◌}
use Rattle.placing.specs.Net.{NetCell, cell_links}
use Rattle.starting.specs.Count.{one, count}
use Rattle.starting.proofs.Sums.{sum_over}

pub count-append : (x : ℕ) (l m : List ℕ) → count x (l ++ m) ≡ count x l + count x m
unfolding count
count-append x [] m = omega arith
count-append x (y ∷ l) m = omega (arith, count-append x l m)

pub count_none : (x : ℕ) (l : List ℕ) → ¬ (x ∈ l) → count x l ≡ 0
unfolding count
count_none x [] n = refl
count_none x (y ∷ l) n = go (ℕ_discrete x y) (count_none x l (λ m. n (Memᴰ.tail m)))
  where
    go : (d : Dec (x ≡ y)) → count x l ≡ 0 → one d + count x l ≡ 0
    go (yes e) h = absurd (n (Memᴰ.head e))
    go (no k) h = omega arith

-- A list sent elsewhere has what x goes to at least as often as it had x.
pub count-sent : (g : ℕ → ℕ) (x : ℕ) (l : List ℕ) → count x l ≤ count (g x) (map g l)
unfolding count
count-sent g x [] = omega arith
count-sent g x (y ∷ l) = go (ℕ_discrete x y) (ℕ_discrete (g x) (g y)) (count-sent g x l)
  where
    go : (d : Dec (x ≡ y)) (e : Dec (g x ≡ g y)) → count x l ≤ count (g x) (map g l) → one d + count x l ≤ one e + count (g x) (map g l)
    go (yes e) (yes f) h = omega arith
    go (yes e) (no f) h = absurd (f (ap g e))
    go (no e) (yes f) h = omega arith
    go (no e) (no f) h = omega arith

-- As often, where nothing else goes there.
pub count-alone : (g : ℕ → ℕ) (x : ℕ) (l : List ℕ) → ((z : ℕ) → z ∈ l → g x ≡ g z → x ≡ z) → count x l ≡ count (g x) (map g l)
unfolding count
count-alone g x [] a = refl
count-alone g x (y ∷ l) a = go (ℕ_discrete x y) (ℕ_discrete (g x) (g y)) (count-alone g x l (λ z m. a z (Memᴰ.tail m)))
  where
    go : (d : Dec (x ≡ y)) (e : Dec (g x ≡ g y)) → count x l ≡ count (g x) (map g l) → one d + count x l ≡ one e + count (g x) (map g l)
    go (yes e) (yes f) h = omega arith
    go (yes e) (no f) h = absurd (f (ap g e))
    go (no e) (yes f) h = absurd (e (a y (Memᴰ.head refl) f))
    go (no e) (no f) h = omega arith

-- Rows paired with numbers, row by row.
pub count-pairs-le : (x : ℕ) (f : ℕ → ℕ) (rows : List NetCell) (l : List ℕ) → length l ≡ length rows → ((i : ℕ) → i < length rows → count x (get_or rows i (0, [])).1 ≤ f (get_or l i 0)) → count x (cell_links rows) ≤ sum_over f l
unfolding count sum_over
count-pairs-le x f [] [] e h = omega arith
count-pairs-le x f [] (a ∷ l) e h = absurd (omega arith)
count-pairs-le x f (c ∷ rows) [] e h = absurd (omega arith)
count-pairs-le x f (c ∷ rows) (a ∷ l) e h = omega (arith, count-append x c.1 (cell_links rows), h 0 (omega arith), count-pairs-le x f rows l (omega arith) (λ i k. h (suc i) (omega arith)))

pub count-pairs-eq : (x : ℕ) (f : ℕ → ℕ) (rows : List NetCell) (l : List ℕ) → length l ≡ length rows → ((i : ℕ) → i < length rows → count x (get_or rows i (0, [])).1 ≡ f (get_or l i 0)) → count x (cell_links rows) ≡ sum_over f l
unfolding count sum_over
count-pairs-eq x f [] [] e h = refl
count-pairs-eq x f [] (a ∷ l) e h = absurd (omega arith)
count-pairs-eq x f (c ∷ rows) [] e h = absurd (omega arith)
count-pairs-eq x f (c ∷ rows) (a ∷ l) e h = omega (arith, count-append x c.1 (cell_links rows), h 0 (omega arith), count-pairs-eq x f rows l (omega arith) (λ i k. h (suc i) (omega arith)))
