-- Tests for normal nets, sheets and patterns that compute.
use Prim.Native.Nat.{ℕ, ◌≤◌}
use mathlib.Core.Path.{◌≡◌, refl}
use mathlib.Core.Logic.{◌≢◌}
use mathlib.Core.List.{List, [], ◌∷◌}
use mathlib.Core.Bool.{Bool, true}
use lib.Dec.{eqb, leb}
use Rattle.hyperlmntal.specs.Link.{◌∈◌}
use Rattle.rows.specs.Pick.{not, and}
use Rattle.placing.specs.Net.{NetCell, Net, Range, standing, Normal, NormalSheet, Apart, NormalPattern}
use Rattle.placing.specs.Smallest.{numbers_to, all_of, implies, in_range, is_among}
use Rattle.placing.proofs.Tests.{Says, says-by, says-and, says-not, says-implies, says_eq, says-le, says_range, says_all, says-all-to, says-among}

-- two E rows with one mark are on one link
abbrev one_link_test : ℕ × ℕ → ℕ × ℕ → Bool
one_link_test e d = implies (eqb e.1 d.1) (eqb e.0 d.0)

abbrev pub normal_test : Net → Bool
normal_test N =
    and (all_of (in_range N.links) (standing N))
    (and (all_of (λ x. is_among x (standing N)) (numbers_to N.links)) (all_of (λ e. all_of (one_link_test e) N.marks) N.marks))

pub says-normal : (N : Net) → Says (normal_test N) (Normal N)
says-normal N = says-by
    (says-and
    (says_all (in_range N.links) (Range N.links) (says_range N.links) (standing N))
    (says-and
    (says-all-to (λ x. is_among x (standing N)) (λ x. x ∈ standing N) (λ x. says-among x (standing N)) N.links)
    (says_all (λ e. all_of (one_link_test e) N.marks) One (λ e. says_all (one_link_test e) (Same e) (λ d. says-implies (says_eq _ _) (says_eq _ _)) N.marks) N.marks)))
    (λ t. record { numbered = t.0; used = t.1.0; one_link = λ x y m i j. t.1.1 (x, m) i (y, m) j refl })
    (λ n. (n.numbered, (n.used, λ e i d j q. n.one_link e.0 d.0 d.1 (at e d i q) j)))
  where
    Same : ℕ × ℕ → ℕ × ℕ → Type 0
    Same e d = e.1 ≡ d.1 → e.0 ≡ d.0

    One : ℕ × ℕ → Type 0
    One e = (d : ℕ × ℕ) → d ∈ N.marks → Same e d

    at : (e d : ℕ × ℕ) → e ∈ N.marks → e.1 ≡ d.1 → (e.0, d.1) ∈ N.marks
    at e d i q = rw (← q) i

abbrev pub apart_test : List NetCell → Bool
apart_test [] = true
apart_test (c ∷ l) = and (all_of (λ (d : NetCell). not (eqb c.0 d.0)) l) (apart_test l)

says-apart : (l : List NetCell) → Says (apart_test l) (Apart l)
says-apart [] = record { sound = λ e. tt; complete = λ t. refl }
says-apart (c ∷ l) = says-and (says_all (λ (d : NetCell). not (eqb c.0 d.0)) (λ (d : NetCell). c.0 ≢ d.0) (λ d. says-not (says_eq _ _)) l) (says-apart l)

abbrev pub pattern_test : Net → Bool
pattern_test N = and (normal_test N) (and (all_of (λ (c : NetCell). leb 1 c.0) N.contexts) (apart_test N.contexts))

pub says-pattern : (N : Net) → Says (pattern_test N) (NormalPattern N)
says-pattern N = says-by
    (says-and (says-normal N) (says-and (says_all (λ (c : NetCell). leb 1 c.0) (λ (c : NetCell). 1 ≤ c.0) (λ c. says-le _ _) N.contexts) (says-apart N.contexts)))
    (λ t. record { normal = t.0; from_one = t.1.0; different = t.1.1 })
    (λ n. (n.normal, (n.from_one, n.different)))

pub sheet-by : (N : Net) → normal_test N ≡ true → N.contexts ≡ [] → NormalSheet N
sheet-by N e c = record { normal = (says-normal N).sound e; no-contexts = c }
