-- Counting places into an array, link by link and atom by atom.
use Prim.Native.Nat.{ℕ, zero, suc, ◌+◌, ◌-◌, ◌≤◌, ◌<◌}
use mathlib.Core.Path.{◌≡◌, sym, ◌∙◌, ap}
use mathlib.Core.List.{List, [], ◌∷◌, map}
use native.Mathlib.Decide.{ℕ_discrete}
use native.Mathlib.Numerals.{add-one}
use native.Mathlib.Omega.{arith}
use lib.ListN.{length, get_or, set, take, replicate, length-set, length-replicate}
use lib.Seq.{get_or-set_same, get_or-set_other}
use Rattle.rows.specs.Limits.{sheet_link_limit}
use Rattle.rows.specs.declared.Atom.{Atom}
use Rattle.rows.proofs.Padding.{get_d-filled}
use Rattle.rows.specs.declared.Sheet.{Sheet as NormalForm}
use Rattle.placing.specs.Net.{Range, cell_links}
use Rattle.network.specs.NetIn.{atom_in}
use Rattle.candidates.specs.Laid.{laid_atom, LaidOut}
use Rattle.starting.specs.Count.{one, count}
use Rattle.starting.specs.Steps.{Tally}
use Rattle.starting.proofs.Counting.{count-append}

count_next : (x : ℕ) (l : List ℕ) (k : ℕ) → k < length l → count x (take (suc k) l) ≡ count x (take k l) + one (ℕ_discrete x (get_or l k 0))
unfolding count
count_next x [] k h = absurd (omega arith)
count_next x (y ∷ l) zero h = omega arith
count_next x (y ∷ l) (suc k) h = omega (arith, count_next x l k (omega arith))

-- the entry of a link raised by 1
abbrev pub raised : List ℕ → ℕ → List ℕ
raised l y = set l (y - 1) (get_or l (y - 1) 0 + 1)

raised_at : (l : List ℕ) (x y : ℕ) → 1 ≤ y → y - 1 < length l → get_or (raised l y) x 0 ≡ get_or l x 0 + one (ℕ_discrete (x + 1) y)
raised_at l x y a h = go (ℕ_discrete (x + 1) y)
  where
    go : (d : Dec (x + 1 ≡ y)) → get_or (raised l y) x 0 ≡ get_or l x 0 + one d
    go (yes e) =
        let q : x ≡ y - 1 = omega arith in
        ap (λ (z : ℕ). get_or (raised l y) z 0) q ∙ get_or-set_same l (y - 1) (get_or l (y - 1) 0 + 1) 0 h ∙ ap (λ (z : ℕ). get_or l z 0 + 1) (sym q)
    go (no d) = omega (arith, get_or-set_other l (y - 1) x (get_or l (y - 1) 0 + 1) 0 (let n : x ≡ y - 1 → ⊥ = λ q. d (omega arith) in n))

-- link k counted
pub counted_next : (sums counts links : List ℕ) (k : ℕ) → length sums ≡ sheet_link_limit → k < length links → Range sheet_link_limit (get_or links k 0)
    → ((x : ℕ) → x < sheet_link_limit → get_or sums x 0 ≡ get_or counts x 0 + count (x + 1) (take k links))
    → (x : ℕ) → x < sheet_link_limit → get_or (raised sums (get_or links k 0)) x 0 ≡ get_or counts x 0 + count (x + 1) (take (k + 1) links)
counted_next sums counts links k e h r f x b =
    omega (arith, raised_at sums x (get_or links k 0) r.0 (omega (arith, r.0, r.1)), f x b, count_next (x + 1) links k h, ap (λ (n : ℕ). count (x + 1) (take n links)) (add-one k))

raised-most : (l : List ℕ) (y n q : ℕ) → 1 ≤ y → y - 1 < length l → Tally l n → get_or (raised l y) q 0 ≤ n + 1
raised-most l y n q a h f = go (ℕ_discrete (q + 1) y) (raised_at l q y a h)
  where
    go : (d : Dec (q + 1 ≡ y)) → get_or (raised l y) q 0 ≡ get_or l q 0 + one d → get_or (raised l y) q 0 ≤ n + 1
    go (yes e) g = omega (arith, f.most q)
    go (no d) g = omega (arith, f.most q)

pub tally-next : (l : List ℕ) (y n k : ℕ) → Range sheet_link_limit y → Tally l (n + k) → Tally (raised l y) (n + (k + 1))
tally-next l y n k r f = record { width = simp length-set f.width; most = λ q. omega (arith, raised-most l y (n + k) q r.0 (omega (arith, r.0, r.1, f.width)) f) }

pub tally-none : Tally (replicate sheet_link_limit 0) 0
tally-none = record { width = length-replicate {A = ℕ} sheet_link_limit 0; most = λ q. omega (arith, get_d-filled {A = ℕ} 0 sheet_link_limit q) }

-- atom i counted
rows_next : (x : ℕ) (l : List Atom) (i : ℕ) (d : Atom) → i < length l → count x (cell_links (map atom_in (take (suc i) l))) ≡ count x (cell_links (map atom_in (take i l))) + count x (atom_in (get_or l i d)).1
unfolding count
rows_next x [] i d h = absurd (omega arith)
rows_next x (a ∷ l) zero d h = omega (arith, count-append x (atom_in a).1 [])
rows_next x (a ∷ l) (suc i) d h =
    omega (arith, count-append x (atom_in a).1 (cell_links (map atom_in (take (suc i) l))), count-append x (atom_in a).1 (cell_links (map atom_in (take i l))), rows_next x l i d (omega arith))

pub rows-counted : (net : NormalForm) (laid : List ℕ) (n : ℕ) → LaidOut net laid n → (counts sums : List ℕ) (i : ℕ) (a : Atom) → i < n → a ≡ laid_atom laid i
    → ((x : ℕ) → x < sheet_link_limit → get_or counts x 0 ≡ count (x + 1) (cell_links (map atom_in (take i net.atoms))))
    → ((x : ℕ) → x < sheet_link_limit → get_or sums x 0 ≡ get_or counts x 0 + count (x + 1) (atom_in a).1)
    → (x : ℕ) → x < sheet_link_limit → get_or sums x 0 ≡ count (x + 1) (cell_links (map atom_in (take (i + 1) net.atoms)))
rows-counted net laid n o counts sums i a h e f g x b =
    omega (arith, f x b, g x b, ap (λ (w : Atom). count (x + 1) (atom_in w).1) (e ∙ o.atoms i h), rows_next (x + 1) net.atoms i (record { name = 0; count = 0; links = [] }) (omega (arith, h, o.count, o.fit.atom-count, o.fit.atom-room)), ap (λ (k : ℕ). count (x + 1) (cell_links (map atom_in (take k net.atoms)))) (add-one i))
