-- Nets that are equal row by row.
use Prim.Native.Nat.{ℕ, ◌+◌, ◌-◌, ◌<◌, ◌≤◌}
use mathlib.Core.Path.{◌≡◌, refl, ap, ap₂, sym, ◌∙◌, subst}
use mathlib.Core.List.{List, [], map}
use mathlib.Core.Bool.{true, false}
use mathlib.Core.Option.{Option, none, some}
use native.Mathlib.Omega.{arith}
use lib.ListN.{length, take, get_or}
use lib.Seq.{length-take-le, get_or-take, ext_get_or}
use Rattle.hyperlmntal.specs.Congruence.{◌≅◌, ≅-refl}
use Rattle.rows.specs.declared.Atom.{Atom}
use Rattle.rows.specs.declared.Sheet as form
use Rattle.placing.specs.Net.{Net, NormalSheet, net_term}
use Rattle.placing.specs.Placing.{Placing, cell_at}
use Rattle.placing.specs.Smallest.{smallest, same_list}
use Rattle.placing.proofs.Tests.{says-list, turned_down}
use Rattle.placing.proofs.Sheets.{sheets-placing}
use Rattle.placing.proofs.SmallestLaws.{smallest-none}
use Rattle.network.specs.NetIn.{net_in, atom_in, context_in, atom_at, paired}
use Rattle.network.specs.Ready.{Ready}
use Rattle.network.proofs.NetIn.{atoms-length, atom-index}

-- The first numbers of two lists are the same: as many, and the same number at each place.
module _ (a b : List ℕ) (m n : ℕ) (h : m ≤ length a) (l : n ≤ length b) where
  all-taken : m ≡ n → ((k : ℕ) → k < m → get_or a k 0 ≡ get_or b k 0) → take m a ≡ take n b
  all-taken e f = ext_get_or 0 (take m a) (take n b) (length-take-le m a h ∙ e ∙ sym (length-take-le n b l))
      (λ i q. let k : i < m = omega (arith, q, length-take-le m a h) in get_or-take m a i 0 k ∙ f i k ∙ sym (get_or-take n b i 0 (omega (arith, e, k))))

  pub all_same : m ≡ n → ((k : ℕ) → k < m → get_or a k 0 ≡ get_or b k 0) → true ≡ same_list (take m a) (take n b)
  all_same e f = sym ((says-list (take m a) (take n b)).complete (all-taken e f))

  pub counts-differ : (m ≡ n → ⊥) → false ≡ same_list (take m a) (take n b)
  counts-differ d = sym (turned_down (says-list (take m a) (take n b)) (λ e. d (sym (length-take-le m a h) ∙ ap length e ∙ length-take-le n b l)))

  pub number-differs : m ≡ n → (k : ℕ) → k < m → (get_or a k 0 ≡ get_or b k 0 → ⊥) → false ≡ same_list (take m a) (take n b)
  number-differs e k q d = sym (turned_down (says-list (take m a) (take n b)) (λ s. d (sym (get_or-take m a k 0 q) ∙ ap (λ (t : List ℕ). get_or t k 0) s ∙ get_or-take n b k 0 (omega (arith, e, q)))))

-- Two atoms with the same name and the same links, one by one, are read as one.
pub same_links : (a b : Atom) → a.count ≤ length a.links → b.count ≤ length b.links → a.name ≡ b.name → a.count ≡ b.count →
    ((k : ℕ) → k < a.count → get_or a.links k 0 ≡ get_or b.links k 0) → atom_in a ≡ atom_in b
same_links a b h l name count f = ap₂ (λ (n : ℕ) (l : List ℕ). (n, l)) name (all-taken a.links b.links a.count b.count h l count f)

no-contexts : (n : form.Sheet) → n.context_count ≡ 0 → (net_in n).contexts ≡ []
no-contexts n e = ap (λ (c : ℕ). map context_in (take c n.contexts)) e

-- a sheet can be placed in itself
placed-itself : (S F : Net) → S ≡ F → NormalSheet S → NormalSheet F → (p : Placing) × (smallest S F ≡ some p)
placed-itself S F e s f = go (smallest S F) refl
  where
    go : (o : Option Placing) → smallest S F ≡ o → (p : Placing) × (smallest S F ≡ some p)
    go none q = let g = (sheets-placing S F s f).1 (subst (λ (N : Net). net_term N ≅ net_term S) e ≅-refl) in absurd ((smallest-none S F).0 q g.0 g.1)
    go (some p) q = (p, q)

module _ (a b : form.Sheet) (ready : Ready a b) (c : a.context_count ≡ 0) (d : b.context_count ≡ 0) (n : a.atom_count ≡ b.atom_count) (l : a.class_count ≡ b.class_count)
    (marks : same_list (take a.mark_count a.marks) (take b.mark_count b.marks) ≡ true) (marked : same_list (take a.mark_count a.marked) (take b.mark_count b.marked) ≡ true)
    (atoms : (i : ℕ) → i < a.atom_count → atom_in (atom_at a i) ≡ atom_in (atom_at b i)) where
  same-atoms : (net_in a).atoms ≡ (net_in b).atoms
  same-atoms = ext_get_or (0, []) (net_in a).atoms (net_in b).atoms (atoms-length a ready.sheet-fit ∙ n ∙ sym (atoms-length b ready.figure-fit))
      (λ i q. let k : i < a.atom_count = let z = atoms-length a ready.sheet-fit in omega (arith, z, q) in
      sym (at a i) ∙ atom-index a ready.sheet-fit i k ∙ atoms i k ∙ sym (atom-index b ready.figure-fit i (omega (arith, n, k))) ∙ at b i)
    where
      at : (x : form.Sheet) (i : ℕ) → cell_at (net_in x).atoms (i + 1) ≡ get_or (net_in x).atoms i (0, [])
      at x i = ap (λ (k : ℕ). get_or (net_in x).atoms k (0, [])) (let q : i + 1 - 1 ≡ i = omega arith in q)

  same-marks : (net_in a).marks ≡ (net_in b).marks
  same-marks = ap₂ paired (same_taken a.marked b.marked marked) (same_taken a.marks b.marks marks)
    where
      same_taken : (x y : List ℕ) → same_list (take a.mark_count x) (take b.mark_count y) ≡ true → take a.mark_count x ≡ take b.mark_count y
      same_taken x y = (says-list (take a.mark_count x) (take b.mark_count y)).sound

  same-net : net_in a ≡ net_in b
  same-net = rw (same-atoms, no-contexts a c, no-contexts b d, same-marks, l) refl

  pub identical-placed : (p : Placing) × (smallest (net_in a) (net_in b) ≡ some p)
  identical-placed = placed-itself (net_in a) (net_in b) same-net (record { normal = ready.sheet-normal; no-contexts = no-contexts a c }) (record { normal = ready.figure-normal; no-contexts = no-contexts b d })
