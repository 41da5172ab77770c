-- What placings with the same atoms share, and links carried from one placing to another.
use Prim.Native.Nat.{ℕ}
use mathlib.Core.Path.{◌≡◌, sym, ◌∙◌, ap, subst}
use mathlib.Core.List.Memᴰ
use mathlib.Core.List.{List}
use lib.ListN.{length}
use Rattle.hyperlmntal.specs.Link.{◌∈◌}
use Rattle.placing.specs.Net.{NetCell, Net, Range, Normal}
use Rattle.placing.specs.Placing.{Placing, number_at, cell_at, atom_target, link_target, Taken, At, Linked, here, step, Across, SameMarks}
use Rattle.placing.proofs.Standing.{mark-link, place-link}
use Rattle.completing.specs.Fault.{Used}

module _ (S F : Net) where
  pub linked-map : (p q : Placing) (y z : ℕ) (f : ℕ → ℕ) → ((row : NetCell) → row ∈ F.contexts → (x : ℕ) → x ∈ row.1 → f x ∈ row.1)
      → ((x : ℕ) → At S F p x y → At S F q (f x) z) → {x x' : ℕ} → Linked S F p y x x' → Linked S F q z (f x) (f x')
  linked-map p q y z f keep at here = here
  linked-map p q y z f keep at (step {x = x} {x' = x'} s l) = step
      (record {
        row = s.row;
        of-figure = s.of-figure;
        first = keep s.row s.of-figure x s.first;
        second = keep s.row s.of-figure x' s.second;
        first-at = at x s.first-at;
        second_at = at x' s.second_at;
      })
      (linked-map p q y z f keep at l)

  pub taken-same : (p q : Placing) → p.atoms_to ≡ q.atoms_to → (j : ℕ) → Taken S F p j → Taken S F q j
  taken-same p q e j t = record { by = t.by; of-figure = t.of-figure; there = ap (λ (l : List ℕ). number_at l t.by) (sym e) ∙ t.there }

  module _ (normal : Normal F) (q : Placing) (across : (i : ℕ) → Range (length F.atoms) i → Across S F q i) where
    -- figure links go to the links of a sheet atom that is taken
    pub taken-used : (j y : ℕ) → Taken S F q j → y ∈ (cell_at S.atoms j).1 → Used S F q y
    taken-used j y t m = (w.0, place-link F normal t.by w.0 t.of-figure w.1, w.2)
      where
        places : y ∈ (cell_at S.atoms (atom_target q t.by)).1
        places = subst (λ (z : ℕ). y ∈ (cell_at S.atoms z).1) (sym t.there) m

        w : (x : ℕ) × (x ∈ (cell_at F.atoms t.by).1) × (link_target q x ≡ y)
        w = Memᴰ.of_map (link_target q) (cell_at F.atoms t.by).1 (subst (λ (l : List ℕ). y ∈ l) (sym (across t.by t.of-figure).places) places)

    -- so an atom on a link to which no figure link goes is not taken
    pub unused-other : (y : ℕ) → ¬ Used S F q y → (j : ℕ) → y ∈ (cell_at S.atoms j).1 → ¬ Taken S F q j
    unused-other y u j m t = u (taken-used j y t m)

  -- a link to which no figure link goes has no mark
  pub unused-unmarked : Normal S → Normal F → (q : Placing) → SameMarks S F q → (y : ℕ) → ¬ Used S F q y → (m : ℕ) → ¬ ((y, m) ∈ S.marks)
  unused-unmarked NS NF q marks y u m h = let b = marks.backward y m h in
      u (b.0, mark-link F NF b.0 m b.1, NS.one_link (link_target q b.0) y m (marks.onward b.0 m b.1) h)
