-- Sheet atoms that are given to a context, one after the other.
use Prim.Native.Nat.{ℕ, ◌+◌, ◌<◌, ◌≤◌}
use mathlib.Core.Path.{◌≡◌, refl, ap, sym, ◌∙◌, subst}
use mathlib.Core.Logic.{◌≢◌}
use mathlib.Core.List.{List, [], ◌∷◌, ◌++◌, map, map-append, append-nil}
use mathlib.Core.Bool.{true}
use native.Mathlib.Omega.{arith}
use borrow.Author.Tests.{eq-eqb, ne_eqb}
use lib.ListN.{length, get_or, take}
use lib.Seq.{length-take-le}
use Rattle.rows.specs.Format.{most_links}
use Rattle.rows.specs.Limits.{sheet_link_limit, atom_room}
use Rattle.rows.specs.Packed.{padded}
use Rattle.rows.proofs.Padding.{get_d-padding}
use Rattle.rows.specs.declared.Atom.{Atom}
use Rattle.rows.specs.declared.Sheet as form
use Rattle.reading.specs.Normal.{distinct}
use Rattle.reading.proofs.normal.ClassNumbers.{classes-count}
use Rattle.reading.proofs.normal.Distinct.{distinct_of, distinct-once, once-length}
use Rattle.numbering.specs.Numbering.{Numbering, no_numbers, with_classes}
use Rattle.numbering.proofs.Kept.{low-after, low-none, later-all}
use Rattle.placing.specs.Net.{cell_links}
use Rattle.placing.specs.Smallest.{numbers_to}
use Rattle.placing.proofs.Joined.{numbers-length}
use Rattle.placing.proofs.Tests.{of_range}
use Rattle.network.specs.NetIn.{atom_in, atom_at, Fit}
use Rattle.listing.specs.Writing.{number_in, cell_if, given_at, given_below}
use Rattle.listing.proofs.Atoms.{given-links, below-range, below-low, mapped-low}
use Rattle.listing.proofs.Steps.{below_next, atoms-next}
use Rattle.filling.specs.Parts.{part_room}
use Rattle.filling.specs.Glued.{place_of}
use Rattle.filling.specs.Whole.{Grown}
use Rattle.filling.specs.declared.whole.Whole.{Whole}
use Rattle.filling.proofs.Loops.{grown-then}
use Rattle.swapping.specs.Given.{placed_cell}

module _ (sheet : form.Sheet) (given : List ℕ) (k p : ℕ) where
  -- The atoms before place i that are given are behind the own ones, and their links are numbered.
  pub record GivenTo (own w : Whole) (n : Numbering) (i : ℕ) : Type 0 where
    pub size : length w.atoms ≡ atom_room
    pub table : n ≡ with_classes no_numbers (cell_links (given_below sheet given k i))
    pub grown : (later : List ℕ) → Grown own w (map (placed_cell p (number_in (with_classes n later).numbers)) (given_below sheet given k i))

  -- There are no more numbers than the sheet has links.
  pub few-numbers : Fit sheet → (i : ℕ) → i ≤ sheet.atom_count → (with_classes no_numbers (cell_links (given_below sheet given k i))).count ≤ sheet_link_limit
  few-numbers fit i h =
      let l = cell_links (given_below sheet given k i) in
      let few = once-length (distinct l) (numbers_to sheet.class_count) (distinct-once l) (λ x m. of_range sheet.class_count x (below-range sheet fit given k i h x (distinct_of x l m))) in
      omega (arith, classes-count l (below-low sheet fit given k i h), few, numbers-length 1 sheet.class_count, fit.class-count)

  module _ (own w : Whole) (n : Numbering) (i : ℕ) (g : GivenTo own w n i) where
    -- An atom that is given to another.
    pub other-turn : get_or given i 0 ≢ k → GivenTo own w n (i + 1)
    other-turn e =
        let q : given_below sheet given k i ≡ given_below sheet given k (i + 1)
        = sym (append-nil (given_below sheet given k i)) ∙ ap (λ t. given_below sheet given k i ++ cell_if t (atom_at sheet i)) (sym (ne_eqb (get_or given i 0) k e)) ∙ sym (below_next sheet given k i) in
        record {
          size = g.size;
          table = g.table ∙ ap (λ l. with_classes no_numbers (cell_links l)) q;
          grown = λ later. subst (λ l. Grown own w (map (placed_cell p (number_in (with_classes n later).numbers)) l)) q (g.grown later);
        }

    -- One that is given: r has it behind the atoms of w, where there is room.
    module _ (fit : Fit sheet) (h : i < sheet.atom_count) (e : get_or given i 0 ≡ k) where
      abbrev a : Atom
      a = atom_at sheet i

      abbrev links : List ℕ
      links = take a.count a.links

      one : given_at sheet given k i ≡ atom_in a ∷ []
      one = ap (λ b. cell_if b a) (eq-eqb (get_or given i 0) k e)

      module _ (m : Numbering) (numbers : List ℕ) (c : m ≡ with_classes n links) (v : (later : List ℕ) → numbers ≡ padded most_links 0 (map (number_in (with_classes m later).numbers) links)) where
        table_more : m ≡ with_classes no_numbers (cell_links (given_below sheet given k (i + 1)))
        table_more = c ∙ ap (with_classes n) (sym (given-links true a refl) ∙ ap cell_links (sym one)) ∙ atoms-next sheet given k i no_numbers n g.table

        pub turn_low : (j : ℕ) → get_or numbers j 0 < part_room
        unfolding with_classes
        turn_low j =
            let f = number_in (with_classes m []).numbers in
            let low = mapped-low sheet_link_limit f links (λ x. omega (arith, low-after no_numbers m (cell_links (given_below sheet given k (i + 1))) table_more low-none x, ap (λ t. t.count) table_more, few-numbers fit (i + 1) (omega arith))) j in
            rw (v [], get_d-padding most_links 0 (map f links) j) (omega (arith, low))

        pub given-turn : (places : List ℕ) (r : Whole) → places ≡ map (place_of p) numbers
            → length r.atoms ≡ atom_room → Grown w r (record { name = a.name; count = a.count; links = places } ∷ []) → GivenTo own r m (i + 1)
        given-turn places r q z more =
            record {
              size = z;
              table = table_more;
              grown = λ later.
                  let f = placed_cell p (number_in (with_classes m later).numbers) in
                  let done = given_below sheet given k i in
                  let s : map f (given_below sheet given k (i + 1)) ≡ map f done ++ (f (atom_in a) ∷ []) = ap (map f) (below_next sheet given k i ∙ ap (λ l. done ++ l) one) ∙ map-append f done (atom_in a ∷ []) in
                  let old : Grown own w (map f done) = subst (λ (t : Numbering). Grown own w (map (placed_cell p (number_in t.numbers)) done)) (later-all n m links later (sym c)) (g.grown (links ++ later)) in
                  let new : Grown w r (f (atom_in a) ∷ []) = subst (λ (t : ℕ × List ℕ). Grown w r (record { name = a.name; count = t.0; links = t.1 } ∷ []))
                  (λ j. (sym (length-take-le a.count a.links (omega (arith, (fit.atoms i h).few, (fit.atoms i h).width))) j, (q ∙ ap (map (place_of p)) (v later)) j)) more in
                  subst (Grown own r) (sym s) (grown-then own w r (map f done) (f (atom_in a) ∷ []) old new);
            }
