-- What the code makes of a blank of the pattern, its atoms and the links where its ports stand, is the filling of that blank in the list.
use Prim.Native.Nat.{ℕ, ◌<◌, ◌≤◌}
use mathlib.Core.Path.{◌≡◌, refl, ap, ap₂, sym, ◌∙◌, subst}
use mathlib.Core.List.Memᴰ
use mathlib.Core.List.{List, [], ◌∷◌, map, map-map}
use native.Mathlib.Omega.{arith}
use lib.ListN.{length, get_or, take, length-map, length-take}
use Rattle.hyperlmntal.specs.Link.{◌∈◌}
use Rattle.hyperlmntal.proofs.Lists.{map-agree}
use Rattle.rows.specs.Format.{most_links}
use Rattle.rows.specs.Limits.{sheet_link_limit, filling_links}
use Rattle.rows.specs.Packed.{padded}
use Rattle.rows.specs.declared.Context.{Context}
use Rattle.rows.specs.declared.Sheet as form
use Rattle.rows.proofs.Padding.{get_d-padding}
use Rattle.numbering.specs.Numbering.{Numbering, number_room, no_numbers, with_classes}
use Rattle.numbering.proofs.Turns.{with-classes-count}
use Rattle.numbering.proofs.Kept.{Low, low-after, low-none}
use Rattle.normalising.proofs.normal_text.NormalWritten.{taken-padded}
use Rattle.reading.proofs.normal.Merging.{get_d-in}
use Rattle.placing.specs.Net.{NetCell, Range, cell_links}
use Rattle.network.specs.NetIn.{net_in, context_in, context_at, Used, Fit}
use Rattle.network.specs.Ready.{Ready, LinksIn}
use Rattle.network.proofs.NetIn.{contexts-length, used-length}
use Rattle.listing.specs.Writing.{Narrow, number_in, given_cells, stands_at, port_links, appearing}
use Rattle.listing.proofs.Atoms.{mapped-low}
use Rattle.listing.proofs.Ranks.{context-at}
use Rattle.listing.proofs.Filled.{ports-taken, port-low, agrees}
use Rattle.listing.proofs.Listed.{links-used, stands-low}
use Rattle.filling.specs.Parts.{part_normal, part_room}
use Rattle.filling.specs.Whole.{placed_atom, part_atoms}
use Rattle.swapping.specs.Given.{numbered_cell, placed_cell, number_for, GivenPart}
use Rattle.swapping.proofs.GivenTurns.{few-numbers}

-- Atoms whose links are numbered alike.
cells_agree : (f g : ℕ → ℕ) (l : List NetCell) → ((x : ℕ) → x ∈ cell_links l → f x ≡ g x) → map (numbered_cell f) l ≡ map (numbered_cell g) l
cells_agree f g [] h = refl
cells_agree f g (c ∷ l) h =
    ap₂ ◌∷◌ (ap (λ (m : List ℕ). record { name = c.0; count = length c.1; links = padded most_links 0 m }) (map-agree f g c.1 (λ x m. h x (Memᴰ.append_left (cell_links l) m))))
    (cells_agree f g l (λ x m. h x (Memᴰ.append_right c.1 m)))

module _ (sheet pattern : form.Sheet) (ready : Ready sheet pattern) (narrow : Narrow pattern) (links given : List ℕ) (to : LinksIn sheet pattern links) (j : ℕ) (h : j < pattern.context_count) where
  abbrev c : Context
  c = context_at pattern j

  abbrev cells : List NetCell
  cells = given_cells sheet given c.number

  abbrev ports : List ℕ
  ports = port_links sheet links (take c.count c.links)

  fit : Fit sheet
  fit = ready.sheet-fit

  used : Used sheet_link_limit c.count c.links
  used = links-used sheet pattern ready narrow links to j h

  low : (k : ℕ) → k < c.count → stands_at sheet.class_count links (get_or c.links k 0) < number_room
  low = stands-low sheet pattern ready narrow links to j h

  -- The blank is one of the pattern's.
  pub blank-in : context_in c ∈ (net_in pattern).contexts
  blank-in =
      subst (λ d. d ∈ (net_in pattern).contexts) (context-at pattern.contexts pattern.context_count (omega (arith, ready.figure-fit.context-count, ready.figure-fit.context-room)) j h)
      (get_d-in (net_in pattern).contexts j (0, []) (omega (arith, h, contexts-length pattern ready.figure-fit)))

  -- A context of the replacement has its number and its port count.
  module _ (number n : ℕ) (z : c.number ≡ number) (q : c.count ≡ n) where
    pub ends-range : (k : ℕ) → k < n → Range sheet_link_limit (get_or c.links k 0)
    ends-range k l = used.numbered k (omega (arith, q))

    module _ (p : List ℕ) (made : p ≡ padded most_links 0 (map (stands_at sheet.class_count links) (take n c.links))) where
      standing : p ≡ padded most_links 0 ports
      standing = made ∙ ap (λ m. padded most_links 0 (port_links sheet links (take m c.links))) (sym q)

      pub ports-low : (k : ℕ) → k < n → get_or p k 0 < number_room
      ports-low k l = port-low sheet fit links given c used low p standing k (omega (arith, q))

      -- The links of the atoms are numbered, then those of the ports.
      module _ (from : Numbering) (begun : from ≡ with_classes no_numbers (cell_links (given_cells sheet given number))) where
        pub begun-few : from.count ≤ sheet_link_limit
        begun-few = omega (arith, ap (λ m. m.count) begun, few-numbers sheet given number 0 fit sheet.atom_count (omega arith))

        module _ (t : Numbering) (done : t ≡ with_classes from (take n p)) where
          numbered : t ≡ with_classes (with_classes no_numbers (cell_links cells)) (take c.count p)
          numbered = done ∙ ap₂ (λ (f : Numbering) (m : ℕ). with_classes f (take m p)) (begun ∙ ap (λ k. with_classes no_numbers (cell_links (given_cells sheet given k))) (sym z)) (sym q)

          agree : (x : ℕ) → x ∈ appearing cells ports → number_in t.numbers x ≡ number_for sheet links given (context_in c) x
          agree = agrees sheet fit links given c used low p standing t numbered

          done-low : Low t
          done-low = low-after from t (take n p) done (low-after no_numbers from (cell_links (given_cells sheet given number)) begun low-none)

          few : t.count ≤ filling_links
          few = omega (arith, ap (λ m. m.count) done, with-classes-count from (take n p), begun-few, length-take n p, used.few, q)

          module _ (marked : List ℕ) (made_of : (later : List ℕ) → marked ≡ padded most_links 0 (map (number_in (with_classes t later).numbers) (take n p))) where
            plain : marked ≡ padded most_links 0 (map (number_in t.numbers) (take n p))
            unfolding with_classes
            plain = made_of []

            pub marked-low : (k : ℕ) → get_or marked k 0 < part_room
            marked-low k =
                let f = number_in t.numbers in
                let l = mapped-low filling_links f (take n p) (λ x. omega (arith, done-low x, few)) k in
                rw (plain, get_d-padding most_links 0 (map f (take n p)) k) (omega (arith, l))

            module _ (list : List ℕ) (part : GivenPart sheet links given list (context_in c)) where
              pub marked-part : take n marked ≡ take n (part_normal list number).marked
              marked-part =
                  let f = number_in t.numbers in
                  let e : take n p ≡ ports = ap (λ m. take m p) (sym q) ∙ ports-taken sheet fit links given c used low p standing in
                  let size : length (map f ports) ≡ n = length-map ports f ∙ length-map (take c.count c.links) (stands_at sheet.class_count links) ∙ used-length sheet_link_limit c.count c.links used ∙ q in
                  ap (take n) (plain ∙ ap (λ l. padded most_links 0 (map f l)) e) ∙ taken-padded most_links (map f ports) n size
                  ∙ map-agree f (number_for sheet links given (context_in c)) ports (λ x m. agree x (Memᴰ.append_right (cell_links cells) m))
                  ∙ sym part.marked ∙ ap₂ (λ m k. take m (part_normal list k).marked) (used-length sheet_link_limit c.count c.links used ∙ q) z

              pub atoms-part : (k : ℕ) → map (placed_cell k (number_in (with_classes from (take n p)).numbers)) (given_cells sheet given number) ≡ part_atoms k (part_normal list number)
              atoms-part k =
                  ap₂ (λ (m : Numbering) (x : ℕ). map (placed_cell k (number_in m.numbers)) (given_cells sheet given x)) (sym done) (sym z) ∙ sym (map-map (placed_atom k) (numbered_cell (number_in t.numbers)) cells)
                  ∙ ap (map (placed_atom k)) (cells_agree (number_in t.numbers) (number_for sheet links given (context_in c)) cells (λ x m. agree x (Memᴰ.append_left ports m)) ∙ sym part.atoms)
                  ∙ ap (λ x. part_atoms k (part_normal list x)) z
