-- The normal form of a filled figure, put together from its atoms, its labels and its marks.
use Prim.Native.Nat.{ℕ, zero, suc, ◌+◌, ◌<◌, ◌≤◌}
use mathlib.Core.Path.{◌≡◌, ap, ap₂, sym, ◌∙◌, subst}
use mathlib.Core.Logic.{◌⊎◌, inl, inr}
use mathlib.Core.List.Memᴰ
use mathlib.Core.List.{List, [], ◌∷◌, ◌++◌, map, map-map}
use native.Mathlib.Omega.{arith}
use lib.ListN.{length, get_or, take, drop, length-map, length-take}
use lib.Seq.{take-append_seam, length-take-le}
use Rattle.hyperlmntal.specs.Link.{◌∈◌}
use Rattle.rows.specs.Format.{most_links}
use Rattle.rows.specs.Limits.{figure_contexts, atom_room, context_room, mark_room}
use Rattle.rows.specs.Packed.{padded}
use Rattle.rows.specs.declared.Atom.{Atom}
use Rattle.rows.specs.declared.Context.{Context}
use Rattle.normalising.specs.NormalRows.{past_atoms}
use Rattle.rows.specs.declared.Sheet.{Sheet as Normal}
use Rattle.filling.specs.Parts.{part_normal, part_room, places, Low}
use Rattle.filling.specs.Glued.{place_of, Own, Glues}
use Rattle.filling.specs.Whole.{placed_atom, Linked, part_atoms, context_atoms, placed_atoms, labelled_atom, room_for, whole_atoms, own_whole, ContextsRanged, Puts}
use Rattle.filling.specs.Classes.{with_labels, Sees, links_in, number_in, numbered_atom, numbered_at, mark_labels, shown_atoms, shown_labels, Made}
use Rattle.filling.specs.declared.whole.Whole.{Whole}
use Rattle.filling.proofs.Parts.{list_any, taken-map, part_low, low-counted}
use Rattle.filling.proofs.Loops.{own-places}

-- An atom of a part.
abbrev Small : Atom → Type 0
Small a = (a.count ≤ most_links) × ((k : ℕ) → get_or a.links k 0 < part_room)

small-taken : (n : ℕ) (l : List Atom) → ((i : ℕ) → Small (get_or l i past_atoms)) → (a : Atom) → a ∈ take n l → Small a
small-taken zero l p a i = absurd (Memᴰ.not-nil i)
small-taken (suc n) [] p a i = absurd (Memᴰ.not-nil i)
small-taken (suc n) (x ∷ l) p a (Memᴰ.head q) = subst Small (sym q) (p 0)
small-taken (suc n) (x ∷ l) p a (Memᴰ.tail i) = small-taken n l (λ k. p (suc k)) a i

taken-linked : (n : ℕ) (l : List Atom) → ((a : Atom) → a ∈ l → Linked a) → (a : Atom) → a ∈ take n l → Linked a
taken-linked zero l p a i = absurd (Memᴰ.not-nil i)
taken-linked (suc n) [] p a i = absurd (Memᴰ.not-nil i)
taken-linked (suc n) (x ∷ l) p a (Memᴰ.head q) = p a (Memᴰ.head q)
taken-linked (suc n) (x ∷ l) p a (Memᴰ.tail i) = taken-linked n l (λ b j. p b (Memᴰ.tail j)) a i

both-linked : (l k : List Atom) → ((a : Atom) → a ∈ l → Linked a) → ((a : Atom) → a ∈ k → Linked a) → (a : Atom) → a ∈ l ++ k → Linked a
both-linked l k p q a i = at (Memᴰ.append_cases l i)
  where
    at : (a ∈ l) ⊎ (a ∈ k) → Linked a
    at (inl j) = p a j
    at (inr j) = q a j

places-low : (p : ℕ) → p ≤ figure_contexts → (l : List ℕ) → ((k : ℕ) → get_or l k 0 < part_room) → (k : ℕ) → get_or (map (place_of p) l) k 0 < places
places-low p h [] f k = omega arith
places-low p h (x ∷ l) f zero = omega (arith, f 0)
places-low p h (x ∷ l) f (suc k) = places-low p h l (λ j. f (suc j)) k

part-linked : (p : ℕ) → p ≤ figure_contexts → (n : Normal) → Low n → (a : Atom) → a ∈ part_atoms p n → Linked a
part-linked p h n low a i =
    let t = Memᴰ.of_map (placed_atom p) (take n.atom_count n.atoms) i in
    let s = small-taken n.atom_count n.atoms (λ k. (low.atom_counts k, low.atom_links k)) t.0 t.1 in
    subst Linked t.2 (s.0, places-low p h t.0.links s.1)

contexts-linked : (list : List ℕ) (p : ℕ) (l : List Context) → p + length l ≤ context_room → (a : Atom) → a ∈ context_atoms list p l → Linked a
unfolding context_atoms
contexts-linked list p [] h a i = absurd (Memᴰ.not-nil i)
contexts-linked list p (c ∷ l) h a i = both-linked (part_atoms p (part_normal list c.number)) (context_atoms list (p + 1) l) (part-linked p (omega arith) (part_normal list c.number) (part_low list c.number)) (contexts-linked list (p + 1) l (omega arith)) a i

placed-linked : (list : List ℕ) (figure : Normal) → Low figure → (i : ℕ) → Linked (get_or (room_for (placed_atoms list figure)) i past_atoms)
placed-linked list figure low =
    let contexts = take figure.context_count figure.contexts in
    list_any Linked past_atoms (room_for (placed_atoms list figure)) (omega arith, λ k. omega arith)
    (taken-linked atom_room (placed_atoms list figure)
    (both-linked (part_atoms 0 figure) (context_atoms list 1 contexts) (part-linked 0 (omega arith) figure low) (contexts-linked list 1 contexts (omega (arith, length-take figure.context_count figure.contexts, low.contexts)))))

-- What a normal form has of contexts, and its own atoms.
pub low-ported : (n : Normal) → Low n → ContextsRanged n.contexts n.context_count
low-ported n l = record { counted = low-counted n l; links = l.context_links }

-- The figure and its fillings put together, with labels, and numbered.
module _ (list : List ℕ) (figure : Normal) (own labels : List ℕ) (whole : Whole) (P : Puts list (own_whole figure) (take figure.context_count figure.contexts) own labels whole) where
  all_placed : whole_atoms whole ≡ room_for (placed_atoms list figure)
  all_placed = P.atoms ∙ ap (λ (l : List Atom). room_for (l ++ context_atoms list 1 (take figure.context_count figure.contexts))) (sym (own-places (take figure.atom_count figure.atoms)))

  pub put_linked : Low figure → (i : ℕ) → Linked (get_or (whole_atoms whole) i past_atoms)
  put_linked low i = subst (λ (l : List Atom). Linked (get_or l i past_atoms)) (sym all_placed) (placed-linked list figure low i)

  -- All labels that are known in the end are those of the atoms and marks in order.
  module _ (none first all : List ℕ) (m n : ℕ) (A : Sees none 0 first m (links_in (map (labelled_atom labels) (whole_atoms whole)))) (M : Sees first m all n (mark_labels labels figure)) where
    all_shown : map (labelled_atom labels) (whole_atoms whole) ≡ shown_atoms list labels figure
    all_shown = ap (map (labelled_atom labels)) all_placed ∙ sym (taken-map (labelled_atom labels) atom_room (placed_atoms list figure))

    in_order : with_labels (take m first) (mark_labels labels figure) ≡ shown_labels list labels figure
    in_order = ap (λ (l : List ℕ). with_labels l (mark_labels labels figure)) (A.labels ∙ ap (λ (l : List Atom). with_labels [] (links_in l)) all_shown)

    known-shown : take n all ≡ shown_labels list labels figure
    known-shown = M.labels ∙ in_order

    pub made_of : Own own → length (whole_atoms whole) ≡ whole.count
        → (r : Normal) → ((later : List ℕ) → r.atoms ≡ map (numbered_at (with_labels (take m first) later) labels) (whole_atoms whole) ++ drop whole.count whole.atoms) → r.atom_count ≡ whole.count
        → r.context_count ≡ 0 → r.marks ≡ figure.marks → r.marked ≡ padded mark_room 0 (map (number_in (take n all)) (mark_labels labels figure)) → r.mark_count ≡ figure.mark_count → r.class_count ≡ n
        → (l : List ℕ) × (Glues list figure l × Made list l figure r)
    made_of O size r a b c d e f g =
        let s = with_labels (take m first) (mark_labels labels figure) in
        let rows = map (numbered_at s labels) (whole_atoms whole) in
        let k : length rows ≡ whole.count = length-map (whole_atoms whole) (numbered_at s labels) ∙ size in
        let few : n ≤ length all = omega (arith, M.room.0, M.room.1) in (
          labels,
          (
            (own, O, P.labels),
            record {
              atoms = ap₂ take (b ∙ sym k) (a (mark_labels labels figure)) ∙ take-append_seam rows (drop whole.count whole.atoms)
                  ∙ sym (map-map (numbered_atom s) (labelled_atom labels) (whole_atoms whole)) ∙ ap₂ (λ (t : List ℕ) (l : List Atom). map (numbered_atom t) l) in_order all_shown;
              atom_total = b ∙ sym size ∙ sym (length-map (whole_atoms whole) (labelled_atom labels)) ∙ ap length all_shown;
              context_total = c;
              marks = d;
              marked = e ∙ ap (λ (t : List ℕ). padded mark_room 0 (map (number_in t) (mark_labels labels figure))) known-shown;
              mark_total = f;
              class_total = g ∙ sym (length-take-le n all few) ∙ ap length known-shown;
            },
          ),
        )
