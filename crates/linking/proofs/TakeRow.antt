-- One row more: the steps together make what the definition says.
use Prim.Native.Nat.{ℕ, ◌+◌, ◌<◌}
use mathlib.Core.Path.{◌≡◌, refl, ap}
use mathlib.Core.List.{List}
use mathlib.Core.Bool.{Bool, true, false}
use lib.Dec.{eqb}
use lib.ListN.{length, get_or, set, take, drop}
use native.Mathlib.Omega.{arith}
use Rattle.rows.specs.Pick.{pick}
use Rattle.rows.specs.Format.{field_count, atom_letter, fusion_letter, head_letter, no_letter}
use Rattle.rows.specs.Limits.{atom_room, context_room}
use Rattle.rows.specs.Held.{Held, Wiring, with_links, merged, with_fusion, no_wiring, atom_of, context_of, with_atom, with_context, with_fusion_row, with_edge_row, with_head, with_row}
use Rattle.rows.specs.Packed.{no_atom, no_context}
use Rattle.rows.specs.TextArrays.{packed, TextArrays}
use Rattle.linking.specs.Steps.{Wired, Linked, Relinks, Marked, Tied, Room, first_link_in, link_count_in, first_link, link_total, link_at, linked_by, marked_by}
use Rattle.rows.specs.Entry.{Ranged, is_context, atom_by, context_by, ports_by}
use Rattle.rows.specs.declared.row.Row.{Row}
use Rattle.linking.proofs.Wired.{links-marks, links-marked, wired-none, wired-links, wired-fusion, row_by}
use Rattle.rows.proofs.Rows.{context-ranged, grown, grown-stored, grown-count, grown-table}
use Rattle.linking.proofs.RowLinks.{first_one, first_two}

-- what the definition makes of atoms, contexts and wiring
module _ (h : Held) (r : Row) (known : r.letter < no_letter) where
  head : 3 < r.letter → r.letter ≡ head_letter
  head l = omega arith

  row-atoms : (with_row h r).atoms ≡ grown h.atoms (atom_of r.nums) (eqb r.letter atom_letter)
  unfolding with_atom with_context with_fusion_row with_edge_row with_head
  row-atoms = row_by h r (λ g. g.atoms ≡ grown h.atoms (atom_of r.nums) (eqb r.letter atom_letter)) (λ l. rw l) (λ l. rw l) (λ l. rw l) (λ l. rw l) (λ l. rw (head l))

  row-contexts : (with_row h r).contexts ≡ grown h.contexts (context_of r.nums (h.rows + 1)) (is_context r.letter)
  unfolding with_atom with_context with_fusion_row with_edge_row with_head
  row-contexts =
      row_by h r (λ g. g.contexts ≡ grown h.contexts (context_of r.nums (h.rows + 1)) (is_context r.letter)) (λ l. rw l) (λ l. rw l) (λ l. rw l) (λ l. rw l)
      (λ l. rw (head l))

  -- a head's row has no links, so nothing is left of them
  row-wiring : length r.nums ≡ field_count → (with_row h r).wiring ≡ marked_by r (linked_by r h.wiring)
  unfolding with_atom with_context with_fusion_row with_edge_row with_head with_links first_link_in link_count_in
  row-wiring wide =
      row_by h r (λ g. g.wiring ≡ marked_by r (linked_by r h.wiring)) (λ l. rw l) (λ l. rw l) (λ l. rw l (rw (first_two r.nums (omega arith)))) (λ l. rw l (rw (first_one r.nums (omega arith))))
      (λ l. rw (head l))

-- the wiring with a row's links is wired, and has the marks that it had, unless the row is a head
module _ (w : Wiring) (wired : Wired w) (l : List ℕ) (x y : ℕ) where
  linked : Bool → Bool → Wiring
  linked b f = pick f (with_fusion (with_links (pick b no_wiring w) l) x y) (with_links (pick b no_wiring w) l)

  linked-wired : (b f : Bool) → Wired (linked b f)
  unfolding linked
  linked-wired true true = wired-fusion _ x y (wired-links no_wiring l wired-none)
  linked-wired true false = wired-links no_wiring l wired-none
  linked-wired false true = wired-fusion _ x y (wired-links w l wired)
  linked-wired false false = wired-links w l wired

  linked-marked : (marks marked : List ℕ) (m : ℕ) → Marked w marks marked m → (b f : Bool) → Marked (pick b w (linked b f)) marks marked m
  unfolding linked with_fusion merged
  linked-marked marks marked m k true f = k
  linked-marked marks marked m k false true = record { numbers = rw (links-marks w l) k.numbers; places = rw (links-marked w l) k.places; count = rw (links-marks w l) k.count }
  linked-marked marks marked m k false false = record { numbers = rw (links-marks w l) k.numbers; places = rw (links-marked w l) k.places; count = rw (links-marks w l) k.count }

module _ (h : Held) (wired : Wired h.wiring) (r : Row) (s : TextArrays) (e : s ≡ packed h) (room : Room s) (ranged : Ranged r) (wide : length r.nums ≡ field_count)
    (links classes : List ℕ) (n : ℕ) (f : Relinks s.links s.classes s.link_count links classes n (linked_by r))
    (labels marks marked : List ℕ) (m : ℕ)
    (g : (w v : Wiring) → Wired w → Wired v → Linked w links classes n → Marked (pick (eqb r.letter head_letter) v w) s.marks s.marked s.mark_count → Tied (marked_by r w) links labels n marks marked m) where
  row-tied : Tied (with_row h r).wiring links labels n marks marked m
  unfolding linked
  row-tied =
      let w = h.wiring in
      let l = take (link_total r.letter r.nums) (drop (first_link r.letter) r.nums) in
      let x = link_at r 0 in
      let y = link_at r 1 in
      let b = eqb r.letter head_letter in
      let t = eqb r.letter fusion_letter in
      rw (row-wiring h r ranged.known wide) (g (linked_by r w) w (linked-wired w wired l x y b t) wired (f w wired (rw e (record { numbers = refl; labels = refl; count = refl })))
      (linked-marked w wired l x y s.marks s.marked s.mark_count (rw e (record { numbers = refl; places = refl; count = refl })) b t))

  -- the arrays with the row's atom, context, ports, links and mark
  pub row-taken : (at : ℕ) → at ≡ h.rows + 1
      → record {
        atoms = set s.atoms s.atom_count (atom_by r);
        atom_count = s.atom_count + pick (eqb r.letter atom_letter) 1 0;
        contexts = set s.contexts s.context_count (context_by r at);
        context_count = s.context_count + pick (is_context r.letter) 1 0;
        ports = ports_by r s.ports;
        links = links;
        classes = labels;
        link_count = n;
        marks = marks;
        marked = marked;
        mark_count = m;
      } ≡ packed (with_row h r)
  row-taken at q =
      let t = row-tied in
      let count : s.atom_count ≡ length h.atoms = ap (λ (s : TextArrays). s.atom_count) e in
      let count-too : s.context_count ≡ length h.contexts = ap (λ (s : TextArrays). s.context_count) e in
      let a = atom_of r.nums in
      let c = context_of r.nums (h.rows + 1) in
      let b = eqb r.letter atom_letter in
      let d = is_context r.letter in
      rw e (rw q (rw (row-atoms h r ranged.known) (rw (row-contexts h r ranged.known)
      (rw (grown-stored h.atoms a atom_room no_atom b (omega (arith, room.atoms))) (rw (grown-count h.atoms a b)
      (rw (grown-stored h.contexts c context_room no_context d (omega (arith, room.contexts))) (rw (grown-count h.contexts c d) (rw (grown-table h.contexts c d (λ p. (context-ranged r ranged p).0))
      (rw t.0.numbers (rw t.0.labels (rw t.0.count (rw t.1.numbers (rw t.1.places (rw t.1.count))))))))))))))
