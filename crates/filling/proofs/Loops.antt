-- One turn of each loop, over plain variables.
use Prim.Native.Nat.{ℕ, zero, suc, ◌+◌, ◌-◌, ◌<◌, ◌≤◌}
use mathlib.Core.Path.{◌≡◌, refl, ap, ap₂, sym, ◌∙◌, subst}
use mathlib.Core.Logic.{◌⊎◌, inl, inr, ⊎_elim}
use mathlib.Core.Bool.{Bool, true, false}
use mathlib.Core.List.{List, [], ◌∷◌, ◌++◌, map, map-append, append-nil, append_assoc}
use native.Mathlib.Decide.{dec_le}
use native.Mathlib.Numerals.{add-one}
use native.Mathlib.Omega.{arith}
use borrow.Author.Tests.{eqb-true, eqb-false, lt-ltb, le-ltb}
use lib.Dec.{eqb}
use lib.ListN.{length, get_or, take, drop, set, replicate, length-append, length-map, length-set, length-take, drop_of_length-le}
use lib.Seq.{take_all, take-append-le, take-suc, take-suc-set, length-take-le, get_or-set_same, get_or-set_other}
use Rattle.rows.specs.Pick.{pick, and}
use Rattle.rows.specs.Format.{most_links}
use Rattle.rows.specs.Limits.{sheet_link_limit, atom_room}
use Rattle.rows.specs.Held.{index_of, is_in}
use Rattle.rows.specs.Packed.{padded}
use Rattle.rows.specs.declared.Atom.{Atom}
use Rattle.rows.specs.declared.Context.{Context}
use Rattle.rows.proofs.Lists.{mapped, mapped_next as stored-mapped, index_below}
use Rattle.rows.proofs.Padding.{get_d-filled, stored_next}
use Rattle.numbering.proofs.Turns.{part-cons, part_end}
use Rattle.normalising.proofs.normal_text.NormalWritten.{taken-padded}
use Rattle.placing.specs.Smallest.{numbers_from, numbers_to, same_list}
use Rattle.placing.proofs.Joined.{numbers-length}
use Rattle.filling.specs.Read.{filling_read}
use Rattle.filling.specs.Fill.{first_differing, is_exact}
use Rattle.filling.specs.Parts.{part_normal, exact_to, Exacts, first_unported}
use Rattle.filling.specs.Glued.{place_of, joined_at, joined_all, port_pairs, context_pairs, all_pairs}
use Rattle.filling.specs.Whole.{placed_atom, part_atoms, context_atoms, labels_at, labelled_links, labelled_atom, room_for, whole_atoms, Grown}
use Rattle.filling.specs.Classes.{LabelTable, Sees, with_label, with_labels, links_in, number_in, numbered_links, numbered_at}
use Rattle.filling.specs.declared.whole.Whole.{Whole}
use Rattle.filling.proofs.Join.{all_append}
use Rattle.filling.proofs.Numbered.{labels_append, label_kept}

pub mapped-whole : {A : Type 0} (f : A → A) (l : List A) (n : ℕ) → length l ≡ n → mapped f n l ≡ map f l
mapped-whole f l n e =
    let h : length l ≤ n = omega arith in
    ap₂ (λ a b. map f a ++ b) (take_all n l h) (drop_of_length-le l h) ∙ append-nil (map f l)

-- Labels that are their own places, up to one.
pub own-next : (labels : List ℕ) (k : ℕ) → k < length labels → ((j : ℕ) → j < k → get_or labels j 0 ≡ j) → (j : ℕ) → j < k + 1 → get_or (set labels k k) j 0 ≡ j
own-next labels k h own j l = go (eqb j k) refl
  where
    go : (b : Bool) → eqb j k ≡ b → get_or (set labels k k) j 0 ≡ j
    go true e = let q : j ≡ k = eqb-true j k e in subst (λ i. get_or (set labels k k) i 0 ≡ i) (sym q) (get_or-set_same labels k k 0 h)
    go false e = let q : j ≡ k → ⊥ = eqb-false j k e in get_or-set_other labels k j k 0 q ∙ own j (omega (arith, q))

-- A port more.
module _ (p count k : ℕ) (links marked labels : List ℕ) where
  pub ports-next : count ≤ length links → count ≤ length marked → k < count
      → joined_all labels (port_pairs p (drop k (take count links)) (drop k (take count marked)))
      ≡ joined_all (joined_at labels (get_or links k 0, place_of p (get_or marked k 0))) (port_pairs p (drop (k + 1) (take count links)) (drop (k + 1) (take count marked)))
  unfolding joined_all port_pairs
  ports-next a b h = rw (part-cons links count k 0 a h, part-cons marked count k 0 b h)

  pub ports-end : count ≤ k → joined_all labels (port_pairs p (drop k (take count links)) (drop k (take count marked))) ≡ labels
  unfolding joined_all port_pairs
  ports-end h = rw (part_end links count k h)

-- A context more.
module _ (list : List ℕ) (contexts : List Context) (count i : ℕ) (d : Context) where
  pub pairs_next : (labels : List ℕ) (p : ℕ) → count ≤ length contexts → i < count
      → joined_all labels (all_pairs list p (drop i (take count contexts))) ≡ joined_all (joined_all labels (context_pairs list p (get_or contexts i d))) (all_pairs list (p + 1) (drop (i + 1) (take count contexts)))
  unfolding all_pairs
  pairs_next labels p a h = rw (part-cons contexts count i d a h) (all_append labels (context_pairs list p (get_or contexts i d)) (all_pairs list (p + 1) (drop (i + 1) (take count contexts))))

  pub pairs_end : (labels : List ℕ) (p : ℕ) → count ≤ i → joined_all labels (all_pairs list p (drop i (take count contexts))) ≡ labels
  unfolding joined_all all_pairs
  pairs_end labels p h = rw (part_end contexts count i h)

  pub atoms-next : (p : ℕ) → count ≤ length contexts → i < count
      → context_atoms list p (drop i (take count contexts)) ≡ part_atoms p (part_normal list (get_or contexts i d).number) ++ context_atoms list (p + 1) (drop (i + 1) (take count contexts))
  unfolding context_atoms
  atoms-next p a h = rw (part-cons contexts count i d a h)

  pub atoms-end : (p : ℕ) → count ≤ i → context_atoms list p (drop i (take count contexts)) ≡ []
  unfolding context_atoms
  atoms-end p h = rw (part_end contexts count i h)

  pub lacking-next : (ports : List ℕ) → count ≤ length contexts → i < count → (b : Bool) → eqb (get_or ports (get_or contexts i d).number 0) (suc (get_or contexts i d).count) ≡ b
      → first_unported ports (drop i (take count contexts)) ≡ pick b (first_unported ports (drop (i + 1) (take count contexts))) (get_or contexts i d).row
  unfolding first_unported
  lacking-next ports a h b e = rw (part-cons contexts count i d a h, e)

  pub lacking-end : (ports : List ℕ) → count ≤ i → first_unported ports (drop i (take count contexts)) ≡ 0
  unfolding first_unported
  lacking-end ports h = rw (part_end contexts count i h)

  pub differing-next : count ≤ length contexts → i < count → (b : Bool) → is_exact (filling_read list (get_or contexts i d)) ≡ b
      → first_differing list (drop i (take count contexts)) ≡ pick b (first_differing list (drop (i + 1) (take count contexts))) (get_or contexts i d).row
  unfolding first_differing
  differing-next a h b e = rw (part-cons contexts count i d a h) (ap (λ t. pick t (first_differing list (drop (i + 1) (take count contexts))) (get_or contexts i d).row) e)

  pub differing-end : count ≤ i → first_differing list (drop i (take count contexts)) ≡ 0
  unfolding first_differing
  differing-end h = rw (part_end contexts count i h)

-- The places of the figure's own classes are their numbers.
same-places : (l : List ℕ) → map (place_of 0) l ≡ l
same-places [] = refl
same-places (x ∷ l) = let e : place_of 0 x ≡ x = omega arith in ap₂ ◌∷◌ e (same-places l)

pub own-places : (l : List Atom) → map (placed_atom 0) l ≡ l
own-places [] = refl
own-places (a ∷ l) = ap₂ (λ (w : List ℕ) (r : List Atom). record { name = a.name; count = a.count; links = w } ∷ r) (same-places a.links) (own-places l)

-- As many atoms as there is room for.
pub room_twice : (a b : List Atom) → room_for (room_for a ++ b) ≡ room_for (a ++ b)
room_twice a b = go (dec_le (length a) atom_room)
  where
    go : Dec (length a ≤ atom_room) → room_for (room_for a ++ b) ≡ room_for (a ++ b)
    go (yes h) = ap (λ l. room_for (l ++ b)) (take_all atom_room a h)
    go (no k) =
        let n : atom_room ≤ length a = omega arith in
        let m : length (room_for a) ≡ atom_room = length-take-le atom_room a n in
        take-append-le atom_room (room_for a) b (omega arith) ∙ take_all atom_room (room_for a) (omega arith) ∙ sym (take-append-le atom_room a b n)

pub room-all : (l : List Atom) → length l ≤ atom_room → room_for l ≡ l
room-all l h = take_all atom_room l h

pub room-one : (l : List Atom) (n : ℕ) (a : Atom) → length l ≡ atom_room → n < atom_room → take (n + 1) (set l n a) ≡ room_for (take n l ++ (a ∷ []))
room-one l n a e h =
    let m : length (take n l) ≡ n = length-take-le n l (omega arith) in
    rw (add-one n) (take-suc-set l n a (omega arith) ∙ sym (room-all (take n l ++ (a ∷ [])) (simp length-append (omega arith))))

pub room-full : (l : List Atom) (n : ℕ) (a : Atom) → length l ≡ atom_room → n ≤ atom_room → atom_room ≤ n → take n l ≡ room_for (take n l ++ (a ∷ []))
room-full l n a e h k =
    let m : length (take n l) ≡ n = length-take-le n l (omega arith) in
    sym (take-append-le atom_room (take n l) (a ∷ []) (omega arith) ∙ room-all (take n l) (omega arith))

pub grown-none : (w : Whole) → w.count ≤ atom_room → Grown w w []
grown-none w h = record { atoms = sym (ap room_for (append-nil (whole_atoms w)) ∙ room-all (whole_atoms w) (omega (arith, length-take w.count w.atoms))); few = h }

-- One atom more, and one for which there is no room.
pub grown-one : (w r : Whole) (a : Atom) → length w.atoms ≡ atom_room → w.count < atom_room → r ≡ record { atoms = set w.atoms w.count a; count = w.count + 1 } → Grown w r (a ∷ [])
grown-one w r a e h q = subst (λ (t : Whole). Grown w t (a ∷ [])) (sym q) (record { atoms = room-one w.atoms w.count a e h; few = omega arith })

pub grown-full : (w r : Whole) (a : Atom) → length w.atoms ≡ atom_room → w.count ≤ atom_room → atom_room ≤ w.count → r ≡ w → Grown w r (a ∷ [])
grown-full w r a e h k q = subst (λ (t : Whole). Grown w t (a ∷ [])) (sym q) (record { atoms = room-full w.atoms w.count a e h k; few = h })

pub grown-then : (w r s : Whole) (a b : List Atom) → Grown w r a → Grown r s b → Grown w s (a ++ b)
grown-then w r s a b g h =
    record {
      atoms = h.atoms ∙ ap (λ l. room_for (l ++ b)) g.atoms ∙ room_twice (whole_atoms w ++ a) b ∙ ap room_for (append_assoc (whole_atoms w) a b);
      few = h.few;
    }

pub mapped_next : {A B : Type 0} (f : A → B) (l : List A) (i : ℕ) (d : A) → i < length l → map f (take i l) ++ (f (get_or l i d) ∷ []) ≡ map f (take (i + 1) l)
mapped_next f l i d h = rw (add-one i) (rw (take-suc l i d h) (sym (map-append f (take i l) (get_or l i d ∷ []))))

-- A label more.
module _ (l : List ℕ) (n x : ℕ) (e : length l ≡ sheet_link_limit + 1) (h : n ≤ sheet_link_limit + 1) where
  size : length (take n l) ≡ n
  size = length-take-le n l (omega arith)

  label-new : index_of x (take n l) ≡ n → n < sheet_link_limit + 1 → take (n + 1) (set l n x) ≡ with_label (take n l) x
  unfolding with_label
  label-new q k =
      let s = size in
      let new : is_in x (take n l) ≡ false = le-ltb (index_of x (take n l)) (length (take n l)) (omega arith) in
      rw (add-one n) (take-suc-set l n x (omega arith) ∙ sym (ap (λ b. pick b (take n l) (take (sheet_link_limit + 1) (take n l ++ (x ∷ [])))) new ∙ take_all (sheet_link_limit + 1) (take n l ++ (x ∷ [])) (simp length-append (omega arith))))

  label-full : index_of x (take n l) ≡ n → sheet_link_limit + 1 ≤ n → take n l ≡ with_label (take n l) x
  unfolding with_label
  label-full q k =
      let s = size in
      let new : is_in x (take n l) ≡ false = le-ltb (index_of x (take n l)) (length (take n l)) (omega arith) in
      sym (ap (λ b. pick b (take n l) (take (sheet_link_limit + 1) (take n l ++ (x ∷ [])))) new ∙ take-append-le (sheet_link_limit + 1) (take n l) (x ∷ []) (omega arith) ∙ take_all (sheet_link_limit + 1) (take n l) (omega arith))

  label-old : (index_of x (take n l) ≡ n → ⊥) → take n l ≡ with_label (take n l) x
  unfolding with_label
  label-old q =
      let s = size in
      let old : is_in x (take n l) ≡ true = lt-ltb (index_of x (take n l)) (length (take n l)) (omega (arith, index_below x n l, q)) in
      sym (ap (λ b. pick b (take n l) (take (sheet_link_limit + 1) (take n l ++ (x ∷ [])))) old)

  pub seen-new : index_of x (take n l) ≡ n → n < sheet_link_limit + 1 → (b : List ℕ) (m : ℕ) → b ≡ set l n x → m ≡ n + 1 → Sees l n b m (x ∷ [])
  unfolding with_labels
  seen-new q k b m u v = record { labels = ap₂ take v u ∙ label-new q k; room = (omega arith, ap length u ∙ simp length-set e) }

  pub seen-full : index_of x (take n l) ≡ n → sheet_link_limit + 1 ≤ n → (b : List ℕ) (m : ℕ) → b ≡ l → m ≡ n → Sees l n b m (x ∷ [])
  unfolding with_labels
  seen-full q k b m u v = record { labels = ap₂ take v u ∙ label-full q k; room = (omega arith, ap length u ∙ e) }

  pub seen-old : (index_of x (take n l) ≡ n → ⊥) → (b : List ℕ) (m : ℕ) → b ≡ l → m ≡ n → Sees l n b m (x ∷ [])
  unfolding with_labels
  seen-old q b m u v = record { labels = ap₂ take v u ∙ label-old q; room = (omega arith, ap length u ∙ e) }

  pub seen-number : (b : List ℕ) (m r : ℕ) → Sees l n b m (x ∷ []) → r ≡ index_of x (take n l) → (later : List ℕ) → r + 1 ≡ number_in (with_labels (take m b) later) x
  unfolding with_labels
  seen-number b m r s q later =
      let z = size in
      add-one r ∙ ap suc (q ∙ sym (ap (λ (t : List ℕ). index_of x (with_labels t later)) s.labels ∙ label_kept (take n l) x (omega arith) later))

-- Labels seen one after the other.
pub sees-none : (known : List ℕ) (n : ℕ) → LabelTable known n → Sees known n known n []
unfolding with_labels
sees-none known n h = record { labels = refl; room = h }

pub sees-then : (a b c : List ℕ) (i j k : ℕ) (x y : List ℕ) → Sees a i b j x → Sees b j c k y → Sees a i c k (x ++ y)
sees-then a b c i j k x y s t = record { labels = t.labels ∙ ap (λ (l : List ℕ). with_labels l y) s.labels ∙ sym (labels_append (take i a) x y); room = t.room }

sees-later : (a b : List ℕ) (i j : ℕ) (x : List ℕ) → Sees a i b j x → (later : List ℕ) → with_labels (take i a) (x ++ later) ≡ with_labels (take j b) later
sees-later a b i j x s later = labels_append (take i a) x later ∙ sym (ap (λ (l : List ℕ). with_labels l later) s.labels)

-- A place more has the number of its label.
module _ (f : ℕ → ℕ) (l : List ℕ) (k : ℕ) (h : k < length l) (a b : List ℕ) (i j : ℕ) (s : Sees a i b j (f (get_or l k 0) ∷ [])) where
  pub places-next : (before : List ℕ) (n : ℕ) → Sees before n a i (map f (take k l)) → Sees before n b j (map f (take (k + 1) l))
  places-next before n t = subst (Sees before n b j) (mapped_next f l k 0 h) (sees-then before a b n i j (map f (take k l)) (f (get_or l k 0) ∷ []) t s)

  pub numbers-next : (room : ℕ) (numbered : List ℕ) (x : ℕ) → k < room → ((later : List ℕ) → x ≡ number_in (with_labels (take j b) later) (f (get_or l k 0)))
      → ((later : List ℕ) → numbered ≡ padded room 0 (map (λ p. number_in (with_labels (take i a) later) (f p)) (take k l)))
      → (later : List ℕ) → set numbered k x ≡ padded room 0 (map (λ p. number_in (with_labels (take j b) later) (f p)) (take (k + 1) l))
  numbers-next room numbered x q e inv later =
      let known = with_labels (take j b) later in
      let now : numbered ≡ padded room 0 (map (λ p. number_in known (f p)) (take k l))
      = inv (f (get_or l k 0) ∷ later) ∙ ap (λ (t : List ℕ). padded room 0 (map (λ p. number_in t (f p)) (take k l))) (sees-later a b i j (f (get_or l k 0) ∷ []) s later) in
      ap (set numbered k) (e later) ∙ stored_next room (λ p. number_in known (f p)) l numbered k now h q

-- The labels among an atom's links are those of its places.
pub links-taken : (labels : List ℕ) (count : ℕ) (links : List ℕ) → count ≤ length links → take count (labelled_links labels count links) ≡ labels_at labels count links
links-taken labels count links h = taken-padded most_links (labels_at labels count links) count (length-map (take count links) (λ x. get_or labels x 0) ∙ length-take-le count links h)

-- An atom more.
links-one : (l : List Atom) (a : Atom) → links_in l ++ take a.count a.links ≡ links_in (l ++ (a ∷ []))
unfolding links_in
links-one [] a = sym (append-nil (take a.count a.links))
links-one (b ∷ l) a = append_assoc (take b.count b.links) (links_in l) (take a.count a.links) ∙ ap (λ (r : List ℕ). take b.count b.links ++ r) (links-one l a)

module _ (labels : List ℕ) (l : List Atom) (k : ℕ) (d x : Atom) (h : k < length l) (q : x ≡ get_or l k d) (a b : List ℕ) (i j : ℕ) (s : Sees a i b j (take x.count (labelled_links labels x.count x.links))) where
  pub atoms-seen : (before : List ℕ) (n : ℕ) → Sees before n a i (links_in (map (labelled_atom labels) (take k l))) → Sees before n b j (links_in (map (labelled_atom labels) (take (k + 1) l)))
  atoms-seen before n t =
      let done = map (labelled_atom labels) (take k l) in
      let e : links_in done ++ take x.count (labelled_links labels x.count x.links) ≡ links_in (map (labelled_atom labels) (take (k + 1) l))
      = links-one done (labelled_atom labels x) ∙ ap (λ (y : Atom). links_in (done ++ (labelled_atom labels y ∷ []))) q ∙ ap links_in (mapped_next (labelled_atom labels) l k d h) in
      subst (Sees before n b j) e (sees-then before a b n i j (links_in done) (take x.count (labelled_links labels x.count x.links)) t s)

  pub atoms-numbered : (atoms : List Atom) (w : List ℕ) → ((later : List ℕ) → w ≡ numbered_links (with_labels (take j b) later) x.count (labelled_links labels x.count x.links))
      → ((later : List ℕ) → atoms ≡ mapped (numbered_at (with_labels (take i a) later) labels) k l)
      → (later : List ℕ) → set atoms k (record { name = x.name; count = x.count; links = w }) ≡ mapped (numbered_at (with_labels (take j b) later) labels) (k + 1) l
  atoms-numbered atoms w e inv later =
      let more = take x.count (labelled_links labels x.count x.links) in
      let f = numbered_at (with_labels (take j b) later) labels in
      let now : atoms ≡ mapped f k l = inv (more ++ later) ∙ ap (λ (t : List ℕ). mapped (numbered_at t labels) k l) (sees-later a b i j more s later) in
      ap (λ (t : List ℕ). set atoms k (record { name = x.name; count = x.count; links = t })) (e later)
      ∙ ap₂ (λ (t : List Atom) (y : Atom). set t k (f y)) now q ∙ sym (stored-mapped f d l k h)

-- Marks that are to be 1 to n.
pub marks-next : (marks : List ℕ) (n k : ℕ) → n ≤ length marks → k < n → (b : Bool) → eqb (get_or marks k 0) (k + 1) ≡ b
    → same_list (drop k (take n marks)) (numbers_from (k + 1) (n - k)) ≡ and b (same_list (drop (k + 1) (take n marks)) (numbers_from (k + 1 + 1) (n - (k + 1))))
marks-next marks n k a h b e =
    let q : n - k ≡ suc (n - (k + 1)) = omega arith in
    ap₂ (λ l m. same_list l (numbers_from (k + 1) m)) (part-cons marks n k 0 a h) q
    ∙ ap₂ (λ (t : Bool) (s : ℕ). and t (same_list (drop (k + 1) (take n marks)) (numbers_from s (n - (k + 1))))) e (let z : suc (k + 1) ≡ k + 1 + 1 = omega arith in z)

pub marks-end : (marks : List ℕ) (n k : ℕ) → n ≤ k → same_list (drop k (take n marks)) (numbers_from (k + 1) (n - k)) ≡ true
marks-end marks n k h = let q : n - k ≡ 0 = omega arith in ap₂ (λ l m. same_list l (numbers_from (k + 1) m)) (part_end marks n k h) q

list-sizes : (l m : List ℕ) → (length l ≡ length m → ⊥) → same_list l m ≡ false
list-sizes [] [] h = absurd (h refl)
list-sizes [] (y ∷ m) h = refl
list-sizes (x ∷ l) [] h = refl
list-sizes (x ∷ l) (y ∷ m) h = go (eqb x y) (list-sizes l m (λ e. h (ap suc e)))
  where
    go : (b : Bool) → same_list l m ≡ false → and b (same_list l m) ≡ false
    go true e = e
    go false e = refl

pub marks-other : (marks : List ℕ) (c n : ℕ) → c ≤ length marks → (c ≡ n → ⊥) → same_list (take c marks) (numbers_to n) ≡ false
marks-other marks c n h k = list-sizes (take c marks) (numbers_to n) (λ e. k (sym (length-take-le c marks h) ∙ e ∙ numbers-length 1 n))

-- Fillings of which it is noted that their marks are exact: none, and one more.
pub exacts-none : (list : List ℕ) (c : ℕ) → Exacts list (replicate c 0)
exacts-none list c number n e = absurd (omega (arith, e, get_d-filled {A = ℕ} 0 c number))

stored : (l : List ℕ) (i k x : ℕ) → (get_or (set l i x) k 0 ≡ get_or l k 0) ⊎ ((k ≡ i) × (get_or (set l i x) k 0 ≡ x))
stored [] i k x = inl refl
stored (y ∷ l) zero zero x = inr (refl, refl)
stored (y ∷ l) zero (suc k) x = inl refl
stored (y ∷ l) (suc i) zero x = inl refl
stored (y ∷ l) (suc i) (suc k) x = ⊎_elim (λ e. inl e) (λ e. inr (ap suc e.0, e.1)) (stored l i k x)

pub exacts-next : (list table : List ℕ) (number n : ℕ) → exact_to list number n ≡ true → Exacts list table → Exacts list (set table number (n + 1))
exacts-next list table number n t old k m e = ⊎_elim
    (λ q. old k m (sym q ∙ e))
    (λ q. let w : n ≡ m = omega (arith, q.1, e) in subst (λ (j : ℕ). exact_to list j m ≡ true) (sym q.0) (subst (λ (j : ℕ). exact_to list number j ≡ true) w t))
    (stored table number k (n + 1))
