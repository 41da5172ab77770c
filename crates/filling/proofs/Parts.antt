-- A figure and the fillings of a list as normal forms: what they agree with, and the bounds of their numbers.
use Prim.Native.Nat.{ℕ, suc, ◌+◌, ◌-◌, ◌<◌, ◌≤◌, zero}
use mathlib.Core.Path.{◌≡◌, refl, ap, subst}
use mathlib.Core.Bool.{false}
use mathlib.Core.List.Memᴰ
use mathlib.Core.List.{List, [], ◌∷◌, ◌++◌, map}
use native.Mathlib.Omega.{arith}
use borrow.Author.Tests.{le-ltb}
use lib.Dec.{ltb}
use lib.ListN.{length, get_or, take, replicate}
use Rattle.hyperlmntal.specs.Link.{◌∈◌}
use Rattle.hyperlmntal.specs.Hypergraph.{Node, inner, port_nodes}
use Rattle.rows.specs.Format.{most_links, context_bound}
use Rattle.rows.specs.Limits.{atom_room, context_room, mark_room}
use Rattle.rows.specs.Held.{Held}
use Rattle.rows.specs.Packed.{padded, no_atom, no_context}
use Rattle.rows.specs.TextArrays.{packed}
use Rattle.rows.proofs.Padding.{length-padded}
use Rattle.reading.specs.Graph.{atom_cell, context_cell, graph_of}
use Rattle.reading.specs.Agrees.{Agrees}
use Rattle.reading.specs.Normal.{class_of, mark_node, marks_of, shown}
use Rattle.numbering.specs.Numbering.{Numberable}
use Rattle.reading.specs.NormalSheet.{number_in, normal_atom, normal_context, normal_marks, packed_normal}
use Rattle.normalising.specs.NormalRows.{past_atoms, past_contexts}
use Rattle.rows.specs.declared.Context.{Context}
use Rattle.rows.specs.declared.Sheet.{Sheet as Normal}
use Rattle.sheet.specs.Reading.{outcome_of, no_ports}
use Rattle.reading.specs.Made.{reading_of}
use Rattle.reading.specs.declared.read.Reading.{Reading}
use Rattle.sheet.specs.Filling.{filling_of, HeadsRead}
use Rattle.sheet.specs.declared.answer.Answer.TheVariants.{Passed}
use Rattle.sheet.specs.declared.kind.Kind.{Kind}
use Rattle.sheet.specs.declared.kind.Kind.TheVariants.{Figure, Fillings}
use Rattle.sheet.specs.HeldLimits.{AtomRange, ContextRange, WithinLimits}
use Rattle.sheet.proofs.read.Room.{limits-most}
use Rattle.sheet.proofs.read.HeldLimits.{held-within}
use Rattle.reading.proofs.normal.Connected.{agrees-read, ports-in}
use Rattle.reading.proofs.normal.NormalBounds.{number-range, text-links}
use Rattle.normalising.proofs.normal_text.NormalWritten.{links-known, few-marks}
use Rattle.reading.proofs.normal.NormalMade.{normal-made}
use Rattle.reading.proofs.normal.NormalReady.{numberable-held}
use Rattle.reading.proofs.part.ListRead.{heads-read}
use Rattle.texts.proofs.OneFilling.{filling-agrees}
use Rattle.texts.proofs.NormalFits.{every-member}
use Rattle.filling.specs.Read.{list_held, part_held}
use Rattle.filling.specs.Fill.{figure_held}
use Rattle.filling.specs.Parts.{without_heads, with_heads, part_normal, part_read, part_room, Counted, Headed, Low}
use Rattle.filling.proofs.Heads.{part-heads}

-- What a figure, a list and one filling hold is within the limits.
pub figure-within : (figure : List ℕ) → WithinLimits Figure (figure_held figure)
figure-within figure = held-within Figure no_ports figure

pub figure-agrees : (figure : List ℕ) → Agrees (figure_held figure)
figure-agrees figure = agrees-read Figure no_ports figure refl

pub list-within : (list : List ℕ) → WithinLimits Fillings (list_held list)
list-within list = held-within Fillings no_ports list

module _ (list : List ℕ) (number : ℕ) where
  pub part-agrees : Agrees (without_heads (part_held list number))
  part-agrees = filling-agrees no_ports (filling_of list number) (part-heads list number)

  pub part-within : WithinLimits Fillings (without_heads (part_held list number))
  part-within =
      let w = list-within (filling_of list number) in
      record {
        rows = w.rows;
        atoms = w.atoms;
        contexts = omega arith;
        links = w.links;
        marks = w.marks;
        ranges = record { atoms = w.ranges.atoms; contexts = tt; fusions = w.ranges.fusions; edges = w.ranges.edges; links = w.ranges.links; marks = w.ranges.marks };
        wired = w.wired;
      }

  pub part-numberable : Numberable (packed (without_heads (part_held list number)))
  part-numberable = numberable-held Fillings (without_heads (part_held list number)) part-within part-agrees.labels

-- An array as P says, at every place and past its end.
pub list_any : {A : Type 0} (P : A → Type 0) (d : A) (l : List A) → P d → ((a : A) → a ∈ l → P a) → (i : ℕ) → P (get_or l i d)
list_any P d [] z p i = z
list_any P d (x ∷ l) z p zero = p x (Memᴰ.head refl)
list_any P d (x ∷ l) z p (suc i) = list_any P d l z (λ a m. p a (Memᴰ.tail m)) i

same-any : {A : Type 0} (P : A → Type 0) (n : ℕ) (e d : A) → P e → P d → (i : ℕ) → P (get_or (replicate n e) i d)
same-any P zero e d p q i = q
same-any P (suc n) e d p q zero = p
same-any P (suc n) e d p q (suc i) = same-any P n e d p q i

append-any : {A : Type 0} (P : A → Type 0) (d : A) (l m : List A) → ((a : A) → a ∈ l → P a) → ((i : ℕ) → P (get_or m i d)) → (i : ℕ) → P (get_or (l ++ m) i d)
append-any P d [] m p q i = q i
append-any P d (x ∷ l) m p q zero = p x (Memᴰ.head refl)
append-any P d (x ∷ l) m p q (suc i) = append-any P d l m (λ a k. p a (Memᴰ.tail k)) q i

pub padded-any : {A : Type 0} (P : A → Type 0) (n : ℕ) (e d : A) (l : List A) → P e → P d → ((a : A) → a ∈ l → P a) → (i : ℕ) → P (get_or (padded n e l) i d)
unfolding padded
padded-any P n e d l p q f i = append-any P d l (replicate (n - length l) e) f (same-any P (n - length l) e d p q) i

map-all : {A B : Type 0} (P : B → Type 0) (f : A → B) (l : List A) → ((a : A) → a ∈ l → P (f a)) → (b : B) → b ∈ map f l → P b
map-all P f l h b i = let t = Memᴰ.of_map f l i in subst P t.2 (h t.0 t.1)

pub taken-map : {A B : Type 0} (f : A → B) (n : ℕ) (l : List A) → take n (map f l) ≡ map f (take n l)
taken-map f zero l = refl
taken-map f (suc n) [] = refl
taken-map f (suc n) (x ∷ l) = ap (◌∷◌ (f x)) (taken-map f n l)

-- The numbers of a normal form have room.
module _ (kind : Kind) (h : Held) (w : WithinLimits kind h) (A : Agrees h) where
  pub number-low : (x : Node ℕ) → x ∈ shown (graph_of h) → (1 ≤ number_in h x) × (number_in h x < part_room)
  number-low x i =
      let r = number-range (class_of (graph_of h).fusions) (graph_of h) x i in
      (r.0, omega (arith, r.1, text-links h (links-known kind h w A), w.links, (limits-most kind).1))

  links-low : (l : List ℕ) → ((x : ℕ) → x ∈ l → inner x ∈ port_nodes (graph_of h).atoms) → (k : ℕ) → get_or (padded most_links 0 (map (λ x. number_in h (inner x)) l)) k 0 < part_room
  links-low l p = padded-any (λ n. n < part_room) most_links 0 0 (map (λ x. number_in h (inner x)) l) (omega arith) (omega arith)
      (map-all (λ n. n < part_room) (λ x. number_in h (inner x)) l (λ x i. (number-low (inner x) (Memᴰ.append_left (map mark_node (marks_of (graph_of h))) (p x i))).1))

  zero-low : (k : ℕ) → get_or (replicate most_links 0) k 0 < part_room
  zero-low = same-any (λ n. n < part_room) most_links 0 0 (omega arith) (omega arith)

  pub normal-low : Low (packed_normal h)
  normal-low =
      record {
        atoms = omega (arith, w.atoms, (limits-most kind).0);
        contexts = w.contexts;
        marks = few-marks kind h w A;
        atom_counts = padded-any (λ a. a.count ≤ most_links) atom_room no_atom past_atoms (map (normal_atom h) h.atoms) (omega arith) (omega arith)
            (map-all (λ a. a.count ≤ most_links) (normal_atom h) h.atoms (λ a i. (every-member AtomRange h.atoms a w.ranges.atoms i).count));
        atom_links = padded-any (λ a. (k : ℕ) → get_or a.links k 0 < part_room) atom_room no_atom past_atoms (map (normal_atom h) h.atoms) zero-low (λ k. omega arith)
            (map-all (λ a. (k : ℕ) → get_or a.links k 0 < part_room) (normal_atom h) h.atoms
            (λ a i. links-low (take a.count a.links) (λ x j. ports-in (atom_cell a) (inner x) (Memᴰ.append_left (map context_cell h.contexts) (Memᴰ.map atom_cell i)) (Memᴰ.map inner j))));
        context_counts = padded-any (λ c. c.count ≤ most_links) context_room no_context past_contexts (map (normal_context h) h.contexts) (omega arith) (omega arith)
            (map-all (λ c. c.count ≤ most_links) (normal_context h) h.contexts (λ c i. (every-member (ContextRange kind) h.contexts c w.ranges.contexts i).count));
        context_numbers = padded-any (λ c. c.number < context_bound) context_room no_context past_contexts (map (normal_context h) h.contexts) (omega arith) (omega arith)
            (map-all (λ c. c.number < context_bound) (normal_context h) h.contexts (λ c i. let r = every-member (ContextRange kind) h.contexts c w.ranges.contexts i in omega (arith, r.number.1)));
        context_links = padded-any (λ c. (k : ℕ) → get_or c.links k 0 < part_room) context_room no_context past_contexts (map (normal_context h) h.contexts) zero-low (λ k. omega arith)
            (map-all (λ c. (k : ℕ) → get_or c.links k 0 < part_room) (normal_context h) h.contexts
            (λ c i. links-low (take c.count c.links) (λ x j. ports-in (context_cell c) (inner x) (Memᴰ.append_right (map atom_cell h.atoms) (Memᴰ.map context_cell i)) (Memᴰ.map inner j))));
        marked = padded-any (λ n. n < part_room) mark_room 0 0 (map (λ m. number_in h (mark_node m)) (normal_marks h)) (omega arith) (omega arith)
            (map-all (λ n. n < part_room) (λ m. number_in h (mark_node m)) (normal_marks h) (λ m i. (number-low (mark_node m) (Memᴰ.append_right (port_nodes (graph_of h).atoms) (Memᴰ.map mark_node i))).1));
      }

-- A normal form's contexts have the numbers and counts of the figure's.
pub low-counted : (n : Normal) → Low n → Counted n.contexts n.context_count
low-counted n l = record { few = l.contexts; number = l.context_numbers; count = l.context_counts }

pub counted : (kind : Kind) (h : Held) → WithinLimits kind h → Counted (packed h).contexts (packed h).context_count
counted kind h w =
    record {
      few = w.contexts;
      number = padded-any (λ c. c.number < context_bound) context_room no_context past_contexts h.contexts (omega arith) (omega arith) (λ c i. let r = every-member (ContextRange kind) h.contexts c w.ranges.contexts i in omega (arith, r.number.1));
      count = padded-any (λ c. c.count ≤ most_links) context_room no_context past_contexts h.contexts (omega arith) (omega arith) (λ c i. (every-member (ContextRange kind) h.contexts c w.ranges.contexts i).count);
    }

pub heads-counted : (list : List ℕ) (heads : List Context) (n : ℕ) → HeadsRead list heads n → Counted heads n
heads-counted list heads n r = rw (r.contexts, r.count) (counted Fillings (list_held list) (list-within list))

pub part_low : (list : List ℕ) (number : ℕ) → Low (part_normal list number)
part_low list number = normal-low Fillings (without_heads (part_held list number)) (part-within list number) (part-agrees list number)

-- What is read of it.
pub part-made : (list : List ℕ) (number : ℕ) → (reading_of Fillings (outcome_of Fillings no_ports (filling_of list number))).normal ≡ part_read list number
part-made list number = let h = part_held list number in
    let one : ltb 1 (length h.contexts) ≡ false = le-ltb 1 (length h.contexts) (part-heads list number) in
    rw one (ap (with_heads h) (normal-made (without_heads h) (part-agrees list number) (part-numberable list number)))

-- The H rows of a list that was read and passed.
pub headed-read : (list : List ℕ) (r : Reading) → r ≡ reading_of Fillings (outcome_of Fillings no_ports list) → r.answer ≡ Passed → Headed r.normal.contexts r.normal.context_count r.ports list
headed-read list r e p = record { read = heads-read list r e p; ports = ap (λ (x : Reading). x.ports) e }

pub part-marks : (list : List ℕ) (number : ℕ) → length (part_normal list number).marks ≡ mark_room
part-marks list number = length-padded mark_room 0 (normal_marks (without_heads (part_held list number))) (omega (arith, (part_low list number).marks))
