-- What a reader hands back can be numbered, whatever the kind and the answer; the normal form of a sheet or a figure is then
-- that of what its text holds.
use Prim.Native.Nat.{ℕ, zero, suc, ◌+◌, ◌-◌, ◌≤◌}
use mathlib.Core.Path.{◌≡◌, ap}
use mathlib.Core.List.{List, [], ◌∷◌, ◌++◌}
use mathlib.Core.Bool.{false}
use native.Mathlib.Omega.{arith}
use lib.ListN.{length, get_or, replicate}
use Rattle.rows.specs.Format.{most_links}
use Rattle.rows.specs.Limits.{filling_links, atom_room, context_room, link_room}
use Rattle.rows.specs.Held.{Held}
use Rattle.rows.specs.Packed.{padded, no_atom, no_context, port_table}
use Rattle.rows.specs.TextArrays.{packed}
use Rattle.sheet.specs.Kinds.{is_list}
use Rattle.reading.specs.Graph.{graph_of}
use Rattle.reading.specs.Agrees.{Labels}
use Rattle.sheet.specs.Reading.{outcome_of}
use Rattle.numbering.specs.Numbering.{Numberable}
use Rattle.reading.specs.Made.{reading_of}
use Rattle.reading.specs.Readings.{sheet_read}
use Rattle.sheet.specs.declared.kind.Kind.{Kind}
use Rattle.sheet.specs.HeldLimits.{Every, AtomRange, ContextRange, WithinLimits}
use Rattle.rows.specs.declared.Sheet.{Sheet as Normal}
use Rattle.sheet.proofs.read.Every.{every_append}
use Rattle.sheet.proofs.read.HeldLimits.{held-within}
use Rattle.sheet.proofs.read.Room.{limits-most, zeros-below, within-room}
use Rattle.reading.proofs.normal.Connected.{labels-read, agrees-read}
use Rattle.reading.proofs.normal.NormalMade.{normal-made}

-- In an array every place is as P says where the list, its padding and what is read past the end are.
every_any : {A : Type 0} (P : A → Type 0) (d : A) (l : List A) → P d → Every P l → (i : ℕ) → P (get_or l i d)
every_any P d [] z p i = z
every_any P d (x ∷ l) z p zero = p.0
every_any P d (x ∷ l) z p (suc i) = every_any P d l z p.1 i

every-same : {A : Type 0} (P : A → Type 0) (n : ℕ) (e : A) → P e → Every P (replicate n e)
every-same P zero e p = tt
every-same P (suc n) e p = (p, every-same P n e p)

every-padded : {A : Type 0} (P : A → Type 0) (n : ℕ) (e d : A) (l : List A) → P e → P d → Every P l → (i : ℕ) → P (get_or (padded n e l) i d)
unfolding padded
every-padded P n e d l p q k i = every_any P d (l ++ replicate (n - length l) e) q (every_append P l (replicate (n - length l) e) k (every-same P (n - length l) e p)) i

every-imp : {A : Type 0} (P Q : A → Type 0) → ((a : A) → P a → Q a) → (l : List A) → Every P l → Every Q l
every-imp P Q f [] p = tt
every-imp P Q f (x ∷ l) p = (f x p.0, every-imp P Q f l p.1)

pub numberable-held : (kind : Kind) (h : Held) → WithinLimits kind h → Labels h.wiring (graph_of h).fusions → Numberable (packed h)
unfolding padded
numberable-held kind h w L =
    let most = limits-most kind in
    record {
      room = within-room kind h w;
      atom_links = every-padded (λ a. a.count ≤ most_links) atom_room no_atom (record { name = 0; count = 0; links = [] }) h.atoms (omega arith) (omega arith)
          (every-imp AtomRange (λ a. a.count ≤ most_links) (λ a r. r.count) h.atoms w.ranges.atoms);
      context_links = every-padded (λ c. c.count ≤ most_links) context_room no_context (record { number = 0; count = 0; links = []; row = 0 }) h.contexts (omega arith) (omega arith)
          (every-imp (ContextRange kind) (λ c. c.count ≤ most_links) (λ c r. r.count) h.contexts w.ranges.contexts);
      labels = zeros-below (link_room - length h.wiring.classes) filling_links h.wiring.classes (omega arith) (λ k l. omega (arith, L.below k (omega (arith, L.wired.classed))));
    }

pub numberable-read : (kind : Kind) (pattern text : List ℕ) → Numberable (packed (outcome_of kind pattern text).held)
numberable-read kind pattern text = numberable-held kind (outcome_of kind pattern text).held (held-within kind pattern text) (labels-read kind pattern text)

-- A sheet or a figure is handed back in its normal form.
pub sheet-read : (kind : Kind) (pattern text : List ℕ) → is_list kind ≡ false → reading_of kind (outcome_of kind pattern text) ≡ sheet_read (outcome_of kind pattern text)
sheet-read kind pattern text plain =
    rw plain (ap (λ (n : Normal). record { answer = (outcome_of kind pattern text).answer; normal = n; ports = port_table (outcome_of kind pattern text).held.contexts })
    (normal-made (outcome_of kind pattern text).held (agrees-read kind pattern text plain) (numberable-read kind pattern text)))
