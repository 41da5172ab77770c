-- Document 01, 'Rows' and 'Numbers': the table's ranges and limits, as what must hold of all that a text holds.
use Rattle.std.specs.Prelude.{ℕ, ◌<◌, ◌≤◌, ◌≡◌, List, [], ◌∷◌, length, get_or}
use Rattle.rows.specs.Pick.{pick}
use Rattle.rows.specs.Format.{most_links, most_name, most_number, most_context}
use Rattle.rows.specs.Limits.{row_limit, figure_contexts, sheet_marks}
use Rattle.rows.specs.Ranges.{Within}
use Rattle.rows.specs.Held.{Held}
use Rattle.rows.specs.declared.Atom.{Atom}
use Rattle.rows.specs.declared.Context.{Context}
use Rattle.linking.specs.Steps.{Wired}
use Rattle.sheet.specs.Kinds.{is_list, atom_limit, link_limit}
use Rattle.sheet.specs.declared.kind.Kind.{Kind}

-- Every element of a list is as P says.
abbrev pub Every {ℓ} : {A : Type ℓ} → (A → Type 0) → List A → Type 0
Every P [] = Unit {0}
Every P (x ∷ l) = P x × Every P l

-- The ranges of a link number and of a mark: 'joints are 1..9999', 'a mark 1..999'.
abbrev pub LinkRange : ℕ → Type 0
LinkRange x = Within 1 x most_number

abbrev pub MarkRange : ℕ → Type 0
MarkRange m = Within 1 m most_name

-- An array of links of which the first n are used: these are in range, the others 0.
pub record Ports (n : ℕ) (links : List ℕ) : Type 0 where
  pub width : length links ≡ most_links
  pub used : (k : ℕ) → k < n → LinkRange (get_or links k 0)
  pub unused : (k : ℕ) → n ≤ k → get_or links k 0 ≡ 0

-- '`S` symbol: name 1..999, joint count n 0..6, then n joints'
pub record AtomRange (a : Atom) : Type 0 where
  pub name : Within 1 a.name most_name
  pub count : a.count ≤ most_links
  pub ports : Ports a.count a.links

-- '`B` blank: number 1..4, port count n 0..6, then n joints'; in a list it is a head, and uses no links.
pub record ContextRange (kind : Kind) (c : Context) : Type 0 where
  pub number : Within 1 c.number most_context
  pub count : c.count ≤ most_links
  pub ports : Ports (pick (is_list kind) 0 c.count) c.links
  pub row : Within 1 c.row row_limit

-- '`F` one point: two joints, perhaps equal'
abbrev pub FusionRange : ℕ × ℕ → Type 0
FusionRange p = LinkRange p.0 × LinkRange p.1

-- '`E` edge: a joint, a mark 1..999'
abbrev pub EdgeRange : ℕ × ℕ → Type 0
EdgeRange p = LinkRange p.0 × MarkRange p.1

-- The table's ranges, for all that h holds.
pub record InRange (kind : Kind) (h : Held) : Type 0 where
  pub atoms : Every AtomRange h.atoms
  pub contexts : Every (ContextRange kind) h.contexts
  pub fusions : Every FusionRange h.fusions
  pub edges : Every EdgeRange h.edges
  pub links : Every LinkRange h.wiring.links
  pub marks : Every MarkRange h.wiring.marks

-- The limits of the kind, the ranges, and a class for each link and a link's place for each mark.
pub record WithinLimits (kind : Kind) (h : Held) : Type 0 where
  pub rows : h.rows ≤ row_limit
  pub atoms : length h.atoms ≤ atom_limit kind
  pub contexts : length h.contexts ≤ figure_contexts
  pub links : length h.wiring.links ≤ link_limit kind
  pub marks : length h.wiring.marks ≤ sheet_marks
  pub ranges : InRange kind h
  pub wired : Wired h.wiring
