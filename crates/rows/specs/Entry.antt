-- What a row puts into the arrays of atoms, contexts and ports of a text.
use Rattle.std.specs.Prelude.{ℕ, ◌+◌, ◌<◌, ◌≤◌, ◌≡◌, List, Bool, eqb, get_or, set}
use Rattle.rows.specs.Pick.{pick, or}
use Rattle.rows.specs.Format.{most_links, context_bound, atom_letter, context_letter, head_letter, no_letter}
use Rattle.rows.specs.Held.{atom_of, context_of}
use Rattle.rows.specs.Packed.{no_atom, no_context}
use Rattle.rows.specs.declared.Atom.{Atom}
use Rattle.rows.specs.declared.Context.{Context}
use Rattle.rows.specs.declared.row.Row.{Row}

-- whether a row of this letter is a blank row or a head
abbrev pub is_context : ℕ → Bool
is_context letter = or (eqb letter context_letter) (eqb letter head_letter)

-- what a row puts behind the atoms and the contexts, and into the table of ports
abbrev pub atom_by : Row → Atom
atom_by r = pick (eqb r.letter atom_letter) (atom_of r.nums) no_atom

abbrev pub context_by : Row → ℕ → Context
context_by r at = pick (is_context r.letter) (context_of r.nums at) no_context

abbrev pub ports_with : List ℕ → ℕ → ℕ → List ℕ
ports_with ports number count = pick (eqb (get_or ports number 0) 0) (set ports number count) ports

abbrev pub ports_by : Row → List ℕ → List ℕ
ports_by r ports = pick (is_context r.letter) (ports_with ports (get_or r.nums 0 0) (get_or r.nums 1 0 + 1)) ports

-- a row with a letter, whose count and number are within the table's ranges, where its letter has them
pub record Ranged (r : Row) : Type 0 where
  pub known : r.letter < no_letter
  pub atom : r.letter ≡ atom_letter → get_or r.nums 1 0 ≤ most_links
  pub context : r.letter ≡ context_letter → (get_or r.nums 0 0 < context_bound) × (get_or r.nums 1 0 ≤ most_links)
  pub head : r.letter ≡ head_letter → (get_or r.nums 0 0 < context_bound) × (get_or r.nums 1 0 ≤ most_links)
