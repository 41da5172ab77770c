-- What arrays hold: a list in order and zeros after it, a sheet without rows, and the table of ports.
use Rattle.std.specs.Prelude.{ℕ, suc, ◌+◌, ◌-◌, List, [], ◌∷◌, ◌++◌, map, eqb, length, replicate}
use Rattle.rows.specs.Pick.{pick}
use Rattle.rows.specs.Format.{most_links}
use Rattle.rows.specs.Limits.{atom_room, context_room, mark_room}
use Rattle.rows.specs.declared.Atom.{Atom}
use Rattle.rows.specs.declared.Context.{Context}
use Rattle.rows.specs.declared.Sheet.{Sheet}

unfoldable pub padded {ℓ} : {A : Type ℓ} → ℕ → A → List A → List A
padded n d l = l ++ replicate (n - length l) d

abbrev pub no_atom : Atom
no_atom = record { name = 0; count = 0; links = replicate most_links 0 }

abbrev pub no_context : Context
no_context = record { number = 0; count = 0; links = replicate most_links 0; row = 0 }

-- a sheet without rows
abbrev pub empty_sheet : Sheet
empty_sheet =
    record {
      atoms = replicate atom_room no_atom;
      atom_count = 0;
      contexts = replicate context_room no_context;
      context_count = 0;
      marks = replicate mark_room 0;
      marked = replicate mark_room 0;
      mark_count = 0;
      class_count = 0;
    }

-- the port count and 1 of the first context with this number, 0 where there is none
unfoldable pub ports_of : List Context → ℕ → ℕ
ports_of [] k = 0
ports_of (c ∷ l) k = pick (eqb c.number k) (suc c.count) (ports_of l k)

-- of 0, which is no context's number, and of the context numbers 1 to 4
abbrev pub port_table : List Context → List ℕ
port_table l = map (ports_of l) (0 ∷ 1 ∷ 2 ∷ 3 ∷ 4 ∷ [])
