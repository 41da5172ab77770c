-- A normal form without its atoms and with its contexts as sets, and a normal form of which these are.
use Rattle.std.specs.Prelude.{ℕ, zero, suc, ◌/◌, ◌%◌, ◌≡◌, List, [], ◌∷◌, map, eqb, length, get_or}
use Rattle.rows.specs.Pick.{pick}
use Rattle.rows.specs.Limits.{atom_room}
use Rattle.rows.specs.declared.Atom.{Atom}
use Rattle.rows.specs.declared.Context.{Context}
use Rattle.rows.specs.declared.Sheet.{Sheet as NormalForm}
use Rattle.candidates.specs.Laid.{laid_atom}
use Rattle.candidates.specs.Words.{word_digits, pair_digits, digit}
use Rattle.candidates.specs.PortSets.{ContextsIn}
use Rattle.candidates.specs.declared.ports.PortSet.{PortSet}
use Rattle.candidates.specs.declared.frame.Frame.{Frame}

abbrev pub frame_with : NormalForm → List PortSet → Frame
frame_with n sets = record { atom_count = n.atom_count; contexts = sets; context_count = n.context_count; marks = n.marks; marked = n.marked; mark_count = n.mark_count; class_count = n.class_count }

pub record FrameOf (net : NormalForm) (f : Frame) : Type 0 where
  pub sets : List PortSet
  pub is : f ≡ frame_with net sets
  pub contexts-in : ContextsIn net sets net.context_count net.class_count

-- n rows from row i
unfoldable pub laid_rows : List ℕ → ℕ → ℕ → List Atom
laid_rows l i zero = []
laid_rows l i (suc n) = laid_atom l i ∷ laid_rows l (suc i) n

-- the numbers from 1 of those in the set that are among the n from x on
unfoldable pub links_from : List ℕ → ℕ → ℕ → List ℕ
links_from pair x zero = []
links_from pair x (suc n) = pick (eqb (digit (get_or pair (x / word_digits) 0) (x % word_digits)) 1) (suc x ∷ links_from pair (suc x) n) (links_from pair (suc x) n)

-- a row with the links of a set in ascending order, as many as they are
abbrev pub row_of : PortSet → Context
row_of s = record { number = s.number; count = length (links_from s.links 0 pair_digits); links = links_from s.links 0 pair_digits; row = 0 }

-- with the atoms that are laid out, and a row for each context
abbrev pub whole : Frame → List ℕ → NormalForm
whole f l = record { atoms = laid_rows l 0 atom_room; atom_count = f.atom_count; contexts = map row_of f.contexts; context_count = f.context_count; marks = f.marks; marked = f.marked; mark_count = f.mark_count; class_count = f.class_count }
