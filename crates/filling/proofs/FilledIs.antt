-- What is promised of the arrays of a filled figure.
use Prim.Native.Nat.{ℕ, ◌<◌, ◌≤◌}
use mathlib.Core.Path.{◌≡◌, subst}
use mathlib.Core.Bool.{true}
use mathlib.Core.List.{List}
use native.Mathlib.Decide.{dec_le}
use native.Mathlib.Omega.{arith}
use lib.ListN.{length}
use Rattle.rows.specs.Limits.{sheet_atom_limit, sheet_link_limit, atom_room, context_room}
use Rattle.reading.specs.NormalSheet.{packed_normal}
use Rattle.rows.specs.declared.Sheet.{Sheet as Normal}
use Rattle.filling.specs.Read.{list_held}
use Rattle.filling.specs.Fill.{figure_held, first_lacking, first_differing, filled_by, is_too_large}
use Rattle.filling.specs.Glued.{Glues}
use Rattle.filling.specs.Classes.{Made}
use Rattle.filling.specs.Filled.{FilledIs}
use Rattle.filling.specs.Right.{Right}
use Rattle.filling.proofs.Answers.{right-fillings, large-atoms, large-classes, not-large, rows_written, rows-writable, net-is, fit_is}

module _ (normal : Normal) (list figure : List ℕ) (q : normal ≡ packed_normal (figure_held figure))
    (a : first_lacking (list_held list).contexts (figure_held figure).contexts ≡ 0) (b : first_differing list (list_held list).contexts ≡ 0)
    (r : Normal) (M : (l : List ℕ) × (Glues list normal l × Made list l normal r)) where
  right : Right figure list
  right = right-fillings figure list a b

  made : (l : List ℕ) × (Glues list (packed_normal (figure_held figure)) l × Made list l (packed_normal (figure_held figure)) r)
  made = subst (λ (n : Normal). (l : List ℕ) × (Glues list n l × Made list l n r)) q M

  wide : sheet_link_limit < r.class_count → Dec (r.atom_count ≤ sheet_atom_limit) → is_too_large (filled_by figure list) ≡ true
  wide h (yes few) = large-classes figure list right r made few h
  wide h (no k) = large-atoms figure list right r made (omega (arith, k))

  pub filled_is : length r.atoms ≡ atom_room → length r.contexts ≡ context_room → FilledIs figure list r
  filled_is atoms contexts =
      record {
        large-atoms = large-atoms figure list right r made;
        large-links = λ h. wide h (dec_le r.atom_count sheet_atom_limit);
        not-large = not-large figure list right r made;
        fit = λ few narrow. fit_is figure list right r made few narrow atoms contexts;
        net = net-is figure list right r made;
        rows = rows_written figure list right r made;
        writable = rows-writable figure list right r made;
      }
