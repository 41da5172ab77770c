-- What a row makes of the arrays of atoms, contexts and ports: behind the list stands one more, or the padding anew.
use Prim.Native.Nat.{ℕ, ◌+◌, ◌<◌, ◌≤◌}
use mathlib.Core.Path.{◌≡◌, refl}
use mathlib.Core.List.{List, [], ◌∷◌, ◌++◌}
use mathlib.Core.Bool.{Bool, true, false}
use native.Mathlib.Omega.{arith}
use lib.Dec.{eqb}
use lib.ListN.{length, get_or, set, length-append}
use borrow.Author.Tests.{eqb-true, eqb-false}
use Rattle.rows.specs.Pick.{pick, or}
use Rattle.rows.specs.Format.{most_links, context_bound, context_letter, head_letter}
use Rattle.rows.specs.Packed.{padded, ports_of, port_table}
use Rattle.rows.specs.Entry.{Ranged, is_context, ports_with}
use Rattle.rows.specs.declared.Context.{Context}
use Rattle.rows.specs.declared.row.Row.{Row}
use Rattle.rows.proofs.Padding.{set-padded, set-padding}
use Rattle.rows.proofs.Ports.{table_at, table-first, table-again}

module _ {A : Type 0} (l : List A) (a : A) where
  -- the list with one more, or as it was
  abbrev pub grown : Bool → List A
  grown b = pick b (l ++ (a ∷ [])) l

  pub grown-stored : (n : ℕ) (d : A) (b : Bool) → length l < n → set (padded n d l) (length l) (pick b a d) ≡ padded n d (grown b)
  grown-stored n d true h = set-padded n d l a (length l) refl h
  grown-stored n d false h = set-padding n d l

  pub grown-count : (b : Bool) → length l + pick b 1 0 ≡ length (grown b)
  grown-count true = rw length-append
  grown-count false = omega arith

-- a blank row or a head has a context's number and port count
pub context-ranged : (r : Row) → Ranged r → is_context r.letter ≡ true → (get_or r.nums 0 0 < context_bound) × (get_or r.nums 1 0 ≤ most_links)
context-ranged r ranged = go (eqb r.letter context_letter) refl
  where
    go : (b : Bool) → eqb r.letter context_letter ≡ b → or b (eqb r.letter head_letter) ≡ true → (get_or r.nums 0 0 < context_bound) × (get_or r.nums 1 0 ≤ most_links)
    go true p t = ranged.context (eqb-true _ _ p)
    go false p t = ranged.head (eqb-true _ _ t)

-- the table after a context, by whether its number had ports
table-with : (l : List Context) (c : Context) → c.number < context_bound → ports_with (port_table l) c.number (c.count + 1) ≡ port_table (l ++ (c ∷ []))
table-with l c small = rw (table_at l c.number small) (go (eqb (ports_of l c.number) 0) refl)
  where
    go : (t : Bool) → eqb (ports_of l c.number) 0 ≡ t → pick t (set (port_table l) c.number (c.count + 1)) (port_table l) ≡ port_table (l ++ (c ∷ []))
    go true e = table-first l c small (eqb-true _ _ e)
    go false e = table-again l c (eqb-false _ _ e)

pub grown-table : (l : List Context) (c : Context) (b : Bool) → (b ≡ true → c.number < context_bound) → pick b (ports_with (port_table l) c.number (c.count + 1)) (port_table l) ≡ port_table (grown l c b)
grown-table l c true small = table-with l c (small refl)
grown-table l c false small = refl
