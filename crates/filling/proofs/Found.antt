-- The filling of a blank is found in the list, and its marks are the blank's ports.
use Prim.Native.Nat.{ℕ, suc, ◌+◌}
use mathlib.Core.Path.{◌≡◌, refl, ap, sym, ◌∙◌, subst}
use mathlib.Core.Bool.{Bool, true, false}
use mathlib.Core.List.{List, [], ◌∷◌, map}
use mathlib.Core.Option.{some}
use native.Mathlib.Omega.{arith}
use borrow.Author.Tests.{eqb-true, eqb-false}
use lib.Dec.{eqb}
use lib.ListN.{length}
use Rattle.hyperlmntal.specs.Link.{select}
use Rattle.hyperlmntal.specs.GraphSubstitution.{Entry, same_functor, lookup}
use Rattle.hyperlmntal.specs.Hypergraph.{Flat}
use Rattle.rows.specs.Pick.{pick}
use Rattle.rows.specs.Limits.{mark_room}
use Rattle.rows.specs.Packed.{ports_of}
use Rattle.rows.specs.declared.Context.{Context}
use Rattle.rows.proofs.Padding.{take-padded}
use Rattle.reading.specs.Graph.{graph_of}
use Rattle.reading.specs.Normal.{marks_of}
use Rattle.sheet.specs.HeldLimits.{Every}
use Rattle.placing.specs.Fillings.{Filling, rows_graph}
use Rattle.placing.specs.Holding.{marks_from}
use Rattle.placing.specs.Filled.{flat_entry}
use Rattle.placing.specs.Smallest.{numbers_to, same_list}
use Rattle.placing.proofs.Names.{marks-length}
use Rattle.placing.proofs.Tests.{says-list}
use Rattle.filling.specs.Read.{rows_read, part_held, filling_read}
use Rattle.filling.specs.Fill.{is_exact}
use Rattle.filling.specs.Parts.{without_heads, exact_to}
use Rattle.filling.proofs.Rows.{read-graph}

module _ (list : List ℕ) where
  -- The filling for blanks of number x with n ports.
  abbrev pub filling_at : ℕ → ℕ → Filling
  filling_at x n = record { number = x; ports = n; rows = rows_read (part_held list x) }

  read_at : (d : Context) (x n : ℕ) → d.number ≡ x → d.count ≡ n → filling_read list d ≡ filling_at x n
  read_at d x n p q i = filling_at (p i) (q i)

  pub entry_found : (l : List Context) (x n : ℕ) → ports_of l x ≡ suc n → lookup x n (map flat_entry (map (filling_read list) l)) ≡ some (flat_entry (filling_at x n))
  unfolding ports_of
  entry_found [] x n e = absurd (omega arith)
  entry_found (d ∷ l) x n e = go (eqb d.number x) refl (same_functor x n (flat_entry (filling_read list d))) e (entry_found l x n)
    where
      rest : List (Entry (Flat ℕ))
      rest = map flat_entry (map (filling_read list) l)

      go : (b : Bool) → eqb d.number x ≡ b → (s : Dec ((x ≡ d.number) × (n ≡ length (marks_from 1 d.count)))) → pick b (suc d.count) (ports_of l x) ≡ suc n
          → (ports_of l x ≡ suc n → lookup x n (map flat_entry (map (filling_read list) l)) ≡ some (flat_entry (filling_at x n)))
          → select s (some (flat_entry (filling_read list d))) (lookup x n (map flat_entry (map (filling_read list) l))) ≡ some (flat_entry (filling_at x n))
      go true q (yes t) r ih = ap (λ f. some (flat_entry f)) (read_at d x n (eqb-true d.number x q) (omega arith))
      go true q (no k) r ih = absurd (k (sym (eqb-true d.number x q), (let z : n ≡ d.count = omega arith in z) ∙ sym (marks-length 1 d.count)))
      go false q (yes t) r ih = absurd (eqb-false d.number x q (sym t.0))
      go false q (no k) r ih = ih r

  pub head-exact : (l : List Context) (x n : ℕ) → ports_of l x ≡ suc n → Every (λ (c : Context). is_exact (filling_read list c) ≡ true) l → is_exact (filling_at x n) ≡ true
  unfolding ports_of
  head-exact [] x n e k = absurd (omega arith)
  head-exact (d ∷ l) x n e k = go (eqb d.number x) refl e (λ r. head-exact l x n r k.1)
    where
      go : (b : Bool) → eqb d.number x ≡ b → pick b (suc d.count) (ports_of l x) ≡ suc n → (ports_of l x ≡ suc n → is_exact (filling_at x n) ≡ true) → is_exact (filling_at x n) ≡ true
      go true q r ih = subst (λ f. is_exact f ≡ true) (read_at d x n (eqb-true d.number x q) (omega arith)) k.0
      go false q r ih = ih r

  -- Its marks, as what it holds has them.
  pub exact-numbers : (x n : ℕ) → is_exact (filling_at x n) ≡ true → marks_of (graph_of (without_heads (part_held list x))) ≡ numbers_to n
  exact-numbers x n t = ap marks_of (sym (read-graph (part_held list x))) ∙ (says-list (marks_of (rows_graph (rows_read (part_held list x)))) (numbers_to n)).sound t

  -- The test of the marks as the code makes it.
  pub exact-part : (x n : ℕ) → exact_to list x n ≡ is_exact (filling_at x n)
  exact-part x n =
      let h = without_heads (part_held list x) in
      ap (λ l. same_list l (numbers_to n)) (take-padded mark_room 0 (marks_of (graph_of h)) ∙ ap marks_of (sym (read-graph (part_held list x))))
