-- What filling answers and writes, in each of its cases.
use Prim.Native.Nat.{ℕ, suc, ◌+◌, ◌*◌, ◌<◌, ◌≤◌}
use mathlib.Core.Path.{◌≡◌, refl, ap, ap₂, sym, ◌∙◌, subst}
use mathlib.Core.Bool.{Bool, true, false}
use mathlib.Core.List.{List, [], ◌∷◌, map}
use native.Mathlib.Omega.{arith}
use borrow.Author.Tests.{lt-ltb, le-ltb}
use lib.Dec.{eqb, ltb}
use lib.ListN.{length, get_or, take, length-map, length-take}
use Rattle.rows.specs.Pick.{pick, or}
use Rattle.rows.specs.Format.{row_width}
use Rattle.rows.specs.Limits.{sheet_atom_limit, sheet_link_limit, atom_room, context_room}
use Rattle.rows.specs.Held.{Held}
use Rattle.rows.specs.Packed.{padded, no_context, port_table, ports_of}
use Rattle.rows.specs.TextArrays.{packed}
use Rattle.rows.specs.declared.Context.{Context}
use Rattle.rows.proofs.Padding.{take-padded}
use Rattle.rows.proofs.Ports.{table_at}
use Rattle.reading.specs.Graph.{graph_of}
use Rattle.reading.specs.NormalSheet.{normal_context, packed_normal}
use Rattle.normalising.specs.NormalText.{slip_length}
use Rattle.normalising.specs.NormalRows.{normal_rows, Writable}
use Rattle.sheet.specs.Reading.{outcome_of, no_ports}
use Rattle.rows.specs.declared.Sheet.{Sheet as Normal}
use Rattle.sheet.specs.declared.answer.Refusal.{Refusal}
use Rattle.sheet.specs.declared.answer.Answer.TheVariants.{Passed, Refused}
use Rattle.sheet.specs.declared.kind.Kind.{Kind}
use Rattle.sheet.specs.declared.kind.Kind.TheVariants.{Figure, Fillings}
use Rattle.sheet.specs.HeldLimits.{Every, ContextRange}
use Rattle.placing.specs.Net.{net_of}
use Rattle.placing.specs.Filled.{filled_normal}
use Rattle.network.specs.NetIn.{net_in, Fit}
use Rattle.texts.proofs.NormalFits.{every-member}
use Rattle.filling.specs.Read.{list_held, filling_read, fillings_read}
use Rattle.answers.specs.Done.{slip_after}
use Rattle.filling.specs.Fill.{figure_held, is_exact, first_lacking, first_differing, filled_by, filled_text, is_too_large, filled_answer, fill_answer, fill_slip}
use Rattle.filling.specs.Parts.{first_unported}
use Rattle.filling.specs.Glued.{Own, joined_all, all_pairs, Glues}
use Rattle.filling.specs.Classes.{Made}
use Rattle.answers.specs.declared.outcome.Done.{Done}
use Rattle.answers.specs.declared.outcome.Done.TheVariants as done
use Rattle.filling.proofs.Exact.{Rowed, none-lacking, exact-each}
use Rattle.filling.proofs.Parts.{figure-within, list-within}
use Rattle.filling.specs.Right.{Right}
use Rattle.filling.proofs.Labelled.{labels}
use Rattle.filling.proofs.Shown.{taken-contexts}
use Rattle.filling.proofs.Result.{classes, class-count}
use Rattle.filling.proofs.Written.{made_atoms, atom-count, labels-seen, rows_are, made-writable}
use Rattle.filling.proofs.FilledNet.{made-net, made-fit}

pub rowed : (kind : Kind) (l : List Context) → Every (ContextRange kind) l → Rowed l
rowed kind [] r = tt
rowed kind (c ∷ l) r = (r.0.row.0, rowed kind l r.1)

unported : (heads l : List Context) → Every (ContextRange Figure) l → first_unported (port_table heads) l ≡ first_lacking heads l
unfolding first_unported first_lacking
unported heads [] r = refl
unported heads (c ∷ l) r =
    ap₂ (λ (n m : ℕ). pick (eqb n (suc c.count)) m c.row) (table_at heads c.number (omega (arith, r.0.number.1))) (unported heads l r.1)

-- A normal form's contexts have their numbers, counts and rows.
unported-normal : (ports : List ℕ) (h : Held) (l : List Context) → first_unported ports (map (normal_context h) l) ≡ first_unported ports l
unfolding first_unported
unported-normal ports h [] = refl
unported-normal ports h (c ∷ l) = ap (λ (n : ℕ). pick (eqb (get_or ports c.number 0) (suc c.count)) n c.row) (unported-normal ports h l)

-- Refusals 8 and 9 as the code finds them.
module _ (figure list : List ℕ) where
  pub lacking-made : first_unported (packed (list_held list)).ports (take (packed_normal (figure_held figure)).context_count (packed_normal (figure_held figure)).contexts) ≡ first_lacking (list_held list).contexts (figure_held figure).contexts
  lacking-made =
      let h = figure_held figure in
      let l = map (normal_context h) h.contexts in
      ap (λ (n : ℕ). first_unported (port_table (list_held list).contexts) (take n (padded context_room no_context l))) (sym (length-map h.contexts (normal_context h)))
      ∙ ap (first_unported (port_table (list_held list).contexts)) (take-padded context_room no_context l)
      ∙ unported-normal (port_table (list_held list).contexts) h h.contexts
      ∙ unported (list_held list).contexts (figure_held figure).contexts (figure-within figure).ranges.contexts

  pub differing-made : first_differing list (take (packed (list_held list)).context_count (packed (list_held list)).contexts) ≡ first_differing list (list_held list).contexts
  differing-made = ap (first_differing list) (take-padded context_room no_context (list_held list).contexts)

  pub right-fillings : first_lacking (list_held list).contexts (figure_held figure).contexts ≡ 0 → first_differing list (list_held list).contexts ≡ 0 → Right figure list
  right-fillings a b =
      record {
        ported = λ c i. every-member (λ (d : Context). ports_of (list_held list).contexts d.number ≡ suc d.count) (figure_held figure).contexts c
            (none-lacking (list_held list).contexts (figure_held figure).contexts (rowed Figure (figure_held figure).contexts (figure-within figure).ranges.contexts) a) i;
        exact = λ c i. every-member (λ (d : Context). is_exact (filling_read list d) ≡ true) (list_held list).contexts c
            (exact-each list (list_held list).contexts (rowed Fillings (list_held list).contexts (list-within list).ranges.contexts) b) i;
      }

  above : (n : ℕ) → (n ≡ 0 → ⊥) → ltb 0 n ≡ true
  above n h = lt-ltb 0 n (omega (arith, h))

  none : (n : ℕ) → n ≡ 0 → ltb 0 n ≡ false
  none n e = le-ltb 0 n (omega arith)

  pub answer-lacking : (n : ℕ) → n ≡ first_lacking (list_held list).contexts (figure_held figure).contexts → (n ≡ 0 → ⊥) → done.BlankClash 1 n ≡ filled_answer figure list
  unfolding filled_answer
  answer-lacking n e h = rw (← e, above n h)

  pub answer-differing : first_lacking (list_held list).contexts (figure_held figure).contexts ≡ 0 → (n : ℕ) → n ≡ first_differing list (list_held list).contexts → (n ≡ 0 → ⊥) → done.EdgeDiffers 2 n ≡ filled_answer figure list
  unfolding filled_answer
  answer-differing z n e h = rw (none (first_lacking (list_held list).contexts (figure_held figure).contexts) z, ← e, above n h)

  module _ (a : first_lacking (list_held list).contexts (figure_held figure).contexts ≡ 0) (b : first_differing list (list_held list).contexts ≡ 0) where
    pub answer-large : is_too_large (filled_by figure list) ≡ true → done.TooLarge ≡ filled_answer figure list
    unfolding filled_answer
    answer-large t = rw (none (first_lacking (list_held list).contexts (figure_held figure).contexts) a, none (first_differing list (list_held list).contexts) b) (ap (λ t. pick t done.TooLarge (done.Written (length (filled_text figure list)))) (sym t))

    pub answer-written : is_too_large (filled_by figure list) ≡ false → done.Written (length (filled_text figure list)) ≡ filled_answer figure list
    unfolding filled_answer
    answer-written t = rw (none (first_lacking (list_held list).contexts (figure_held figure).contexts) a, none (first_differing list (list_held list).contexts) b) (ap (λ t. pick t done.TooLarge (done.Written (length (filled_text figure list)))) (sym t))

  -- The normal form that the code makes.
  module _ (right : Right figure list) (r : Normal) (made : (l : List ℕ) × (Glues list (packed_normal (figure_held figure)) l × Made list l (packed_normal (figure_held figure)) r)) where
    own : List ℕ
    own = made.1.0.0

    O : Own own
    unfolding own
    O = made.1.0.1

    is_made : Made list (labels figure list right own O) (packed_normal (figure_held figure)) r
    unfolding own O
    is_made =
        subst (λ l. Made list l (packed_normal (figure_held figure)) r)
        (made.1.0.2 ∙ ap (λ l. joined_all made.1.0.0 (all_pairs list 1 l)) (taken-contexts figure list right own O)) made.1.1

    atoms-size : r.atom_count ≡ length (take atom_room (made_atoms figure list right own O))
    atoms-size = is_made.atom_total

    large : (p q : ℕ) → length (filled_by figure list).atoms ≡ p → length (classes figure list right own O) ≡ q → is_too_large (filled_by figure list) ≡ or (ltb sheet_atom_limit p) (ltb sheet_link_limit q)
    large p q e f = ap₂ (λ (n m : ℕ). or (ltb sheet_atom_limit n) (ltb sheet_link_limit m)) e (class-count figure list right own O ∙ f)

    pub large-atoms : sheet_atom_limit < r.atom_count → is_too_large (filled_by figure list) ≡ true
    large-atoms h =
        let n = length (made_atoms figure list right own O) in
        let q : sheet_atom_limit < n = omega (arith, atoms-size, length-take atom_room (made_atoms figure list right own O)) in
        large n (length (classes figure list right own O)) (atom-count figure list right own O) refl ∙ ap (λ t. or t (ltb sheet_link_limit (length (classes figure list right own O)))) (lt-ltb sheet_atom_limit n q)

    module _ (few : r.atom_count ≤ sheet_atom_limit) where
      small : length (made_atoms figure list right own O) ≤ sheet_atom_limit
      small = omega (arith, atoms-size, length-take atom_room (made_atoms figure list right own O))

      classes-size : r.class_count ≡ length (take (sheet_link_limit + 1) (classes figure list right own O))
      classes-size = is_made.class_total ∙ ap length (labels-seen figure list right own O small)

      by-classes : (t : Bool) → ltb sheet_link_limit (length (classes figure list right own O)) ≡ t → is_too_large (filled_by figure list) ≡ t
      by-classes t e =
          large (length (made_atoms figure list right own O)) (length (classes figure list right own O)) (atom-count figure list right own O) refl
          ∙ ap₂ or (le-ltb sheet_atom_limit (length (made_atoms figure list right own O)) small) e

      pub large-classes : sheet_link_limit < r.class_count → is_too_large (filled_by figure list) ≡ true
      large-classes h = by-classes true (lt-ltb sheet_link_limit (length (classes figure list right own O)) (omega (arith, classes-size, length-take (sheet_link_limit + 1) (classes figure list right own O))))

      module _ (narrow : r.class_count ≤ sheet_link_limit) where
        thin : length (classes figure list right own O) ≤ sheet_link_limit
        thin = omega (arith, classes-size, length-take (sheet_link_limit + 1) (classes figure list right own O))

        pub not-large : is_too_large (filled_by figure list) ≡ false
        not-large = by-classes false (le-ltb sheet_link_limit (length (classes figure list right own O)) thin)

        pub rows_written : normal_rows r ≡ filled_text figure list
        rows_written = rows_are figure list right own O r is_made small thin

        pub rows-writable : Writable r × ((r.atom_count + r.context_count + r.mark_count) * row_width ≤ slip_length)
        rows-writable = made-writable figure list right own O r is_made small thin

        pub net-is : net_in r ≡ net_of (filled_normal (graph_of (figure_held figure)) (fillings_read list))
        net-is = made-net figure list right own O r is_made small thin

        pub fit_is : length r.atoms ≡ atom_room → length r.contexts ≡ context_room → Fit r
        fit_is = made-fit figure list right own O r is_made small thin

-- The whole call.
module _ (figure list slip : List ℕ) where
  pub fill-short : length slip < slip_length → (done.ShortSlip ≡ fill_answer figure list (length slip)) × (slip ≡ fill_slip figure list slip)
  unfolding fill_answer fill_slip
  fill-short h = (rw (lt-ltb (length slip) slip_length h), rw (lt-ltb (length slip) slip_length h))

  module _ (h : slip_length ≤ length slip) where
    pub fill-figure : (why : Refusal) (row : ℕ) → (outcome_of Figure no_ports figure).answer ≡ Refused why row → (done.Refused 1 why row ≡ fill_answer figure list (length slip)) × (slip ≡ fill_slip figure list slip)
    unfolding fill_answer fill_slip
    fill-figure why row e = (rw (le-ltb (length slip) slip_length h, e), rw (le-ltb (length slip) slip_length h, e))

    module _ (p : (outcome_of Figure no_ports figure).answer ≡ Passed) where
      pub fill-list : (why : Refusal) (row : ℕ) → (outcome_of Fillings no_ports list).answer ≡ Refused why row → (done.Refused 2 why row ≡ fill_answer figure list (length slip)) × (slip ≡ fill_slip figure list slip)
      unfolding fill_answer fill_slip
      fill-list why row e = (rw (le-ltb (length slip) slip_length h, p, e), rw (le-ltb (length slip) slip_length h, p, e))

      pub fill-passed : (outcome_of Fillings no_ports list).answer ≡ Passed → (d : Done) → d ≡ filled_answer figure list → (out : List ℕ) → out ≡ slip_after d (filled_text figure list) slip
          → (d ≡ fill_answer figure list (length slip)) × (out ≡ fill_slip figure list slip)
      unfolding fill_answer fill_slip
      fill-passed q d e out o = (
        rw (le-ltb (length slip) slip_length h, p, q) e,
        rw (le-ltb (length slip) slip_length h, p, q) (o ∙ ap (λ (x : Done). slip_after x (filled_text figure list) slip) e),
      )
