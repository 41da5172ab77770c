-- What the code of swap finds on its way is what swapping answers and writes.
use Prim.Native.Nat.{ℕ, ◌+◌, ◌*◌, ◌<◌, ◌≤◌}
use mathlib.Core.Path.{◌≡◌, refl, ap, ap₂, sym, ◌∙◌, subst, subst₂}
use mathlib.Core.Bool.{Bool, true, false}
use mathlib.Core.List.{List, ◌++◌}
use native.Mathlib.Omega.{arith}
use borrow.Author.Tests.{lt-ltb, le-ltb}
use lib.ListN.{length, take, drop}
use Rattle.hyperlmntal.specs.Link.{◌∈◌}
use Rattle.rows.specs.Pick.{pick}
use Rattle.rows.specs.Format.{row_width}
use Rattle.rows.specs.Limits.{sheet_atom_limit, sheet_link_limit, sheet_marks, mark_room}
use Rattle.rows.specs.Held.{Held}
use Rattle.rows.specs.Packed.{port_table}
use Rattle.rows.proofs.Padding.{length-padded, take-padded}
use Rattle.sheet.specs.Filling.{is_passed}
use Rattle.reading.specs.Graph.{graph_of}
use Rattle.reading.specs.NormalSheet.{normal_marks, packed_normal}
use Rattle.normalising.specs.NormalText.{text_of, slip_length}
use Rattle.normalising.specs.NormalRows.{normal_rows, Writable}
use Rattle.sheet.specs.Reading.{Outcome, outcome_of, no_ports}
use Rattle.reading.specs.Readings.{sheet_read}
use Rattle.rows.specs.declared.Sheet as form
use Rattle.sheet.specs.declared.kind.Kind.TheVariants.{Plain, Pattern, Figure, Replacement}
use Rattle.sheet.specs.declared.answer.Refusal.{Refusal}
use Rattle.reading.specs.declared.read.Reading.{Reading}
use Rattle.sheet.specs.declared.answer.Answer.{Answer}
use Rattle.sheet.specs.declared.answer.Answer.TheVariants.{Passed, Refused}
use Rattle.placing.specs.Net.{NetCell, Net}
use Rattle.placing.specs.Placing.{Good}
use Rattle.placing.specs.Fillings.{Filling, Fits, normal_fillings_of}
use Rattle.placing.specs.Filled.{filled_graph, filled_normal}
use Rattle.placing.specs.ListText.{list_text}
use Rattle.placing.specs.Smallest.{smallest, same_list}
use Rattle.placing.specs.ListFits.{ListFits}
use Rattle.placing.specs.TextNets.{pattern_held, sheet_net, pattern_net}
use Rattle.placing.proofs.Chosen.{chosen-fillings}
use Rattle.placing.proofs.ListBack.{list-passes}
use Rattle.placing.proofs.PlacedText.{text-fits}
use Rattle.placing.proofs.SmallestLaws.{smallest-good}
use Rattle.network.specs.NetIn.{net_in}
use Rattle.network.proofs.NetRead.{fit-read}
use Rattle.matching.specs.Search.{placed_in}
use Rattle.matching.specs.declared.search.Found.{Found}
use Rattle.answers.specs.Done.{slip_after}
use Rattle.filling.specs.Read.{list_held, fillings_read}
use Rattle.filling.specs.Fill.{figure_held, first_lacking, first_differing, filled_by, filled_text, is_too_large}
use Rattle.answers.specs.declared.outcome.Done.{Done}
use Rattle.answers.specs.declared.outcome.Done.TheVariants as done
use Rattle.filling.specs.Filled.{FilledIs}
use Rattle.filling.proofs.Back.{placed-back}
use Rattle.filling.proofs.ReadAsFigure.{replacement-figure}
use Rattle.finding.specs.Place.{placed_fillings}
use Rattle.finding.proofs.PlaceCode.{sheet-is, pattern-is, inputs-ready, none_found, chosen, found_placing, found_fillings, some-found, found-text}
use Rattle.swapping.specs.Swap.{replacement_read, replacement_held, same_marks, swapped_answer, swapped_text, swap_answer, swap_slip}
use Rattle.swapping.specs.Inputs.{SwapInputs, swap_read, swap_text}
use Rattle.swapping.specs.Given.{GivenPart}
use Rattle.swapping.specs.FilledFrom.{FilledInputs, filled_done, PlacingSwaps}
use Rattle.swapping.proofs.ReplacementBlanks.{replacement-covered}
use Rattle.swapping.proofs.ListWhole.{written-lacks, written-exact}
use Rattle.swapping.proofs.GivenPart.{given-part}

-- A filled figure, where it is written or too large.
module _ (figure : form.Sheet) (list text : List ℕ) (I : FilledInputs figure list text) (r : form.Sheet)
    (M : (t : List ℕ) → figure ≡ packed_normal (figure_held t) → first_lacking (list_held list).contexts (figure_held t).contexts ≡ 0 → first_differing list (list_held list).contexts ≡ 0 → FilledIs t list r) where
  filled : FilledIs text list r
  filled = M text I.of-figure I.none-lacking I.none-differing

  sized : (b : Bool) → is_too_large (filled_by text list) ≡ b → pick b done.TooLarge (done.Written (length (filled_text text list))) ≡ filled_done text list
  sized b e = sym (ap (λ c. pick c done.TooLarge (done.Written (length (filled_text text list)))) e)

  pub done-many : sheet_atom_limit < r.atom_count → done.TooLarge ≡ filled_done text list
  done-many h = sized true (filled.large-atoms h)

  pub done-wide : sheet_link_limit < r.class_count → done.TooLarge ≡ filled_done text list
  done-wide h = sized true (filled.large-links h)

  module _ (few : r.atom_count ≤ sheet_atom_limit) (narrow : r.class_count ≤ sheet_link_limit) where
    pub done-writable : Writable r × ((r.atom_count + r.context_count + r.mark_count) * row_width ≤ slip_length)
    done-writable = filled.writable few narrow

    pub done-written : (n : ℕ) → n ≡ length (normal_rows r) → done.Written n ≡ filled_done text list
    done-written n e = ap done.Written (e ∙ ap length (filled.rows few narrow)) ∙ sized false (filled.not-large few narrow)

    pub done-slip : (n : ℕ) → n ≡ length (normal_rows r) → (slip : List ℕ) → normal_rows r ++ drop (length (normal_rows r)) slip ≡ filled_text text list ++ drop n slip
    done-slip n e slip = ap₂ (λ (t : List ℕ) (k : ℕ). t ++ drop k slip) (filled.rows few narrow) (sym e)

module _ (sheet pattern replacement : form.Sheet) (s p q : List ℕ) (I : SwapInputs sheet pattern replacement s p q) where
  abbrev ports : List ℕ
  ports = port_table (pattern_held p).contexts

  abbrev R : Held
  R = replacement_held p q

  -- The marks of the two figures.
  pub marks-room : (replacement.mark_count ≤ sheet_marks) × (pattern.mark_count ≤ sheet_marks) × (length replacement.marks ≡ mark_room) × (length pattern.marks ≡ mark_room)
  marks-room =
      let r = (fit-read Replacement ports q refl).mark-count in
      let f = (fit-read Pattern no_ports p refl).mark-count in (
        subst (λ (m : form.Sheet). m.mark_count ≤ sheet_marks) (sym I.of-replacement) r,
        subst (λ (m : form.Sheet). m.mark_count ≤ sheet_marks) (sym I.placed.of-pattern) f,
        subst (λ (m : form.Sheet). length m.marks ≡ mark_room) (sym I.of-replacement) (length-padded mark_room 0 (normal_marks R) (omega (arith, r))),
        subst (λ (m : form.Sheet). length m.marks ≡ mark_room) (sym I.placed.of-pattern) (length-padded mark_room 0 (normal_marks (pattern_held p)) (omega (arith, f))),
      )

  module _ (b : Bool) (B : b ≡ same_list (take replacement.mark_count replacement.marks) (take pattern.mark_count pattern.marks)) where
    marks-same : b ≡ same_marks R (pattern_held p)
    marks-same =
        B
        ∙ ap₂ (λ (x y : form.Sheet). same_list (take x.mark_count x.marks) (take y.mark_count y.marks)) I.of-replacement I.placed.of-pattern
        ∙ ap₂ same_list (take-padded mark_room 0 (normal_marks R)) (take-padded mark_room 0 (normal_marks (pattern_held p)))

    by-marks : (t : Bool) → b ≡ t → pick t (swapped_answer (graph_of R) (placed_fillings s p)) (done.EdgeDiffers 3 0) ≡ swap_read s p q
    by-marks t e = ap (λ c. pick c (swapped_answer (graph_of R) (placed_fillings s p)) (done.EdgeDiffers 3 0)) (sym e ∙ marks-same)

    pub marks-differ : b ≡ false → done.EdgeDiffers 3 0 ≡ swap_read s p q
    marks-differ e = by-marks false e

    -- What the search found.
    module _ (same : b ≡ true) (r : Found) (E : placed_in sheet pattern r ≡ smallest (net_in sheet) (net_in pattern)) where
      pub swap-nothing : r.ok ≡ false → done.NoPlacing ≡ swap_read s p q
      swap-nothing h = sym (ap (swapped_answer (graph_of R)) (none_found sheet pattern s p I.placed r E h)) ∙ by-marks true same

      module _ (h : r.ok ≡ true) where
        abbrev θ : List Filling
        θ = found_fillings sheet pattern s p I.placed r E h

        -- The fillings that are chosen fit, and are read back from their list.
        good : Good (sheet_net s) (pattern_net p) (found_placing sheet pattern s p I.placed r E)
        good = smallest-good (sheet_net s) (pattern_net p) (found_placing sheet pattern s p I.placed r E) (chosen sheet pattern s p I.placed r E h)

        fits : Fits (pattern_net p) θ
        fits =
            (chosen-fillings s p I.placed.passed.sheet-passes I.placed.passed.pattern-passes (found_placing sheet pattern s p I.placed r E)
            (chosen sheet pattern s p I.placed r E h)).1.0

        list-fits : ListFits θ
        list-fits = text-fits s p I.placed.passed.sheet-passes I.placed.passed.pattern-passes (found_placing sheet pattern s p I.placed r E) good

        read_back : fillings_read (list_text θ) ≡ θ
        read_back = placed-back s p I.placed.passed.sheet-passes I.placed.passed.pattern-passes (found_placing sheet pattern s p I.placed r E) good

        figure : outcome_of Figure no_ports q ≡ outcome_of Replacement ports q
        figure = replacement-figure ports q I.replacement-passes

        -- The replacement can be filled from the list.
        list-fills : FilledInputs replacement (list_text θ) q
        list-fills =
            record {
              of-figure = I.of-replacement ∙ ap (λ (x : Outcome). packed_normal x.held) (sym figure);
              passes = ap is_passed (list-passes θ list-fits);
              none-lacking = ap (λ (x : Outcome). first_lacking (list_held (list_text θ)).contexts x.held.contexts) figure
                  ∙ written-lacks θ list-fits read_back fits.one fits.exact R.contexts (replacement-covered p θ fits q);
              none-differing = written-exact θ list-fits read_back fits.one fits.exact;
            }

        swap-done : filled_done q (list_text θ) ≡ swap_read s p q
        swap-done =
            ap₂ (λ (x : Held) (η : List Filling). pick (is_too_large (filled_graph (graph_of x) η)) done.TooLarge (done.Written (length (text_of (filled_normal (graph_of x) η))))) (ap (λ (x : Outcome). x.held) figure) read_back
            ∙ sym (ap (swapped_answer (graph_of R)) (some-found sheet pattern s p I.placed r E h))
            ∙ by-marks true same

        swap-text : filled_text q (list_text θ) ≡ swap_text s p q
        swap-text =
            ap₂ (λ (x : Held) (η : List Filling). text_of (filled_normal (graph_of x) η)) (ap (λ (x : Outcome). x.held) figure) read_back
            ∙ sym (ap (swapped_text (graph_of R)) (some-found sheet pattern s p I.placed r E h))

        -- The list holds what the placing gives to each blank.
        parts-given : length r.given ≡ sheet_atom_limit → (c : NetCell) → c ∈ (net_in pattern).contexts → GivenPart sheet r.links_to r.given (list_text θ) c
        parts-given room c i =
            let atoms = take pattern.atom_count r.atoms_to in
            let there = subst₂ (λ (S F : Net). ListFits (normal_fillings_of S (found_placing sheet pattern s p I.placed r E) F)) (sym (sheet-is sheet pattern s p I.placed)) (sym (pattern-is sheet pattern s p I.placed)) list-fits in
            subst (λ t. GivenPart sheet r.links_to r.given t c) (found-text sheet pattern s p I.placed r E h)
            (given-part sheet pattern (inputs-ready sheet pattern s p I.placed) atoms r.links_to r.given room there c i)

        pub swap-placing : length r.given ≡ sheet_atom_limit → PlacingSwaps sheet pattern replacement r.links_to r.given s p q
        swap-placing room = record { list = list_text θ; fills = list-fills; answer = swap-done; text = swap-text; parts = parts-given room }

-- The texts as they were read.
pub record TextsRead (S P T : Reading) (sheet pattern replacement : List ℕ) : Type 0 where
  pub first-answer : (t : Answer) → S.answer ≡ t → (outcome_of Plain no_ports sheet).answer ≡ t
  pub second-answer : (t : Answer) → P.answer ≡ t → (outcome_of Pattern no_ports pattern).answer ≡ t
  pub third-answer : (t : Answer) → T.answer ≡ t → (replacement_read pattern replacement).answer ≡ t
  pub inputs : S.answer ≡ Passed → P.answer ≡ Passed → T.answer ≡ Passed → SwapInputs S.normal P.normal T.normal sheet pattern replacement

module _ (S P T : Reading) (sheet pattern replacement : List ℕ)
    (x : S ≡ sheet_read (outcome_of Plain no_ports sheet)) (y : P ≡ sheet_read (outcome_of Pattern no_ports pattern)) (z : T ≡ sheet_read (outcome_of Replacement P.ports replacement)) where
  third : T ≡ sheet_read (replacement_read pattern replacement)
  third = z ∙ ap (λ (r : Reading). sheet_read (outcome_of Replacement r.ports replacement)) y

  pub texts-read : TextsRead S P T sheet pattern replacement
  texts-read =
      record {
        first-answer = λ t e. sym (ap (λ (r : Reading). r.answer) x) ∙ e;
        second-answer = λ t e. sym (ap (λ (r : Reading). r.answer) y) ∙ e;
        third-answer = λ t e. sym (ap (λ (r : Reading). r.answer) third) ∙ e;
        inputs = λ a b c.
            record {
              placed = record {
                passed = record { sheet-passes = sym (ap (λ (r : Reading). r.answer) x) ∙ a; pattern-passes = sym (ap (λ (r : Reading). r.answer) y) ∙ b };
                of-sheet = ap (λ (r : Reading). r.normal) x;
                of-pattern = ap (λ (r : Reading). r.normal) y;
              };
              replacement-passes = sym (ap (λ (r : Reading). r.answer) third) ∙ c;
              of-replacement = ap (λ (r : Reading). r.normal) third;
            };
      }

-- The whole call.
module _ (sheet pattern replacement slip : List ℕ) where
  pub swap-short : length slip < slip_length → (done.ShortSlip ≡ swap_answer sheet pattern replacement (length slip)) × (slip ≡ swap_slip sheet pattern replacement slip)
  unfolding swap_answer swap_slip
  swap-short h = (rw (lt-ltb (length slip) slip_length h), rw (lt-ltb (length slip) slip_length h))

  module _ (h : slip_length ≤ length slip) where
    pub swap-first : (why : Refusal) (row : ℕ) → (outcome_of Plain no_ports sheet).answer ≡ Refused why row → (done.Refused 1 why row ≡ swap_answer sheet pattern replacement (length slip)) × (slip ≡ swap_slip sheet pattern replacement slip)
    unfolding swap_answer swap_slip
    swap-first why row e = (rw (le-ltb (length slip) slip_length h, e), rw (le-ltb (length slip) slip_length h, e))

    module _ (a : (outcome_of Plain no_ports sheet).answer ≡ Passed) where
      pub swap-second : (why : Refusal) (row : ℕ) → (outcome_of Pattern no_ports pattern).answer ≡ Refused why row → (done.Refused 2 why row ≡ swap_answer sheet pattern replacement (length slip)) × (slip ≡ swap_slip sheet pattern replacement slip)
      unfolding swap_answer swap_slip
      swap-second why row e = (rw (le-ltb (length slip) slip_length h, a, e), rw (le-ltb (length slip) slip_length h, a, e))

      module _ (b : (outcome_of Pattern no_ports pattern).answer ≡ Passed) where
        pub swap-third : (why : Refusal) (row : ℕ) → (replacement_read pattern replacement).answer ≡ Refused why row → (done.Refused 3 why row ≡ swap_answer sheet pattern replacement (length slip)) × (slip ≡ swap_slip sheet pattern replacement slip)
        unfolding swap_answer swap_slip
        swap-third why row e = (rw (le-ltb (length slip) slip_length h, a, b, e), rw (le-ltb (length slip) slip_length h, a, b, e))

        pub swap-all : (replacement_read pattern replacement).answer ≡ Passed → (d : Done) → d ≡ swap_read sheet pattern replacement → (out : List ℕ) → out ≡ slip_after d (swap_text sheet pattern replacement) slip
            → (d ≡ swap_answer sheet pattern replacement (length slip)) × (out ≡ swap_slip sheet pattern replacement slip)
        unfolding swap_answer swap_slip
        swap-all c d e out o = (
          rw (le-ltb (length slip) slip_length h, a, b, c) e,
          rw (le-ltb (length slip) slip_length h, a, b, c) (o ∙ ap (λ (x : Done). slip_after x (swap_text sheet pattern replacement) slip) e),
        )
