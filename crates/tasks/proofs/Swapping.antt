-- Swap, for texts that passed and a slip of the full length.
use Prim.Native.Nat.{ℕ, ◌≤◌, ◌<◌}
use mathlib.Core.Path.{◌≡◌, refl, ap, ap₂, sym, ◌∙◌, subst}
use mathlib.Core.Logic.{◌⊎◌, inl, inr, ◌↔◌}
use mathlib.Core.List.{List, ◌++◌}
use mathlib.Core.Bool.{Bool, true, false}
use mathlib.Core.Option.{Option, none, some}
use native.Mathlib.Omega.{arith}
use borrow.Author.Tests.{le-ltb}
use lib.ListN.{length, drop}
use Rattle.hyperlmntal.specs.Congruence.{◌≅◌}
use Rattle.hyperlmntal.specs.Hypergraph.{Flat}
use Rattle.hyperlmntal.specs.TermOf.{term_of}
use Rattle.rows.specs.Pick.{pick}
use Rattle.rows.specs.Limits.{sheet_atom_limit, sheet_link_limit}
use Rattle.rows.specs.Held.{Held}
use Rattle.rows.specs.Packed.{port_table}
use Rattle.reading.specs.Graph.{graph_of, term_of_text}
use Rattle.normalising.specs.NormalText.{text_of, slip_length}
use Rattle.sheet.specs.Reading.{Outcome, outcome_of, no_ports}
use Rattle.sheet.specs.declared.kind.Kind.TheVariants.{Figure, Replacement}
use Rattle.sheet.proofs.read.HeldLimits.{held-within}
use Rattle.reading.proofs.normal.Connected.{agrees-read}
use Rattle.placing.specs.Net.{net_of}
use Rattle.placing.specs.Fillings.{Filling}
use Rattle.placing.specs.Holding.{holding_term}
use Rattle.placing.specs.Filled.{filled_graph, filled_normal}
use Rattle.placing.specs.ListText.{list_text}
use Rattle.placing.specs.TextNets.{pattern_held}
use Rattle.placing.proofs.FilledText.{filled-text}
use Rattle.answers.specs.Done.{slip_after}
use Rattle.filling.specs.Read.{list_held}
use Rattle.filling.specs.Fill.{is_too_large, figure_held, first_lacking, filled_text, filled_answer, fill_answer, fill_slip}
use Rattle.answers.specs.declared.outcome.Done.TheVariants as done
use Rattle.filling.proofs.ResultNet.{Atoms, result-atoms}
use Rattle.filling.proofs.ReadAsFigure.{replacement-figure}
use Rattle.finding.specs.Place.{placed_fillings, placed_answer, place_answer}
use Rattle.claiming.proofs.FilledAtoms.{filled-atoms}
use Rattle.swapping.specs.Swap.{replacement_held, swapped_answer, swapped_text, swap_answer, swap_slip}
use Rattle.swapping.proofs.ReplacementBlanks.{replacement-covered}
use Rattle.tasks.specs.Passed.{SwapPassed}
use Rattle.tasks.specs.Demand.{place_written, HandsOut, OverLimits, swapped, Swaps}
use Rattle.tasks.proofs.Large.{too_large}
use Rattle.tasks.proofs.ResultText.{few-marks, result-passes, result-held}
use Rattle.tasks.proofs.Room.{text-room}
use Rattle.tasks.proofs.Places.{place-answer, handed-placed, handed-fits, handed-lacks, claim-passed, written-list}

module _ (sheet pattern replacement : List ℕ) (ok : SwapPassed sheet pattern replacement) where
  abbrev R : Held
  R = replacement_held pattern replacement

  swap_answer_lem : (n : ℕ) → slip_length ≤ n → swap_answer sheet pattern replacement n ≡ swapped_answer (graph_of R) (placed_fillings sheet pattern)
  unfolding swap_answer
  swap_answer_lem n full = rw (le-ltb n slip_length full, ok.placed.sheet-passes, ok.placed.pattern-passes, ok.replacement-passes, ok.same-marks)

  -- No placing exactly when place says so.
  pub swap-none : (n : ℕ) → slip_length ≤ n → (swap_answer sheet pattern replacement n ≡ done.NoPlacing) ↔ (place_answer sheet pattern n ≡ done.NoPlacing)
  swap-none n full =
      let a = swap_answer_lem n full in
      let b = place-answer sheet pattern ok.placed n full in
      let t = go (placed_fillings sheet pattern) in
      (λ e. b ∙ t.0 (sym a ∙ e), λ e. a ∙ t.1 (sym b ∙ e))
    where
      big : (b : Bool) (k : ℕ) → pick b done.TooLarge (done.Written k) ≡ done.NoPlacing → ⊥
      big true k e = let z : ◌≡◌ {A = ℕ} 0 1 = cc in omega arith
      big false k e = let z : ◌≡◌ {A = ℕ} 0 1 = cc in omega arith

      go : (o : Option (List Filling)) → (swapped_answer (graph_of R) o ≡ done.NoPlacing) ↔ (placed_answer o ≡ done.NoPlacing)
      go none = (λ e. refl, λ e. refl)
      go (some θ) = (λ e. absurd (big (is_too_large (filled_graph (graph_of R) θ)) (length (text_of (filled_normal (graph_of R) θ))) e), λ e. absurd (let z : ◌≡◌ {A = ℕ} 0 1 = cc in omega arith))

  -- 'swap in 0, 11 or 12'
  pub swap_ends : (n : ℕ) → slip_length ≤ n
      → ((bytes : ℕ) × (swap_answer sheet pattern replacement n ≡ done.Written bytes)) ⊎ ((swap_answer sheet pattern replacement n ≡ done.NoPlacing) ⊎ (swap_answer sheet pattern replacement n ≡ done.TooLarge))
  swap_ends n full = rw (swap_answer_lem n full) (go (placed_fillings sheet pattern))
    where
      size : (b : Bool) (k : ℕ) → ((bytes : ℕ) × (pick b done.TooLarge (done.Written k) ≡ done.Written bytes)) ⊎ ((pick b done.TooLarge (done.Written k) ≡ done.NoPlacing) ⊎ (pick b done.TooLarge (done.Written k) ≡ done.TooLarge))
      size true k = inr (inr refl)
      size false k = inl (k, refl)

      go : (o : Option (List Filling)) → ((bytes : ℕ) × (swapped_answer (graph_of R) o ≡ done.Written bytes)) ⊎ ((swapped_answer (graph_of R) o ≡ done.NoPlacing) ⊎ (swapped_answer (graph_of R) o ≡ done.TooLarge))
      go none = inr (inl refl)
      go (some θ) = size (is_too_large (filled_graph (graph_of R) θ)) (length (text_of (filled_normal (graph_of R) θ)))

  module _ (slip : List ℕ) (full : slip_length ≤ length slip) (θ : List Filling) (handed : HandsOut sheet pattern slip θ) where
    abbrev G : Flat ℕ
    G = filled_graph (graph_of R) θ

    pub swap-atoms : Atoms G.atoms
    swap-atoms = filled-atoms Replacement R θ (held-within Replacement (port_table (pattern_held pattern).contexts) replacement).ranges.contexts (replacement-covered pattern θ handed.turning.0 replacement)

    answer : swap_answer sheet pattern replacement (length slip) ≡ pick (is_too_large G) done.TooLarge (done.Written (length (text_of (swapped pattern replacement θ))))
    answer = swap_answer_lem (length slip) full ∙ ap (swapped_answer (graph_of R)) (handed-placed sheet pattern ok.placed slip θ handed)

    fits : ¬ OverLimits (swapped pattern replacement θ) → is_too_large G ≡ false
    fits few = go (is_too_large G) refl
      where
        go : (b : Bool) → is_too_large G ≡ b → is_too_large G ≡ false
        go true e = absurd (few ((too_large G swap-atoms).0 e))
        go false e = e

    written : ¬ OverLimits (swapped pattern replacement θ) → swap_answer sheet pattern replacement (length slip) ≡ done.Written (length (text_of (swapped pattern replacement θ)))
    written few = answer ∙ ap (λ b. pick b done.TooLarge (done.Written (length (text_of (swapped pattern replacement θ))))) (fits few)

    -- Too large exactly when the result is over the limits; else the normal text of the replacement holding the fillings.
    pub swap-writes : Swaps sheet pattern replacement slip θ
    unfolding swap_slip
    swap-writes =
        let t = too_large G swap-atoms in
        let f = handed-placed sheet pattern ok.placed slip θ handed in
        let within = held-within Replacement (port_table (pattern_held pattern).contexts) replacement in
        let agrees = agrees-read Replacement (port_table (pattern_held pattern).contexts) replacement refl in
        let list = handed-fits sheet pattern ok.placed slip θ handed in
        let exact = handed.turning.0.exact in
        let covered = replacement-covered pattern θ handed.turning.0 replacement in
        record {
          too_large = (λ e. t.0 (over (is_too_large G) (sym answer ∙ e)), λ o. answer ∙ ap (λ b. pick b done.TooLarge (done.Written (length (text_of (swapped pattern replacement θ))))) (t.1 o));
          answer = written;
          slip-after = λ few.
              ap (λ d. slip_after d (swapped_text (graph_of R) (placed_fillings sheet pattern)) slip) (written few)
              ∙ ap (λ o. swapped_text (graph_of R) o ++ drop (length (text_of (swapped pattern replacement θ))) slip) f;
          room = λ few. text-room G (omega (arith, few-atoms few, result-atoms G swap-atoms)) (few-marks Replacement R within agrees θ list exact covered);
          passes = λ few. result-passes Replacement R within agrees θ list exact covered (few-atoms few) (few-links few);
          same = λ few.
              subst (λ F. term_of F ≅ holding_term (term_of_text R) θ) (sym (result-held Replacement R within agrees θ list exact covered (few-atoms few) (few-links few))) (filled-text R θ exact);
        }
      where
        few-atoms : ¬ OverLimits (swapped pattern replacement θ) → length (net_of (swapped pattern replacement θ)).atoms ≤ sheet_atom_limit
        few-atoms few = let n : ¬ (sheet_atom_limit < length (net_of (swapped pattern replacement θ)).atoms) = λ h. few (inl h) in omega arith

        few-links : ¬ OverLimits (swapped pattern replacement θ) → (net_of (swapped pattern replacement θ)).links ≤ sheet_link_limit
        few-links few = let n : ¬ (sheet_link_limit < (net_of (swapped pattern replacement θ)).links) = λ h. few (inr h) in omega arith

        over : (b : Bool) → pick b done.TooLarge (done.Written (length (text_of (swapped pattern replacement θ)))) ≡ done.TooLarge → b ≡ true
        over true e = refl
        over false e = absurd (let z : ◌≡◌ {A = ℕ} 0 1 = cc in omega arith)

    figure : outcome_of Figure no_ports replacement ≡ outcome_of Replacement (port_table (pattern_held pattern).contexts) replacement
    figure = replacement-figure (port_table (pattern_held pattern).contexts) replacement ok.replacement-passes

    -- Swap is fill of the replacement from the list that place wrote.
    filled-list : fill_answer replacement (list_text θ) (length slip) ≡ swap_answer sheet pattern replacement (length slip)
    unfolding fill_answer filled_answer
    filled-list =
        let claim = claim-passed sheet pattern ok.placed slip θ handed in
        let lacking : first_lacking (list_held (list_text θ)).contexts (figure_held replacement).contexts ≡ 0 =
        ap (λ (o : Outcome). first_lacking (list_held (list_text θ)).contexts o.held.contexts) figure
        ∙ handed-lacks sheet pattern ok.placed slip θ handed R.contexts (replacement-covered pattern θ handed.turning.0 replacement) in
        rw (le-ltb (length slip) slip_length full, ap (λ (o : Outcome). o.answer) figure, ok.replacement-passes, claim.list-passes, lacking, claim.none-differing)
        (ap₂ (λ (h : Held) (η : List Filling). pick (is_too_large (filled_graph (graph_of h) η)) done.TooLarge (done.Written (length (text_of (filled_normal (graph_of h) η))))) (ap (λ (o : Outcome). o.held) figure) handed.read_back
        ∙ sym answer)

    pub swap-fill : (swap_answer sheet pattern replacement (length slip) ≡ fill_answer replacement (place_written sheet pattern slip) (length slip))
        × (swap_slip sheet pattern replacement slip ≡ fill_slip replacement (place_written sheet pattern slip) slip)
    unfolding swap_slip fill_slip
    swap-fill =
        let l = written-list sheet pattern ok.placed slip θ handed in
        let f = handed-placed sheet pattern ok.placed slip θ handed in
        let a : swap_answer sheet pattern replacement (length slip) ≡ fill_answer replacement (place_written sheet pattern slip) (length slip) = sym filled-list ∙ ap (λ t. fill_answer replacement t (length slip)) (sym l) in
        let t : filled_text replacement (place_written sheet pattern slip) ≡ text_of (swapped pattern replacement θ) =
        ap (filled_text replacement) l
        ∙ ap₂ (λ (h : Held) (η : List Filling). text_of (filled_normal (graph_of h) η)) (ap (λ (o : Outcome). o.held) figure) handed.read_back in
        (a, ap₂ (λ d k. slip_after d k slip) a (ap (swapped_text (graph_of R)) f ∙ sym t))
