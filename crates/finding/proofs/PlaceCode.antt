-- What the code of place finds on its way is what placing answers and writes.
use Prim.Native.Nat.{ℕ, suc, ◌-◌, ◌<◌, ◌≤◌}
use mathlib.Core.Path.{◌≡◌, refl, ap, ap₂, sym, ◌∙◌, subst}
use mathlib.Core.Bool.{true, false}
use mathlib.Core.List.{List, ◌++◌}
use mathlib.Core.Option.{none, some}
use native.Mathlib.Omega.{arith}
use borrow.Author.Tests.{lt-ltb, le-ltb}
use lib.ListN.{length, take, drop, get_or}
use lib.Seq.{get_or-take}
use Rattle.rows.specs.Pick.{pick}
use Rattle.rows.specs.Limits.{sheet_link_limit}
use Rattle.normalising.specs.NormalText.{slip_length}
use Rattle.sheet.specs.Reading.{outcome_of, no_ports}
use Rattle.rows.specs.declared.Sheet as form
use Rattle.sheet.specs.declared.kind.Kind.TheVariants.{Plain, Pattern}
use Rattle.sheet.specs.declared.answer.Refusal.{Refusal}
use Rattle.sheet.specs.declared.answer.Answer.TheVariants.{Passed, Refused}
use Rattle.sheet.proofs.read.HeldLimits.{held-within}
use Rattle.normalising.proofs.normal_text.NormalWritten.{atom-at, context-at, atom-range, context-range}
use Rattle.placing.specs.Net.{Net, Range, Apart}
use Rattle.placing.specs.Placing.{Placing, Good}
use Rattle.placing.specs.Fillings.{Filling, normal_fillings_of}
use Rattle.placing.specs.ListText.{list_text}
use Rattle.placing.specs.Smallest.{smallest}
use Rattle.placing.specs.TextNets.{sheet_held, pattern_held, sheet_net, pattern_net}
use Rattle.placing.proofs.Theorems.{pattern-net}
use Rattle.placing.proofs.SmallestLaws.{smallest-good}
use Rattle.network.specs.NetIn.{net_in}
use Rattle.network.specs.Ready.{Ready, LinksIn}
use Rattle.network.proofs.NetRead.{net-read, fit-read, narrow-read, normal-read}
use Rattle.matching.specs.Search.{placed_in}
use Rattle.matching.specs.declared.search.Found.{Found}
use Rattle.listing.specs.Writing.{Columns, fillings_text}
use Rattle.answers.specs.Done.{slip_after}
use Rattle.answers.specs.declared.outcome.Done.{Done}
use Rattle.answers.specs.declared.outcome.Done.TheVariants as done
use Rattle.finding.specs.Place.{fillings_in, placed_fillings, placed_answer, placed_text, place_answer, place_slip}
use Rattle.finding.specs.Inputs.{PlaceInputs}

module _ (sheet pattern : form.Sheet) (s p : List ℕ) (I : PlaceInputs sheet pattern s p) where
  -- The nets that were read.
  pub sheet-is : net_in sheet ≡ sheet_net s
  sheet-is = ap net_in I.of-sheet ∙ net-read Plain no_ports s

  pub pattern-is : net_in pattern ≡ pattern_net p
  pattern-is = ap net_in I.of-pattern ∙ net-read Pattern no_ports p

  -- A search can begin.
  pub inputs-ready : Ready sheet pattern
  inputs-ready =
      rw (I.of-sheet, I.of-pattern)
      (record { sheet-fit = fit-read Plain no_ports s refl; figure-fit = fit-read Pattern no_ports p refl; sheet-normal = normal-read Plain no_ports s; figure-normal = normal-read Pattern no_ports p })

  -- Fillings can be written.
  pub inputs_apart : Apart (net_in pattern).contexts
  inputs_apart = subst (λ (N : Net). Apart N.contexts) (sym pattern-is) (pattern-net p I.passed.pattern-passes).different

  pub inputs-columns : Columns sheet pattern
  inputs-columns =
      rw (I.of-sheet, I.of-pattern)
      (record {
        names = λ i h. rw (atom-at (sheet_held s) i h) (let r = (atom-range Plain (sheet_held s) (held-within Plain no_ports s) i h).name in omega (arith, r.1));
        numbers = λ i h. rw (context-at (pattern_held p) i h) (let r = (context-range Pattern (pattern_held p) (held-within Pattern no_ports p) i h).number in omega (arith, r.1));
        ports = narrow-read Pattern no_ports p refl;
      })

  -- What the search found.
  module _ (r : Found) (E : placed_in sheet pattern r ≡ smallest (net_in sheet) (net_in pattern)) where
    in-texts : placed_in sheet pattern r ≡ smallest (sheet_net s) (pattern_net p)
    in-texts = E ∙ ap₂ smallest sheet-is pattern-is

    abbrev pub found_placing : Placing
    found_placing = record { atoms_to = take pattern.atom_count r.atoms_to; links_to = take pattern.class_count r.links_to; given = take sheet.atom_count r.given }

    pub none_found : r.ok ≡ false → placed_fillings s p ≡ none
    unfolding placed_fillings
    none_found h = ap (fillings_in (sheet_net s) (pattern_net p)) (sym in-texts ∙ ap (λ b. pick b (some found_placing) none) h)

    pub none-answer : r.ok ≡ false → done.NoPlacing ≡ placed_answer (placed_fillings s p)
    none-answer h = sym (ap placed_answer (none_found h))

    module _ (h : r.ok ≡ true) where
      pub chosen : smallest (sheet_net s) (pattern_net p) ≡ some found_placing
      chosen = sym in-texts ∙ ap (λ b. pick b (some found_placing) none) h

      good : Good (net_in sheet) (net_in pattern) found_placing
      good = smallest-good (net_in sheet) (net_in pattern) found_placing (sym E ∙ ap (λ b. pick b (some found_placing) none) h)

      pub found-links : length r.links_to ≡ sheet_link_limit → LinksIn sheet pattern r.links_to
      found-links room =
          record {
            room = room;
            within = λ x k.
                let q : suc x - 1 ≡ x = omega arith in
                subst (Range (suc sheet.class_count)) (ap (λ i. get_or (take pattern.class_count r.links_to) i 0) q ∙ get_or-take pattern.class_count r.links_to x 0 k)
                (good.sending.to-links (suc x) (omega arith, omega arith));
          }

      abbrev pub found_fillings : List Filling
      found_fillings = normal_fillings_of (sheet_net s) found_placing (pattern_net p)

      pub some-found : placed_fillings s p ≡ some found_fillings
      unfolding placed_fillings
      some-found = ap (fillings_in (sheet_net s) (pattern_net p)) chosen

      -- The list that is written.
      pub found-text : fillings_text sheet pattern (take pattern.atom_count r.atoms_to) r.links_to r.given ≡ list_text found_fillings
      found-text = ap₂ (λ S F. list_text (normal_fillings_of S found_placing F)) sheet-is pattern-is

      module _ (n : ℕ) (e : (atoms : List ℕ) → n ≡ length (fillings_text sheet pattern atoms r.links_to r.given)) where
        size : n ≡ length (list_text found_fillings)
        size = e (take pattern.atom_count r.atoms_to) ∙ ap length found-text

        pub some-answer : done.Written n ≡ placed_answer (placed_fillings s p)
        some-answer = ap done.Written size ∙ sym (ap placed_answer some-found)

        pub some-slip : (slip out : List ℕ)
            → ((atoms : List ℕ) → out ≡ fillings_text sheet pattern atoms r.links_to r.given ++ drop (length (fillings_text sheet pattern atoms r.links_to r.given)) slip)
            → out ≡ placed_text (placed_fillings s p) ++ drop n slip
        some-slip slip out o =
            o (take pattern.atom_count r.atoms_to) ∙ ap₂ (λ (t : List ℕ) (k : ℕ). t ++ drop k slip) (found-text ∙ sym (ap placed_text some-found)) (ap length found-text ∙ sym size)

-- The whole call.
module _ (sheet pattern slip : List ℕ) where
  pub place_short : length slip < slip_length → (done.ShortSlip ≡ place_answer sheet pattern (length slip)) × (slip ≡ place_slip sheet pattern slip)
  unfolding place_answer place_slip
  place_short h = (rw (lt-ltb (length slip) slip_length h), rw (lt-ltb (length slip) slip_length h))

  module _ (h : slip_length ≤ length slip) where
    pub place-first : (why : Refusal) (row : ℕ) → (outcome_of Plain no_ports sheet).answer ≡ Refused why row → (done.Refused 1 why row ≡ place_answer sheet pattern (length slip)) × (slip ≡ place_slip sheet pattern slip)
    unfolding place_answer place_slip
    place-first why row e = (rw (le-ltb (length slip) slip_length h, e), rw (le-ltb (length slip) slip_length h, e))

    module _ (a : (outcome_of Plain no_ports sheet).answer ≡ Passed) where
      pub place-second : (why : Refusal) (row : ℕ) → (outcome_of Pattern no_ports pattern).answer ≡ Refused why row → (done.Refused 2 why row ≡ place_answer sheet pattern (length slip)) × (slip ≡ place_slip sheet pattern slip)
      unfolding place_answer place_slip
      place-second why row e = (rw (le-ltb (length slip) slip_length h, a, e), rw (le-ltb (length slip) slip_length h, a, e))

      pub place-both : (outcome_of Pattern no_ports pattern).answer ≡ Passed → (d : Done) → d ≡ placed_answer (placed_fillings sheet pattern) → (out : List ℕ) → out ≡ slip_after d (placed_text (placed_fillings sheet pattern)) slip
          → (d ≡ place_answer sheet pattern (length slip)) × (out ≡ place_slip sheet pattern slip)
      unfolding place_answer place_slip
      place-both b d e out o = (
        rw (le-ltb (length slip) slip_length h, a, b) e,
        rw (le-ltb (length slip) slip_length h, a, b) (o ∙ ap (λ (x : Done). slip_after x (placed_text (placed_fillings sheet pattern)) slip) e),
      )
