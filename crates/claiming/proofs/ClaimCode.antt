-- What the code of claim finds on its way is what checking a claim answers.
use Prim.Native.Nat.{ℕ, ◌<◌, ◌≤◌}
use mathlib.Core.Path.{◌≡◌, refl, ap, ap₂, sym, ◌∙◌, subst}
use mathlib.Core.Bool.{Bool, true, false}
use mathlib.Core.List.{List}
use mathlib.Core.Option.{none, some}
use native.Mathlib.Omega.{arith}
use borrow.Author.Tests.{lt-ltb, le-ltb}
use lib.Dec.{ltb}
use lib.ListN.{take, replicate}
use Rattle.rows.specs.Pick.{pick}
use Rattle.rows.specs.Limits.{sheet_atom_limit, sheet_link_limit}
use Rattle.rows.specs.declared.Context.{Context}
use Rattle.reading.specs.NormalSheet.{packed_normal}
use Rattle.sheet.specs.Reading.{outcome_of, no_ports}
use Rattle.rows.specs.declared.Sheet as form
use Rattle.sheet.specs.declared.kind.Kind.TheVariants.{Plain, Figure, Fillings}
use Rattle.sheet.specs.declared.answer.Refusal.{Refusal}
use Rattle.sheet.specs.declared.answer.Answer.TheVariants as read
use Rattle.placing.specs.Net.{Net, Normal}
use Rattle.placing.specs.Placing.{Placing}
use Rattle.placing.specs.Smallest.{smallest}
use Rattle.placing.specs.TextNets.{sheet_net}
use Rattle.network.specs.NetIn.{net_in, Fit}
use Rattle.network.specs.Ready.{Ready}
use Rattle.network.proofs.NetRead.{net-read, fit-read, normal-read}
use Rattle.matching.specs.Search.{placed_in}
use Rattle.matching.specs.declared.search.Found.{Found}
use Rattle.matching.proofs.Leftover.{leftover}
use Rattle.matching.proofs.SearchTurns.{nothing-begun}
use Rattle.matching.proofs.SearchWhole.{no-atoms, placed-smallest}
use Rattle.filling.specs.Read.{list_held}
use Rattle.filling.specs.Fill.{figure_held, first_lacking, first_differing, filled_by, is_too_large}
use Rattle.filling.specs.Parts.{Counted, Low, first_unported, Headed}
use Rattle.filling.specs.Filled.{FilledIs}
use Rattle.filling.proofs.Parts.{figure-within, figure-agrees, normal-low, low-counted}
use Rattle.filling.proofs.Answers.{lacking-made, differing-made}
use Rattle.filling.proofs.ResultNet.{result-sheet}
use Rattle.claiming.specs.Claim.{filled_net, placed_claim, claimed_answer, claim_answer}
use Rattle.claiming.specs.Inputs.{ClaimInputs}
use Rattle.answers.specs.declared.outcome.Claimed.TheVariants.{Holds, Differs, Refused, BlankClash, EdgeDiffers}
use Rattle.claiming.proofs.Listed.{listed-atoms}

-- A placing of the filled figure was found, or none.
pub found-claim : (sheet filled : form.Sheet) (r : Found) (b : Bool) → placed_in sheet filled r ≡ smallest (net_in sheet) (net_in filled) → r.ok ≡ b
    → pick b Holds Differs ≡ placed_claim (smallest (net_in sheet) (net_in filled))
found-claim sheet filled r b e h = ap (λ (c : Bool). pick c Holds Differs) (sym h) ∙ go r.ok _ ∙ ap placed_claim e
  where
    go : (ok : Bool) (p : Placing) → pick ok Holds Differs ≡ placed_claim (pick ok (some p) none)
    go true p = refl
    go false p = refl

-- A figure without contexts and with fewer atoms than the sheet has no placing.
pub fewer-atoms : (sheet figure : form.Sheet) → Ready sheet figure → figure.context_count ≡ 0 → figure.atom_count < sheet.atom_count → smallest (net_in sheet) (net_in figure) ≡ none
fewer-atoms sheet figure ready alone few =
    let chosen : List ℕ = replicate sheet_atom_limit 0 in
    let r : Found = record { ok = false; atoms_to = chosen; links_to = replicate sheet_link_limit 0; given = chosen; work = 1 } in
    sym (placed-smallest sheet figure ready r refl refl (nothing-begun sheet figure ready chosen 0 (omega arith) (no-atoms sheet chosen refl) (leftover sheet figure ready alone few) r refl))

-- The answer to texts that passed row by row, case by case.
module _ (s f list : List ℕ) where
  abbrev lack : ℕ
  lack = first_lacking (list_held list).contexts (figure_held f).contexts

  abbrev differ : ℕ
  differ = first_differing list (list_held list).contexts

  above : (n : ℕ) → (n ≡ 0 → ⊥) → ltb 0 n ≡ true
  above n h = lt-ltb 0 n (omega (arith, h))

  nought : (n : ℕ) → n ≡ 0 → ltb 0 n ≡ false
  nought n e = le-ltb 0 n (omega arith)

  answer-lacking : (n : ℕ) → n ≡ lack → (n ≡ 0 → ⊥) → BlankClash 2 n ≡ claimed_answer s f list
  unfolding claimed_answer
  answer-lacking n e h = rw (← e, above n h)

  answer-differing : lack ≡ 0 → (n : ℕ) → n ≡ differ → (n ≡ 0 → ⊥) → EdgeDiffers 3 n ≡ claimed_answer s f list
  unfolding claimed_answer
  answer-differing z n e h = rw (nought lack z, ← e, above n h)

  answer-sized : lack ≡ 0 → differ ≡ 0 → (b : Bool) → is_too_large (filled_by f list) ≡ b → pick b Differs (placed_claim (smallest (sheet_net s) (filled_net f list))) ≡ claimed_answer s f list
  unfolding claimed_answer
  answer-sized z y b t = rw (nought lack z, nought differ y) (ap (λ c. pick c Differs (placed_claim (smallest (sheet_net s) (filled_net f list)))) (sym t))

pub figure-counted : (sheet figure : form.Sheet) (s f : List ℕ) → ClaimInputs sheet figure s f → Counted figure.contexts figure.context_count
figure-counted sheet figure s f I = low-counted figure (subst Low (sym I.of-figure) (normal-low Figure (figure_held f) (figure-within f) (figure-agrees f)))

-- What the code finds.
module _ (sheet figure : form.Sheet) (heads : List Context) (n : ℕ) (ports list : List ℕ) (H : Headed heads n ports list) (s f : List ℕ) (I : ClaimInputs sheet figure s f)
    (clash : ℕ) (L : clash ≡ first_unported ports (take figure.context_count figure.contexts)) where
  lacks : clash ≡ lack s f list
  lacks = L ∙ ap₂ (λ (x : List ℕ) (y : form.Sheet). first_unported x (take y.context_count y.contexts)) H.ports I.of-figure ∙ lacking-made f list

  pub says-lacking : (clash ≡ 0 → ⊥) → BlankClash 2 clash ≡ claimed_answer s f list
  says-lacking h = answer-lacking s f list clash lacks h

  module _ (z : clash ≡ 0) (other : ℕ) (D : other ≡ first_differing list (take n heads)) where
    differs : other ≡ differ s f list
    differs = D ∙ ap₂ (λ (k : ℕ) (x : List Context). first_differing list (take k x)) H.read.count H.read.contexts ∙ differing-made f list

    pub says-differing : (other ≡ 0 → ⊥) → EdgeDiffers 3 other ≡ claimed_answer s f list
    says-differing h = answer-differing s f list (sym lacks ∙ z) other differs h

    module _ (y : other ≡ 0) (r : form.Sheet)
        (M : (text : List ℕ) → figure ≡ packed_normal (figure_held text) → first_lacking (list_held list).contexts (figure_held text).contexts ≡ 0 → first_differing list (list_held list).contexts ≡ 0 → FilledIs text list r) where
      filled : FilledIs f list r
      filled = M f I.of-figure (sym lacks ∙ z) (sym differs ∙ y)

      pub says-many : sheet_atom_limit < r.atom_count → Differs ≡ claimed_answer s f list
      says-many h = answer-sized s f list (sym lacks ∙ z) (sym differs ∙ y) true (filled.large-atoms h)

      pub says-wide : sheet_link_limit < r.class_count → Differs ≡ claimed_answer s f list
      says-wide h = answer-sized s f list (sym lacks ∙ z) (sym differs ∙ y) true (filled.large-links h)

      module _ (few : r.atom_count ≤ sheet_atom_limit) (narrow : r.class_count ≤ sheet_link_limit) where
        pub filled-ready : Ready sheet r
        filled-ready =
            record {
              sheet-fit = subst Fit (sym I.of-sheet) (fit-read Plain no_ports s refl);
              figure-fit = filled.fit few narrow;
              sheet-normal = subst (λ (n : form.Sheet). Normal (net_in n)) (sym I.of-sheet) (normal-read Plain no_ports s);
              figure-normal = subst Normal (sym (filled.net few narrow)) (result-sheet (filled_by f list) (listed-atoms f list (sym lacks ∙ z))).normal;
            }

        pub says-placed : placed_claim (smallest (net_in sheet) (net_in r)) ≡ claimed_answer s f list
        says-placed =
            ap₂ (λ (S F : Net). placed_claim (smallest S F)) (ap net_in I.of-sheet ∙ net-read Plain no_ports s) (filled.net few narrow)
            ∙ answer-sized s f list (sym lacks ∙ z) (sym differs ∙ y) false (filled.not-large few narrow)

-- The whole call.
module _ (sheet figure list : List ℕ) where
  pub claim-first : (why : Refusal) (row : ℕ) → (outcome_of Plain no_ports sheet).answer ≡ read.Refused why row → Refused 1 why row ≡ claim_answer sheet figure list
  unfolding claim_answer
  claim-first why row e = rw e

  module _ (a : (outcome_of Plain no_ports sheet).answer ≡ read.Passed) where
    pub claim-second : (why : Refusal) (row : ℕ) → (outcome_of Figure no_ports figure).answer ≡ read.Refused why row → Refused 2 why row ≡ claim_answer sheet figure list
    unfolding claim_answer
    claim-second why row e = rw (a, e)

    module _ (b : (outcome_of Figure no_ports figure).answer ≡ read.Passed) where
      pub claim-third : (why : Refusal) (row : ℕ) → (outcome_of Fillings no_ports list).answer ≡ read.Refused why row → Refused 3 why row ≡ claim_answer sheet figure list
      unfolding claim_answer
      claim-third why row e = rw (a, b, e)

      pub claim-all : (outcome_of Fillings no_ports list).answer ≡ read.Passed → claimed_answer sheet figure list ≡ claim_answer sheet figure list
      unfolding claim_answer
      claim-all e = rw (a, b, e)
