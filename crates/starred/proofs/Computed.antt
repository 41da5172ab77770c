-- What is computed of the texts of a line. Where it is what the line states, the line holds.
use Prim.Native.Nat.{ℕ}
use mathlib.Core.Path.{◌≡◌, ap, ◌∙◌}
use mathlib.Core.List.{List, [], ◌∷◌, map}
use lib.ListN.{length}
use Rattle.normalising.specs.NormalText.{normal_text_of}
use Rattle.sheet.specs.Reading.{outcome_of, no_ports}
use Rattle.sheet.specs.declared.kind.Kind.TheVariants.{Plain, Pattern, Figure, Fillings}
use Rattle.sheet.specs.declared.answer.Answer.{Answer}
use Rattle.sheet.specs.declared.answer.Answer.TheVariants.{Passed}
use Rattle.comparing.specs.Compare.{compare_answer}
use Rattle.filling.specs.Fill.{filled_answer, filled_text}
use Rattle.answers.specs.declared.outcome.Done.{Done}
use Rattle.answers.specs.declared.outcome.Done.TheVariants as done
use Rattle.finding.specs.Passed.{PlacePassed}
use Rattle.answers.specs.Values.{compared_values, claimed_values}
use Rattle.answers.specs.declared.Verdict.{Verdict}
use Rattle.starred.specs.Case.{Filling, Placed, Case, compares, normalises, places, nowhere, prints, bytes_of, list_bytes, NormalFilling, Every, all, ◌&◌, Holds}
use Rattle.starred.proofs.Ending.{normalise-ends, fill-ends}
use Rattle.starred.proofs.Placing.{found_in, output_of, place-prints, nowhere-ends, place-ends, claim-holds}

-- the answers to the four texts, their normal texts, what is found, what fill answers and writes, and the fillings as normal texts
pub record PlaceFacts : Type 0 where
  pub sheet : Answer
  pub pattern : Answer
  pub figure : Answer
  pub list : Answer
  pub normal_sheet : List ℕ
  pub normal_pattern : List ℕ
  pub found : Done × List ℕ
  pub fill : Done
  pub filled : List ℕ
  pub fillings : List (List ℕ)

abbrev pub Facts : Case → Type 0
Facts (compares first second same) = Verdict × Verdict
Facts (normalises sheet normal) = Answer × List ℕ
Facts (places p) = PlaceFacts
Facts (nowhere sheet pattern) = Answer × Answer × (Done × List ℕ)
Facts (prints sheet pattern page) = Answer × Answer × List ℕ

abbrev pub computed : (c : Case) → Facts c
computed (compares first second same) = (compared_values (compare_answer (bytes_of first) (bytes_of second)), compared_values (compare_answer (bytes_of second) (bytes_of first)))
computed (normalises sheet normal) = ((outcome_of Plain no_ports (bytes_of sheet)).answer, normal_text_of Plain (bytes_of sheet))
computed (places p) =
    let sheet = bytes_of p.sheet in
    let pattern = bytes_of p.pattern in
    let list = list_bytes p.fillings in
    record {
      sheet = (outcome_of Plain no_ports sheet).answer;
      pattern = (outcome_of Pattern no_ports pattern).answer;
      figure = (outcome_of Figure no_ports pattern).answer;
      list = (outcome_of Fillings no_ports list).answer;
      normal_sheet = normal_text_of Plain sheet;
      normal_pattern = normal_text_of Pattern pattern;
      found = found_in sheet pattern;
      fill = filled_answer pattern list;
      filled = filled_text pattern list;
      fillings = map (λ (f : Filling). normal_text_of Plain (bytes_of f.rows)) p.fillings;
    }
computed (nowhere sheet pattern) = ((outcome_of Plain no_ports (bytes_of sheet)).answer, (outcome_of Pattern no_ports (bytes_of pattern)).answer, found_in (bytes_of sheet) (bytes_of pattern))
computed (prints sheet pattern page) = ((outcome_of Plain no_ports (bytes_of sheet)).answer, (outcome_of Pattern no_ports (bytes_of pattern)).answer, output_of (found_in (bytes_of sheet) (bytes_of pattern)))

abbrev pub stated : (c : Case) → Facts c
stated (compares first second same) = (record { number = 0; input = 0; row = 0; bytes = 0; yes = same }, record { number = 0; input = 0; row = 0; bytes = 0; yes = same })
stated (normalises sheet normal) = (Passed, bytes_of normal)
stated (places p) = record {
  sheet = Passed;
  pattern = Passed;
  figure = Passed;
  list = Passed;
  normal_sheet = bytes_of p.sheet;
  normal_pattern = bytes_of p.pattern;
  found = (done.Written (length (list_bytes p.fillings)), list_bytes p.fillings);
  fill = done.Written (length (bytes_of p.filled));
  filled = bytes_of p.filled;
  fillings = map (λ (f : Filling). bytes_of f.rows) p.fillings;
}
stated (nowhere sheet pattern) = (Passed, Passed, (done.NoPlacing, []))
stated (prints sheet pattern page) = (Passed, Passed, bytes_of page)

normal-fillings : (l : List Filling) → map (λ (f : Filling). normal_text_of Plain (bytes_of f.rows)) l ≡ map (λ (f : Filling). bytes_of f.rows) l → Every NormalFilling l
normal-fillings [] e = all
normal-fillings (f ∷ l) e = first & normal-fillings l rest
  where
    first : normal_text_of Plain (bytes_of f.rows) ≡ bytes_of f.rows
    first = cc

    rest : map (λ (f : Filling). normal_text_of Plain (bytes_of f.rows)) l ≡ map (λ (f : Filling). bytes_of f.rows) l
    rest = cc

places-hold : (p : Placed) → computed (places p) ≡ stated (places p) → Holds (places p)
places-hold p e =
    let sheet = bytes_of p.sheet in
    let pattern = bytes_of p.pattern in
    let list = list_bytes p.fillings in
    let ok : PlacePassed sheet pattern = record { sheet-passes = ap (λ (r : PlaceFacts). r.sheet) e; pattern-passes = ap (λ (r : PlaceFacts). r.pattern) e } in
    let found = ap (λ (r : PlaceFacts). r.found) e in
    record {
      normal-sheet = ap (λ (r : PlaceFacts). r.normal_sheet) e;
      normal-pattern = ap (λ (r : PlaceFacts). r.normal_pattern) e;
      normal-fillings = normal-fillings p.fillings (ap (λ (r : PlaceFacts). r.fillings) e);
      places = place-ends sheet pattern list ok found;
      fills = fill-ends pattern list (bytes_of p.filled) (ap (λ (r : PlaceFacts). r.figure) e) (ap (λ (r : PlaceFacts). r.list) e) (ap (λ (r : PlaceFacts). r.fill) e) (ap (λ (r : PlaceFacts). r.filled) e);
      claims = ap claimed_values (claim-holds sheet pattern list ok found);
    }

holds : (c : Case) → computed c ≡ stated c → Holds c
holds (compares first second same) e = record { onward = ap (λ (r : Verdict × Verdict). r.0) e; back = ap (λ (r : Verdict × Verdict). r.1) e }
holds (normalises sheet normal) e = normalise-ends (bytes_of sheet) (bytes_of normal) (ap (λ (r : Answer × List ℕ). r.0) e) (ap (λ (r : Answer × List ℕ). r.1) e)
holds (places p) e = places-hold p e
holds (nowhere sheet pattern) e =
    nowhere-ends (bytes_of sheet) (bytes_of pattern)
    (record { sheet-passes = ap (λ (r : Answer × Answer × (Done × List ℕ)). r.0) e; pattern-passes = ap (λ (r : Answer × Answer × (Done × List ℕ)). r.1) e })
    (ap (λ (r : Answer × Answer × (Done × List ℕ)). r.2) e)
holds (prints sheet pattern page) e =
    let ok : PlacePassed (bytes_of sheet) (bytes_of pattern) = record { sheet-passes = ap (λ (r : Answer × Answer × List ℕ). r.0) e; pattern-passes = ap (λ (r : Answer × Answer × List ℕ). r.1) e } in
    λ slip full. place-prints (bytes_of sheet) (bytes_of pattern) ok slip full ∙ ap (λ (r : Answer × Answer × List ℕ). r.2) e

pub all_hold : (l : List Case) → Every (λ c. computed c ≡ stated c) l → Every Holds l
all_hold l all = all
all_hold l (◌&◌ {x = c} {l = m} e r) = holds c e & all_hold m r
