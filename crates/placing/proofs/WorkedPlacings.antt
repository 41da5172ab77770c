-- Stage and hut of document 01 with rows in another order: what the definitions give, from the texts to the texts.
use Prim.Native.Nat.{ℕ}
use mathlib.Core.Path.{◌≡◌, refl, ◌∙◌, ap, ap₂}
use mathlib.Core.List.{List, [], ◌∷◌, ◌++◌, map}
use mathlib.Core.Option.{Option, none, some}
use native.Mathlib.Decide.{ℕ_discrete}
use Rattle.hyperlmntal.specs.Link.{◌≟◌}
use Rattle.hyperlmntal.specs.GraphSubstitution.{same_functor}
use Rattle.hyperlmntal.specs.DenotedSubstitution.{connect}
use Rattle.rows.specs.Held.{Held}
use Rattle.reading.specs.Graph.{graph_of}
use Rattle.reading.specs.Normal.{normal_form, normal_form_by, class_of, classes_by, number_by, marks_among, inserted, distinct, others}
use Rattle.normalising.specs.NormalText.{joined, text_of, normal_text_of}
use Rattle.sheet.specs.Reading.{outcome_of, no_ports}
use Rattle.sheet.specs.declared.kind.Kind.TheVariants.{Plain, Pattern}
use Rattle.sheet.specs.declared.answer.Answer.{Answer}
use Rattle.sheet.specs.declared.answer.Answer.TheVariants.{Passed}
use Rattle.texts.specs.Texts.{symbol, context, edge, head}
use Rattle.texts.proofs.Texts.{answer_to}
use Rattle.placing.specs.Net.{Net, normal_net}
use Rattle.placing.specs.Placing.{Placing}
use Rattle.placing.specs.Fillings.{places_of, with_context, by_number, normal_fillings_of}
use Rattle.placing.specs.Filled.{filled_normal}
use Rattle.placing.specs.ListText.{rows_text, list_text}
use Rattle.placing.specs.First.{first_from}
use Rattle.placing.specs.Smallest.{smallest, labels_by}
use Rattle.placing.specs.Narrowed.{first_may, narrowed}
use Rattle.placing.proofs.Narrowed.{narrowed-same}

-- What placing gives: the smallest good placing, the text of the list of its fillings, each as normal text of its own, and the
-- normal text of the pattern filled with them.
record Placed : Type 0 where
  placing : Placing
  list : List ℕ
  filled : List ℕ

-- A sheet and a pattern, both normal texts, and what is placed; none: 11.
record Case : Type 0 where
  sheet : List ℕ
  pattern : List ℕ
  placed : Option Placed

-- What the definitions give of two texts: the answers to them, their normal texts, and what is placed.
record Result : Type 0 where
  sheet_answer : Answer
  pattern_answer : Answer
  sheet_text : List ℕ
  pattern_text : List ℕ
  placed : Option Placed

abbrev placed_by : Net → Held → Option Placing → Option Placed
placed_by S h none = none
placed_by S h (some p) =
    let θ = normal_fillings_of S p (normal_net h) in
    some (record { placing = p; list = list_text θ; filled = text_of (filled_normal (graph_of h) θ) })

-- by any search for the smallest good placing
abbrev result_by : (Net → Net → Option Placing) → Case → Result
result_by search c =
    let s = outcome_of Plain no_ports c.sheet in
    let f = outcome_of Pattern no_ports c.pattern in
    record {
      sheet_answer = s.answer;
      pattern_answer = f.answer;
      sheet_text = normal_text_of Plain c.sheet;
      pattern_text = normal_text_of Pattern c.pattern;
      placed = placed_by (normal_net s.held) f.held (search (normal_net s.held) (normal_net f.held));
    }

abbrev stated : Case → Result
stated c = record { sheet_answer = Passed; pattern_answer = Passed; sheet_text = c.sheet; pattern_text = c.pattern; placed = c.placed }

-- the rows of the stage, `S 10 3 1 2 3`, `S 21 1 1`, `E 2 1`, `E 3 2`, and of the hut, `S 10 3 1 2 3`, `B 1 2 3 4`, `B 2 1 1`, `E 2 1`, `E 4 2`
abbrev cons : List ℕ
cons = symbol (10 ∷ 3 ∷ 1 ∷ 2 ∷ 3 ∷ [])

abbrev one : List ℕ
one = symbol (21 ∷ 1 ∷ 1 ∷ [])

abbrev stage : List ℕ
stage = cons ++ one ++ edge 2 1 ++ edge 3 2

abbrev hut : List ℕ
hut = cons ++ context (1 ∷ 2 ∷ 3 ∷ 4 ∷ []) ++ context (2 ∷ 1 ∷ 1 ∷ []) ++ edge 2 1 ++ edge 4 2

-- `H 1 2`, `E 1 1`, `E 1 2`, `H 2 1`, `S 21 1 1`, `E 1 1`
abbrev stage_list : List ℕ
stage_list = head 1 2 ++ edge 1 1 ++ edge 1 2 ++ head 2 1 ++ one ++ edge 1 1

abbrev cases : List Case
cases =
    -- the stage's S rows in the other order: the same list; the filled hut has its own S row first
    record {
      sheet = one ++ cons ++ edge 2 1 ++ edge 3 2;
      pattern = hut;
      placed = some (record { placing = record { atoms_to = 2 ∷ []; links_to = 1 ∷ 2 ∷ 3 ∷ 3 ∷ []; given = 2 ∷ 0 ∷ [] }; list = stage_list; filled = stage });
    }
    -- the hut's B rows in the other order: the same list
    ∷ record {
      sheet = stage;
      pattern = cons ++ context (2 ∷ 1 ∷ 1 ∷ []) ++ context (1 ∷ 2 ∷ 3 ∷ 4 ∷ []) ++ edge 2 1 ++ edge 4 2;
      placed = some (record { placing = record { atoms_to = 1 ∷ []; links_to = 1 ∷ 2 ∷ 3 ∷ 3 ∷ []; given = 0 ∷ 2 ∷ [] }; list = stage_list; filled = stage });
    }
    ∷ []

same-sooner : (l : List Case) → map (result_by smallest) l ≡ map (result_by narrowed) l
same-sooner [] = refl
same-sooner (c ∷ l) =
    let r = result_by smallest c in
    let S = normal_net (outcome_of Plain no_ports c.sheet).held in
    let h = (outcome_of Pattern no_ports c.pattern).held in
    ap₂ ◌∷◌ (ap (λ (o : Option Placing). record { sheet_answer = r.sheet_answer; pattern_answer = r.pattern_answer; sheet_text = r.sheet_text; pattern_text = r.pattern_text; placed = placed_by S h o }) (narrowed-same S (normal_net h))) (same-sooner l)

-- The table.
pub worked-placings : map (result_by smallest) cases ≡ map stated cases
unfolding answer_to ℕ_discrete same_functor connect ◌≟◌ normal_form normal_form_by class_of classes_by number_by marks_among inserted distinct others joined labels_by first_from first_may narrowed places_of with_context by_number rows_text list_text
worked-placings = same-sooner cases ∙ refl
