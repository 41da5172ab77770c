-- Document 01, 'Normal text': S rows keep their order. So one sheet can have two normal texts: `S 1 0`, `S 2 0` and
-- `S 2 0`, `S 1 0` are the same, each is its own normal text, and their bytes differ.
use Prim.Native.Nat.{ℕ}
use mathlib.Core.Path.{◌≡◌, refl, ap}
use native.Mathlib.Omega.{arith}
use lib.ListN.{get_or}
use Rattle.hyperlmntal.specs.Template.{Template, null, molecule}
use Rattle.hyperlmntal.specs.Congruence.{◌≅◌, ≅-sym, ≅-trans, E2, E3, E4}
use Rattle.hyperlmntal.proofs.Denoting.{terms-congruent}
use Rattle.reading.specs.Graph.{graph_of, term_of_text}
use Rattle.reading.specs.Normal.{class_of, inserted, marks_among, others, distinct, classes_by, number_by, normal_form_by, normal_form}
use Rattle.normalising.specs.NormalText.{joined}
use Rattle.sheet.specs.Reading.{outcome_of, no_ports}
use Rattle.sheet.specs.declared.kind.Kind.TheVariants.{Plain}
use Rattle.reading.proofs.normal.TextGraph.{graph-marked}
use Rattle.texts.specs.NormalOrder.{one_two, two_one, TwoNormal}
use Rattle.texts.proofs.Texts.{answer_to}

swapped : {A B C : Template} → molecule (molecule A (molecule B null)) C ≅ molecule (molecule B (molecule A null)) C
swapped = E4 (≅-trans E3 (≅-trans (E4 E2) (≅-sym E3)))

same-sheet : term_of_text (outcome_of Plain no_ports one_two).held ≅ term_of_text (outcome_of Plain no_ports two_one).held
unfolding answer_to
same-sheet = swapped

bytes-differ : ¬ (one_two ≡ two_one)
unfolding answer_to
bytes-differ e = let z : ◌≡◌ {A = ℕ} 49 50 = ap (λ l. get_or l 4 0) e in omega arith

pub order-kept : TwoNormal one_two two_one
unfolding answer_to class_of inserted marks_among others distinct classes_by number_by normal_form_by normal_form joined
order-kept =
    record {
      first_passes = refl;
      second-passes = refl;
      first-normal = refl;
      second-normal = refl;
      congruent = same-sheet;
      isomorphic = (terms-congruent (graph_of (outcome_of Plain no_ports one_two).held) (graph_of (outcome_of Plain no_ports two_one).held) (graph-marked (outcome_of Plain no_ports one_two).held) (graph-marked (outcome_of Plain no_ports two_one).held)).1 same-sheet;
      differ = bytes-differ;
    }
