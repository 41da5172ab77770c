-- What the rows of the ports are for: with one of the wrong fillings of Wrong the fillings of a good placing do not fit, or do not
-- turn the figure into the sheet.
use Prim.Native.Nat.{ℕ, zero, suc, ◌≤◌}
use mathlib.Core.Path.{◌≡◌, refl, sym, subst}
use mathlib.Core.Logic.{⊎_elim}
use mathlib.Core.List.Memᴰ
use mathlib.Core.List.{List, [], ◌∷◌}
use native.Mathlib.Decide.{ℕ_discrete}
use native.Mathlib.Omega.{arith}
use Rattle.hyperlmntal.specs.Link.{◌≟◌, ◌∈◌}
use Rattle.hyperlmntal.specs.Congruence.{◌≅◌, ≅-trans}
use Rattle.hyperlmntal.specs.TermOf.{term_of}
use Rattle.hyperlmntal.specs.GraphSubstitution.{same_functor}
use Rattle.hyperlmntal.specs.DenotedSubstitution.{connect}
use Rattle.rows.specs.Held.{index_of}
use Rattle.reading.specs.Normal.{normal_form, normal_form_by, class_of, classes_by, number_by, marks_among, inserted, distinct, others}
use Rattle.placing.specs.Net.{NetCell, Net, Range, with_link_count, net_graph, net_term, NormalSheet, NormalPattern}
use Rattle.placing.specs.Placing.{Placing, Good}
use Rattle.placing.specs.Fillings.{edge_row, Filling, ExactMarks, Fits, places_of, with_context, by_number, AllExactMarks}
use Rattle.placing.specs.Holding.{holding}
use Rattle.placing.specs.Filled.{filled_normal}
use Rattle.placing.specs.Smallest.{labels_by}
use Rattle.placing.specs.Wrong.{fillings_at_marks, fillings_somewhere}
use Rattle.placing.proofs.Names.{net-marked}
use Rattle.placing.proofs.GoodTest.{says-good}
use Rattle.placing.proofs.FilledText.{filled-congruent}
use Rattle.placing.proofs.NormalTest.{says-pattern, sheet-by}
use Rattle.placing.proofs.Sheets.{fits-nothing, holding-nothing}
use Rattle.placing.proofs.Needed.{none-fillable, empty_sheet, joined, apart, joined-sheet, apart-pattern, apart_none, both_joints}

-- Sheet `S 40 1 1`, `S 41 1 1`; figure `S 40 1 1`, `S 41 1 2`, `B 1 2 1 2`.
abbrev between : List NetCell
between = (1, 1 ∷ 2 ∷ []) ∷ []

both-good : Good joined (apart between) both_joints
unfolding labels_by
both-good = (says-good joined (apart between) both_joints).sound refl

-- The blank's filling then is `H 1 2`, `E 2 1`, `E 3 2`,
abbrev parted : Filling
parted = record { number = 1; ports = 2; rows = edge_row 2 1 ∷ edge_row 3 2 ∷ [] }

at-marks : fillings_at_marks joined both_joints (apart between) ≡ parted ∷ []
unfolding places_of with_context by_number
at-marks = refl

-- and the filled figure is the figure without its blank.
parted-filled : filled_normal (net_graph (apart between)) (parted ∷ []) ≡ net_graph (apart [])
unfolding ℕ_discrete same_functor connect ◌≟◌ normal_form normal_form_by class_of classes_by number_by marks_among inserted distinct others index_of
parted-filled = refl

parted-exact : AllExactMarks (parted ∷ [])
parted-exact f i = subst (λ g. ExactMarks g.ports g.rows) (sym (Memᴰ.eq_of_singleton i)) (record { within = within; every = every })
  where
    within : (x m : ℕ) → edge_row x m ∈ parted.rows → Range 2 m
    within x m k = ⊎_elim (λ e. let q : m ≡ 1 = cc in (omega arith, omega arith)) (λ l. let e = Memᴰ.eq_of_singleton l in let q : m ≡ 2 = cc in (omega arith, omega arith)) (Memᴰ.cases_cons k)

    every : (m : ℕ) → Range 2 m → (x : ℕ) × (edge_row x m ∈ parted.rows)
    every zero r = absurd (let h : 1 ≤ 0 = r.0 in omega arith)
    every (suc zero) r = (2, Memᴰ.head refl)
    every (suc (suc zero)) r = (3, Memᴰ.tail (Memᴰ.head refl))
    every (suc (suc (suc m))) r = absurd (let h : suc (suc (suc m)) ≤ 2 = r.1 in omega arith)

apart-differs : ¬ (net_term (apart []) ≅ net_term joined)
apart-differs e = none-fillable joined (apart []) joined-sheet apart-pattern apart_none ([], fits-nothing (apart []) refl, subst (λ T. T ≅ net_term joined) (sym (holding-nothing (apart []))) e)

parted-differs : ¬ (holding (apart between) (parted ∷ []) ≅ net_term joined)
parted-differs e = apart-differs (subst (λ G. term_of G ≅ net_term joined) parted-filled (≅-trans (filled-congruent (net_graph (apart between)) (net-marked (apart between)) (parted ∷ []) parted-exact) e))

-- Two local joints need their fusion too: ports going to one joint without a mark have to share it.
pub fusion-needs : ¬ ((S F : Net) → NormalSheet S → NormalPattern F → (p : Placing) → Good S F p → holding F (fillings_at_marks S p F) ≅ net_term S)
fusion-needs d = parted-differs (subst (λ θ. holding (apart between) θ ≅ net_term joined) at-marks (d joined (apart between) joined-sheet ((says-pattern (apart between)).sound refl) both_joints both-good))

-- Figure `B 1 1 1`, empty sheet.
abbrev one_port : Net
one_port = with_link_count [] ((1, 1 ∷ []) ∷ []) []

abbrev to_none : Placing
to_none = record { atoms_to = []; links_to = 1 ∷ []; given = [] }

none-good : Good empty_sheet one_port to_none
unfolding labels_by
none-good = (says-good empty_sheet one_port to_none).sound refl

left_out : fillings_somewhere empty_sheet to_none one_port ≡ record { number = 1; ports = 1; rows = [] } ∷ []
unfolding places_of with_context by_number
left_out = refl

-- The mark of a port that goes to none is needed, though it touches no symbol.
pub port-needs : ¬ ((S F : Net) → NormalSheet S → NormalPattern F → (p : Placing) → Good S F p → Fits F (fillings_somewhere S p F))
port-needs d =
    let t = subst (λ θ. Fits one_port θ) left_out (d empty_sheet one_port (sheet-by empty_sheet refl refl) ((says-pattern one_port).sound refl) to_none none-good) in
    Memᴰ.not-nil ((t.exact (record { number = 1; ports = 1; rows = [] }) (Memᴰ.head refl)).every 1 (omega arith, omega arith)).1
