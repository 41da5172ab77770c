-- Each condition is needed: with one of the wrong notions of Wrong in its place theorem D is false, by a closed sheet and figure.
use Prim.Native.Nat.{ℕ, zero, suc, ◌≤◌}
use mathlib.Core.Path.{◌≡◌, refl, sym, subst}
use mathlib.Core.Logic.{◌≢◌, inl, inr, ⊎_elim}
use mathlib.Core.List.Memᴰ
use mathlib.Core.List.{List, [], ◌∷◌}
use mathlib.Core.Bool.{true}
use mathlib.Core.Option.{none}
use native.Mathlib.Omega.{arith}
use lib.Dec.{eqb}
use lib.ListN.{length}
use Rattle.rows.specs.Pick.{not}
use Rattle.placing.specs.Net.{NetCell, Net, Range, with_link_count, NormalSheet, NormalPattern}
use Rattle.placing.specs.Placing.{Placing, link_target, here, Across, PortAt, Good}
use Rattle.placing.specs.First.{first_from, first_list}
use Rattle.placing.specs.Smallest.{numbers_to, all_of, labels_by, across_test, own_links, smallest}
use Rattle.placing.specs.Wrong.{Fillable, TheoremD, SharingLinked, OwnOr, SharedGood, DroppedGood, InsideAny, InnerGood}
use Rattle.placing.proofs.Tests.{says-not, says_eq, says_all, says-all-to}
use Rattle.placing.proofs.StepLabels.{says-linked}
use Rattle.placing.proofs.GoodTest.{says-sending, says-across, says-marks, says-port, Own, says-own}
use Rattle.placing.proofs.SmallestLaws.{smallest-none}
use Rattle.placing.proofs.NormalTest.{says-pattern, sheet-by}
use Rattle.placing.proofs.NetPlacing.{fillings-iff-placing}

-- It holds of Good: this is the statement of fillings-iff-placing.
theorem-d : TheoremD Good
theorem-d = fillings-iff-placing

-- Where no placing is found, nobody can write fillings.
pub none-fillable : (S F : Net) → NormalSheet S → NormalPattern F → smallest S F ≡ none → ¬ Fillable S F
none-fillable S F s f e t = let g = (fillings-iff-placing S F s f).0 t in (smallest-none S F).0 e g.0 g.1

-- So a notion by which a placing there is good is wrong.
refuted : (G : Net → Net → Placing → Type 0) (S F : Net) → NormalSheet S → NormalPattern F → smallest S F ≡ none → (p : Placing) → G S F p → ¬ TheoremD G
refuted G S F s f e p g d = none-fillable S F s f e ((d S F s f).1 (p, g))

-- What a wrong notion leaves as it is, by the tests.
module _ (S F : Net) (p : Placing) where
  across-by : all_of (across_test S F p) (numbers_to (length F.atoms)) ≡ true → (i : ℕ) → Range (length F.atoms) i → Across S F p i
  across-by e = (says-all-to (across_test S F p) (Across S F p) (says-across S F p) (length F.atoms)).sound e

  own-by : all_of (own_links S F p) (numbers_to (length S.atoms)) ≡ true → (j : ℕ) → Range (length S.atoms) j → Own S F p j
  own-by e = (says-all-to (own_links S F p) (Own S F p) (says-own S F p) (length S.atoms)).sound e

-- There is no number from 1 to 0.
no_number : (x : ℕ) → Range 0 x → ⊥
no_number x r = let h : 1 ≤ x = r.0 in let g : x ≤ 0 = r.1 in omega arith

-- Sheet `S 40 1 1`, `S 41 1 1`; figure `S 40 1 1`, `S 41 1 2`, both of whose joints go to the sheet's one.
abbrev pub joined : Net
joined = with_link_count ((40, 1 ∷ []) ∷ (41, 1 ∷ []) ∷ []) [] []

-- with B rows or without
abbrev pub apart : List NetCell → Net
apart c = with_link_count ((40, 1 ∷ []) ∷ (41, 2 ∷ []) ∷ []) c []

pub joined-sheet : NormalSheet joined
joined-sheet = sheet-by joined refl refl

pub apart-pattern : NormalPattern (apart [])
apart-pattern = (says-pattern (apart [])).sound refl

pub apart_none : smallest joined (apart []) ≡ none
unfolding labels_by first_from first_list smallest
apart_none = refl

abbrev pub both_joints : Placing
both_joints = record { atoms_to = 1 ∷ 2 ∷ []; links_to = 1 ∷ 1 ∷ []; given = 0 ∷ 0 ∷ [] }

-- A blank between is needed.
pub shared-needs : ¬ TheoremD SharedGood
shared-needs = refuted SharedGood joined (apart []) joined-sheet apart-pattern apart_none both_joints
    (record {
      sending = (says-sending joined (apart []) both_joints).sound refl;
      across = across-by joined (apart []) both_joints refl;
      same-marks = (says-marks joined (apart []) both_joints).sound refl;
      linked = λ x x' y a b. here;
      own-links = own-by joined (apart []) both_joints refl;
    })

-- The sheet `E 1 5`; empty figure.
abbrev pub empty_sheet : Net
empty_sheet = with_link_count [] [] []

abbrev lone_mark : Net
lone_mark = with_link_count [] [] ((1, 5) ∷ [])

abbrev nowhere : Placing
nowhere = record { atoms_to = []; links_to = []; given = [] }

mark-none : smallest lone_mark empty_sheet ≡ none
unfolding labels_by first_from first_list smallest
mark-none = refl

-- A mark that touches no symbol is needed.
pub mark-needs : ¬ TheoremD DroppedGood
mark-needs = refuted DroppedGood lone_mark empty_sheet (sheet-by lone_mark refl refl) ((says-pattern empty_sheet).sound refl) mark-none nowhere
    (record {
      sending = (says-sending lone_mark empty_sheet nowhere).sound refl;
      across = across-by lone_mark empty_sheet nowhere refl;
      same-marks = record { onward = λ x m i. absurd (Memᴰ.not-nil i); backward = λ y m i. (0, λ j k. absurd (Memᴰ.not-nil k)) };
      linked = λ x x' y a b. absurd (no_number x a.figure-link);
      own-links = own-by lone_mark empty_sheet nowhere refl;
    })

-- Sheet `S 40 2 1 2`, `S 41 2 2 3`, `E 1 5`, `E 3 6`; figure `B 1 1 1`, `B 2 1 2`, `E 1 5`, `E 2 6`, one symbol given to each
-- blank: joint 2 is between them.
abbrev chain : Net
chain = with_link_count ((40, 1 ∷ 2 ∷ []) ∷ (41, 2 ∷ 3 ∷ []) ∷ []) [] ((1, 5) ∷ (3, 6) ∷ [])

abbrev ends : Net
ends = with_link_count [] ((1, 1 ∷ []) ∷ (2, 2 ∷ []) ∷ []) ((1, 5) ∷ (2, 6) ∷ [])

abbrev one_each_placing : Placing
one_each_placing = record { atoms_to = []; links_to = 1 ∷ 3 ∷ []; given = 1 ∷ 2 ∷ [] }

ends-none : smallest chain ends ≡ none
unfolding labels_by first_from first_list smallest
ends-none = refl

ends-linked : SharingLinked chain ends one_each_placing
unfolding labels_by
ends-linked = (says-linked chain ends one_each_placing).sound refl

between-both : (k : ℕ) → InsideAny chain ends one_each_placing k 2
between-both k = record {
  no-figure-link = (says-all-to (λ x. not (eqb (link_target one_each_placing x) 2)) (λ x. link_target one_each_placing x ≢ 2) (λ x. says-not (says_eq _ _)) 2).sound refl;
  no-mark = λ m i. (says_all (λ (e : ℕ × ℕ). not (eqb e.0 2)) (λ (e : ℕ × ℕ). e.0 ≢ 2) (λ e. says-not (says_eq _ _)) chain.marks).sound refl (2, m) i refl;
  only-there = λ j r i. (λ t. no_number t.by t.of-figure, refl);
}

ends-own : OwnOr chain ends one_each_placing (InsideAny chain ends one_each_placing)
ends-own zero r n y m = absurd (let h : 1 ≤ 0 = r.0 in omega arith)
ends-own (suc zero) r n y m = ⊎_elim
    (λ e. inl (subst (PortAt chain ends one_each_placing 1) (sym e) ((says-port chain ends one_each_placing 1 1).sound refl)))
    (λ k. inr (subst (InsideAny chain ends one_each_placing 1) (sym (Memᴰ.eq_of_singleton k)) (between-both 1)))
    (Memᴰ.cases_cons m)
ends-own (suc (suc zero)) r n y m = ⊎_elim
    (λ e. inr (subst (InsideAny chain ends one_each_placing 2) (sym e) (between-both 2)))
    (λ k. inl (subst (PortAt chain ends one_each_placing 2) (sym (Memᴰ.eq_of_singleton k)) ((says-port chain ends one_each_placing 2 3).sound refl)))
    (Memᴰ.cases_cons m)
ends-own (suc (suc (suc j))) r n y m = absurd (let h : suc (suc (suc j)) ≤ 2 = r.1 in omega arith)

-- That an inner joint touches symbols of its own blank only is needed.
pub inner-needs : ¬ TheoremD InnerGood
inner-needs = refuted InnerGood chain ends (sheet-by chain refl refl) ((says-pattern ends).sound refl) ends-none one_each_placing
    (record {
      sending = (says-sending chain ends one_each_placing).sound refl;
      across = across-by chain ends one_each_placing refl;
      same-marks = (says-marks chain ends one_each_placing).sound refl;
      linked = ends-linked;
      own-links = ends-own;
    })
