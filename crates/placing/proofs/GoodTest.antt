-- The computed test passes exactly on the good placings.
use Prim.Native.Nat.{ℕ, suc}
use mathlib.Core.Path.{◌≡◌, refl, sym, subst}
use mathlib.Core.Logic.{◌⊎◌, inl, inr, ◌≢◌, ◌↔◌}
use mathlib.Core.Bool.{Bool, true, false}
use lib.Dec.{eqb}
use lib.ListN.{length}
use Rattle.hyperlmntal.specs.Link.{◌∈◌}
use Rattle.rows.specs.Pick.{not}
use Rattle.placing.specs.Net.{NetCell, Net, Range}
use Rattle.placing.specs.Placing.{Placing, cell_at, atom_target, link_target, given_to, Taken, Sending, Across, SameMarks, PortAt, Inside, Good}
use Rattle.placing.specs.Smallest.{numbers_to, all_of, in_range, is_taken, given_right, is_different, sending_test, across_test, mark_onward, mark_backward, marks_test, port_test, only_there, inside_test, own_links, good_test}
use Rattle.placing.proofs.Tests.{Says, says-by, says-and, says-or, says-not, says-implies, says-choice, says_eq, says_range, says_all, says_some, says-all-to, says-some-to, says-among, says-list, refuted}
use Rattle.placing.proofs.StepLabels.{says-linked}

module _ (S F : Net) (p : Placing) where
  abbrev figure_atom_limit : ℕ
  figure_atom_limit = length F.atoms

  abbrev sheet_atom_limit : ℕ
  sheet_atom_limit = length S.atoms

  pub says-taken : (j : ℕ) → Says (is_taken S F p j) (Taken S F p j)
  says-taken j = says-by (says-some-to (λ i. eqb (atom_target p i) j) (λ i. atom_target p i ≡ j) (λ i. says_eq _ _) figure_atom_limit)
      (λ t. record { by = t.0; of-figure = t.1; there = t.2 }) (λ t. (t.by, t.of-figure, t.there))

  -- what holds of the context that sheet atom j is given to
  abbrev Given : ℕ → Type 0
  Given j = (Taken S F p j → given_to p j ≡ 0) × (¬ Taken S F p j → (row : NetCell) × (row ∈ F.contexts) × (row.0 ≡ given_to p j))

  says-given : (j : ℕ) → Says (given_right S F p j) (Given j)
  says-given j = says-choice (says-taken j) (says_eq _ _) (says_some (λ (row : NetCell). eqb row.0 (given_to p j)) (λ (row : NetCell). row.0 ≡ given_to p j) (λ row. says_eq _ _) F.contexts)

  pub says-sending : Says (sending_test S F p) (Sending S F p)
  says-sending = says-by
      (says-and (says_eq _ _) (says-and atoms (says-and different (says-and (says_eq _ _) (says-and links (says-and (says_eq _ _) given))))))
      (λ t. record {
        atoms-sent = t.0;
        to-atoms = t.1.0;
        different = λ i j r q. t.1.1.0 i r j q;
        links-sent = t.1.1.1.0;
        to-links = t.1.1.1.1.0;
        atoms-given = t.1.1.1.1.1.0;
        not-given = λ j r. (t.1.1.1.1.1.1 j r).0;
        to-contexts = λ j r. (t.1.1.1.1.1.1 j r).1;
      })
      (λ t. (t.atoms-sent, (t.to-atoms, ((λ i r j q. t.different i j r q), (t.links-sent, (t.to-links, (t.atoms-given, (λ j r. (t.not-given j r, t.to-contexts j r)))))))))
    where
      atoms : Says (all_of (λ i. in_range sheet_atom_limit (atom_target p i)) (numbers_to figure_atom_limit)) ((i : ℕ) → Range figure_atom_limit i → Range sheet_atom_limit (atom_target p i))
      atoms = says-all-to (λ i. in_range sheet_atom_limit (atom_target p i)) (λ i. Range sheet_atom_limit (atom_target p i)) (λ i. says_range _ _) figure_atom_limit

      Different : ℕ → ℕ → Type 0
      Different i j = atom_target p i ≡ atom_target p j → i ≡ j

      different : Says (all_of (λ i. all_of (is_different S F p i) (numbers_to figure_atom_limit)) (numbers_to figure_atom_limit)) ((i : ℕ) → Range figure_atom_limit i → (j : ℕ) → Range figure_atom_limit j → Different i j)
      different = says-all-to (λ i. all_of (is_different S F p i) (numbers_to figure_atom_limit)) (λ i. (j : ℕ) → Range figure_atom_limit j → Different i j)
          (λ i. says-all-to (is_different S F p i) (Different i) (λ j. says-implies (says_eq _ _) (says_eq _ _)) figure_atom_limit) figure_atom_limit

      links : Says (all_of (λ x. in_range (suc S.links) (link_target p x)) (numbers_to F.links)) ((x : ℕ) → Range F.links x → Range (suc S.links) (link_target p x))
      links = says-all-to (λ x. in_range (suc S.links) (link_target p x)) (λ x. Range (suc S.links) (link_target p x)) (λ x. says_range _ _) F.links

      given : Says (all_of (given_right S F p) (numbers_to sheet_atom_limit)) ((j : ℕ) → Range sheet_atom_limit j → Given j)
      given = says-all-to (given_right S F p) Given says-given sheet_atom_limit

  pub says-across : (i : ℕ) → Says (across_test S F p i) (Across S F p i)
  says-across i = says-by (says-and (says_eq _ _) (says-list _ _)) (λ t. record { name = t.0; places = t.1 }) (λ t. (t.name, t.places))

  pub says-marks : Says (marks_test S F p) (SameMarks S F p)
  says-marks = says-by (says-and (says_all (mark_onward S F p) On on F.marks) (says_all (mark_backward S F p) Back back S.marks))
      (λ t. record { onward = λ x m h. onto x m (t.0 (x, m) h); backward = λ y m h. from m (t.1 (y, m) h) })
      (λ t. ((λ e h. ((link_target p e.0, e.1), t.onward e.0 e.1 h, (refl, refl))), (λ d h. let s = t.backward d.0 d.1 h in ((s.0, d.1), s.1, refl))))
    where
      On : ℕ × ℕ → Type 0
      On e = (d : ℕ × ℕ) × (d ∈ S.marks) × ((link_target p e.0 ≡ d.0) × (e.1 ≡ d.1))

      on : (e : ℕ × ℕ) → Says (mark_onward S F p e) (On e)
      on e = says_some _ (λ (d : ℕ × ℕ). (link_target p e.0 ≡ d.0) × (e.1 ≡ d.1)) (λ d. says-and (says_eq _ _) (says_eq _ _)) S.marks

      Back : ℕ × ℕ → Type 0
      Back d = (e : ℕ × ℕ) × (e ∈ F.marks) × (e.1 ≡ d.1)

      back : (d : ℕ × ℕ) → Says (mark_backward S F p d) (Back d)
      back d = says_some _ (λ (e : ℕ × ℕ). e.1 ≡ d.1) (λ e. says_eq _ _) F.marks

      onto : (x m : ℕ) → On (x, m) → (link_target p x, m) ∈ S.marks
      onto x m t = let e : ◌≡◌ {A = ℕ × ℕ} t.0 (link_target p x, m) = λ i. (sym t.2.0 i, sym t.2.1 i) in subst (λ (d : ℕ × ℕ). d ∈ S.marks) e t.1

      from : (m : ℕ) → (e : ℕ × ℕ) × (e ∈ F.marks) × (e.1 ≡ m) → (x : ℕ) × ((x, m) ∈ F.marks)
      from m t = (t.0.0, subst (λ (c : ℕ). (t.0.0, c) ∈ F.marks) t.2 t.1)

  pub says-port : (k y : ℕ) → Says (port_test S F p k y) (PortAt S F p k y)
  says-port k y = says-by
      (says_some _ Row (λ (row : NetCell). says-and (says_eq row.0 k) (says_some _ (λ x. link_target p x ≡ y) (λ x. says_eq (link_target p x) y) row.1)) F.contexts)
      (λ t. record { row = t.0; of-figure = t.1; number = t.2.0; link = t.2.1.0; port = t.2.1.1; there = t.2.1.2 })
      (λ t. (t.row, t.of-figure, (t.number, (t.link, t.port, t.there))))
    where
      Row : NetCell → Type 0
      Row row = (row.0 ≡ k) × ((x : ℕ) × (x ∈ row.1) × (link_target p x ≡ y))

  says-inside : (k y : ℕ) → Says (inside_test S F p k y) (Inside S F p k y)
  says-inside k y = says-by (says-and links (says-and marks atoms))
      (λ t. record { no-figure-link = t.0; no-mark = λ m h. t.1.0 (y, m) h refl; only-there = t.1.1 })
      (λ t. (t.no-figure-link, ((λ e h q. t.no-mark e.1 (subst (λ (z : ℕ). (z, e.1) ∈ S.marks) q h)), t.only-there)))
    where
      links : Says (all_of (λ x. not (eqb (link_target p x) y)) (numbers_to F.links)) ((x : ℕ) → Range F.links x → link_target p x ≢ y)
      links = says-all-to (λ x. not (eqb (link_target p x) y)) (λ x. link_target p x ≢ y) (λ x. says-not (says_eq _ _)) F.links

      marks : Says (all_of (λ (e : ℕ × ℕ). not (eqb e.0 y)) S.marks) ((e : ℕ × ℕ) → e ∈ S.marks → e.0 ≢ y)
      marks = says_all (λ (e : ℕ × ℕ). not (eqb e.0 y)) (λ (e : ℕ × ℕ). e.0 ≢ y) (λ e. says-not (says_eq _ _)) S.marks

      There : ℕ → Type 0
      There j = y ∈ (cell_at S.atoms j).1 → (¬ Taken S F p j) × (given_to p j ≡ k)

      atoms : Says (all_of (only_there S F p k y) (numbers_to sheet_atom_limit)) ((j : ℕ) → Range sheet_atom_limit j → There j)
      atoms = says-all-to (only_there S F p k y) There (λ j. says-implies (says-among _ _) (says-and (says-not (says-taken j)) (says_eq _ _))) sheet_atom_limit

  abbrev pub Own : ℕ → Type 0
  Own j = ¬ Taken S F p j → (y : ℕ) → y ∈ (cell_at S.atoms j).1 → PortAt S F p (given_to p j) y ⊎ Inside S F p (given_to p j) y

  pub says-own : (j : ℕ) → Says (own_links S F p j) (Own j)
  says-own j = record { sound = λ e n. onward n (tests.sound e); complete = λ f. go (is_taken S F p j) refl f }
    where
      Links : Type 0
      Links = (y : ℕ) → y ∈ (cell_at S.atoms j).1 → PortAt S F p (given_to p j) y ⊎ Inside S F p (given_to p j) y

      tests : Says (own_links S F p j) (Taken S F p j ⊎ Links)
      tests = says-or (says-taken j) (says_all _ (λ y. PortAt S F p (given_to p j) y ⊎ Inside S F p (given_to p j) y) (λ y. says-or (says-port _ y) (says-inside _ y)) (cell_at S.atoms j).1)

      onward : ¬ Taken S F p j → Taken S F p j ⊎ Links → Links
      onward n (inl t) = absurd (n t)
      onward n (inr f) = f

      go : (c : Bool) → is_taken S F p j ≡ c → Own j → own_links S F p j ≡ true
      go true e f = tests.complete (inl ((says-taken j).sound e))
      go false e f = tests.complete (inr (f (refuted (says-taken j) e)))

  pub says-good : Says (good_test S F p) (Good S F p)
  says-good = says-by
      (says-and says-sending (says-and (says-all-to (across_test S F p) (Across S F p) says-across figure_atom_limit) (says-and says-marks (says-and (says-linked S F p) (says-all-to (own_links S F p) Own says-own sheet_atom_limit)))))
      (λ t. record { sending = t.0; across = t.1.0; same-marks = t.1.1.0; linked = t.1.1.1.0; own-links = t.1.1.1.1 })
      (λ t. (t.sending, (t.across, (t.same-marks, (t.linked, t.own-links)))))

  -- For every placing, of whatever lengths.
  pub good-test : (good_test S F p ≡ true) ↔ Good S F p
  good-test = (says-good.sound, says-good.complete)
