-- Document 01's 'Plausible and wrong', as other notions of good placings and other fillings. Each changes Good, or the fillings,
-- in one place, as the must-fail edit named with it does.
use Rattle.std.specs.Prelude.{ℕ, suc, ◌+◌, ◌≡◌, ◌⊎◌, ◌≢◌, ◌↔◌, List, [], ◌∷◌, ◌++◌, map, eqb, ltb, length}
use Rattle.hyperlmntal.specs.Link.{◌∈◌}
use Rattle.hyperlmntal.specs.Congruence.{◌≅◌}
use Rattle.rows.specs.Pick.{pick}
use Rattle.placing.specs.Net.{NetCell, Net, Range, net_term, NormalSheet, NormalPattern}
use Rattle.placing.specs.Placing.{Placing, cell_at, link_target, given_to, Taken, At, Linked, Sending, Across, SameMarks, PortAt, Inside}
use Rattle.placing.specs.Fillings.{Row, edge_row, Filling, Fits, places_of, by_number, stands_on, given_rows}
use Rattle.placing.specs.Holding.{holding}

-- Somebody can write fillings of any size that turn the figure into the sheet.
abbrev pub Fillable : Net → Net → Type 0
Fillable S F = (θ : List Filling) × Fits F θ × (holding F θ ≅ net_term S)

-- Theorem D with a notion of good placings.
abbrev pub TheoremD : (Net → Net → Placing → Type 0) → Type 0
TheoremD G = (S F : Net) → NormalSheet S → NormalPattern F → Fillable S F ↔ ((p : Placing) × G S F p)

module _ (S F : Net) (p : Placing) where
  -- Good, with the conditions on marks, on links that go to one sheet link and on the links of given atoms left open.
  pub record GoodBy (Marks Sharing Own : Type 0) : Type 0 where
    pub sending : Sending S F p
    pub across : (i : ℕ) → Range (length F.atoms) i → Across S F p i
    pub same-marks : Marks
    pub linked : Sharing
    pub own-links : Own

  abbrev pub SharingLinked : Type 0
  SharingLinked = (x x' y : ℕ) → At S F p x y → At S F p x' y → Linked S F p y x x'

  abbrev pub OwnOr : (ℕ → ℕ → Type 0) → Type 0
  OwnOr Inner = (j : ℕ) → Range (length S.atoms) j → ¬ Taken S F p j → (y : ℕ) → y ∈ (cell_at S.atoms j).1 → PortAt S F p (given_to p j) y ⊎ Inner (given_to p j) y

  -- 'Letting two figure joints share a sheet joint with no blank between': shared_without_blank
  abbrev pub SharedGood : Type 0
  SharedGood = GoodBy (SameMarks S F p) ((x x' y : ℕ) → At S F p x y → At S F p x' y → Linked S F p y x x) (OwnOr (Inside S F p))

  -- 'Dropping a mark that touches no symbol': mark_without_symbol
  pub record MarksOfAtoms : Type 0 where
    pub onward : (x m : ℕ) → (x, m) ∈ F.marks → (link_target p x, m) ∈ S.marks
    pub backward : (y m : ℕ) → (y, m) ∈ S.marks → (x : ℕ) × ((j : ℕ) → y ∈ (cell_at S.atoms j).1 → (x, m) ∈ F.marks)

  abbrev pub DroppedGood : Type 0
  DroppedGood = GoodBy MarksOfAtoms SharingLinked (OwnOr (Inside S F p))

  -- 'Giving the joint between two blanks' symbols to one of them as inner': inner_between_blanks
  pub record InsideAny (k y : ℕ) : Type 0 where
    pub no-figure-link : (x : ℕ) → Range F.links x → link_target p x ≢ y
    pub no-mark : (m : ℕ) → ¬ ((y, m) ∈ S.marks)
    pub only-there : (j : ℕ) → Range (length S.atoms) j → y ∈ (cell_at S.atoms j).1 → (¬ Taken S F p j) × (given_to p j ≡ given_to p j)

  abbrev pub InnerGood : Type 0
  InnerGood = GoodBy (SameMarks S F p) SharingLinked (OwnOr InsideAny)

module _ (S : Net) (p : Placing) where
  -- The fillings, with the rows for the ports left open.
  abbrev pub fillings_by : (ℕ → List ℕ → List Row) → Net → List Filling
  fillings_by ports F = map (λ (c : NetCell). record { number = c.0; ports = length c.1; rows = given_rows S p c.0 ++ ports 1 c.1 }) (by_number F.contexts)

  -- 'Supplying a fusion only where a local joint meets a mark': fusion_at_mark_only
  abbrev pub stands_at_mark : ℕ → ℕ
  stands_at_mark x = pick (eqb (length (places_of 1 (link_target p x) (map (λ (e : ℕ × ℕ). e.0) S.marks))) 0) (S.links + x) (link_target p x)

  abbrev pub ports_at_marks : ℕ → List ℕ → List Row
  ports_at_marks i [] = []
  ports_at_marks i (x ∷ l) = edge_row (stands_at_mark x) i ∷ ports_at_marks (suc i) l

  abbrev pub fillings_at_marks : Net → List Filling
  fillings_at_marks F = fillings_by ports_at_marks F

  -- A port that goes to none is left out with its mark, which touches no symbol: port_to_none
  abbrev pub ports_somewhere : ℕ → List ℕ → List Row
  ports_somewhere i [] = []
  ports_somewhere i (x ∷ l) = pick (ltb S.links (link_target p x)) (ports_somewhere (suc i) l) (edge_row (stands_on S p x) i ∷ ports_somewhere (suc i) l)

  abbrev pub fillings_somewhere : Net → List Filling
  fillings_somewhere F = fillings_by ports_somewhere F
