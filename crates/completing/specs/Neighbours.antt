-- A plain way: an other atom between two sheet links, with nothing else there.
use Rattle.std.specs.Prelude.{ℕ, ◌≡◌, ◌⊎◌, ◌≢◌, length}
use Rattle.hyperlmntal.specs.Link.{◌∈◌}
use Rattle.placing.specs.Net.{NetCell, Net, Range}
use Rattle.placing.specs.Placing.{Placing, cell_at}
use Rattle.completing.specs.Fault.{Used, Other}

-- Other atom t leads from sheet link y to z and nowhere else: its further links are its own, no settled link goes to them or to
-- z, and z is on one more atom u.
pub record PlainStep (S F : Net) (q : Placing) (t u y z : ℕ) : Type 0 where
  pub step_other : Other S F q t
  pub from : y ∈ (cell_at S.atoms t).1
  pub onto : z ∈ (cell_at S.atoms t).1
  pub differ : y ≢ z
  pub next-other : Other S F q u
  pub next-on : z ∈ (cell_at S.atoms u).1
  pub only : (j : ℕ) → Range (length S.atoms) j → z ∈ (cell_at S.atoms j).1 → (j ≡ t) ⊎ (j ≡ u)
  pub unused : ¬ Used S F q z
  pub private : (w : ℕ) → w ∈ (cell_at S.atoms t).1 → w ≢ y → w ≢ z
      → (¬ Used S F q w) × ((j : ℕ) → Range (length S.atoms) j → w ∈ (cell_at S.atoms j).1 → j ≡ t)

-- Context rows with one number are one row.
abbrev pub OneEach : Net → Type 0
OneEach F = (row row' : NetCell) → row ∈ F.contexts → row' ∈ F.contexts → row.0 ≡ row'.0 → row ≡ row'
