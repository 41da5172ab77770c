-- The marks of a net in two arrays: the marks, and the link of each.
use Rattle.std.specs.Prelude.{ℕ, ◌+◌, ◌*◌, ◌-◌, ◌≤◌, ◌<◌, ◌≡◌, Bool, true, List, [], ◌∷◌, get_or}
use Rattle.rows.specs.Limits.{sheet_link_limit, sheet_marks}
use Rattle.rows.specs.declared.Sheet.{Sheet as NormalForm}
use Rattle.placing.specs.Net.{Range, Normal}
use Rattle.network.specs.NetIn.{net_in, Fit}
use Rattle.candidates.specs.Words.{empty_pair}

-- n marks, whose links are numbers of links
pub record MarkLinks (marked : List ℕ) (n : ℕ) : Type 0 where
  pub few : n ≤ sheet_marks
  pub numbered : (p : ℕ) → p < n → Range sheet_link_limit (get_or marked p 0)

-- the n marks of a net in normal form
pub record MarksIn (net : NormalForm) (marks marked : List ℕ) (n : ℕ) : Type 0 where
  pub count : net.mark_count ≡ n
  pub fit : Fit net
  pub normal : Normal (net_in net)
  pub same-marks : net.marks ≡ marks
  pub same-marked : net.marked ≡ marked

-- whether the link of mark p may go nowhere
abbrev pub lost_at : List ℕ → List ℕ → ℕ → Bool
lost_at marked links p = empty_pair (get_or links ((get_or marked p 0 - 1) * 2) 0 ∷ get_or links ((get_or marked p 0 - 1) * 2 + 1) 0 ∷ [])

-- one of the first m marks is on such a link
abbrev pub MarkLost : List ℕ → ℕ → List ℕ → Type 0
MarkLost marked m links = (p : ℕ) × (p < m) × (lost_at marked links p ≡ true)
