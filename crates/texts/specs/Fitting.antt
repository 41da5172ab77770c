-- Document 01, 'Rows' and 'Numbers': rows whose numbers are in range, within the limits of a kind of text.
use Rattle.std.specs.Prelude.{ℕ, ◌≤◌, List, length}
use Rattle.hyperlmntal.specs.Link.{◌∈◌}
use Rattle.rows.specs.Format.{most_links, most_name, most_number}
use Rattle.rows.specs.Limits.{sheet_marks}
use Rattle.sheet.specs.Kinds.{link_limit}
use Rattle.sheet.specs.declared.kind.Kind.{Kind}

-- an S or B row to be written: its name or number, and its joints
abbrev pub Vertex : Type 0
Vertex = ℕ × List ℕ

-- the joints and marks that a text, or one filling of a list, may have: in range, and no more than the limits of its kind
pub record Stock (kind : Kind) (joints marks : List ℕ) : Type 0 where
  pub joint-range : (x : ℕ) → x ∈ joints → (1 ≤ x) × (x ≤ most_number)
  pub mark-range : (m : ℕ) → m ∈ marks → (1 ≤ m) × (m ≤ most_name)
  pub few-joints : length joints ≤ link_limit kind
  pub few-marks : length marks ≤ sheet_marks

-- an S or B row over these joints, its name or number from 1 to `high`
pub record Fitting (joints : List ℕ) (high : ℕ) (v : Vertex) : Type 0 where
  pub name : (1 ≤ v.0) × (v.0 ≤ high)
  pub count : length v.1 ≤ most_links
  pub known : (x : ℕ) → x ∈ v.1 → x ∈ joints
