-- Document 01, 'Rows': what the fields of a good row hold, for each letter.
use Rattle.std.specs.Prelude.{ℕ, ◌+◌, ◌<◌, ◌≤◌, ◌≡◌, List, get_or}
use Rattle.rows.specs.Format.{most_links, most_name, most_number, most_context}

-- a number of a range: 'low..high'
abbrev pub Within : ℕ → ℕ → ℕ → Type 0
Within low n high = (low ≤ n) × (n ≤ high)

-- 'joint count n 0..6, then n joints'; 'joints are 1..9999', and every other field is blank, which reads as 0
pub record Linked (nums : List ℕ) : Type 0 where
  pub count : get_or nums 1 0 ≤ most_links
  pub used : (k : ℕ) → k < get_or nums 1 0 → Within 1 (get_or nums (2 + k) 0) most_number
  pub unused : (k : ℕ) → get_or nums 1 0 ≤ k → get_or nums (2 + k) 0 ≡ 0

-- '`S` symbol: name 1..999, joint count n 0..6, then n joints'
pub record AtomNums (nums : List ℕ) : Type 0 where
  pub name : Within 1 (get_or nums 0 0) most_name
  pub links : Linked nums

-- '`B` blank: number 1..4, port count n 0..6, then n joints'
pub record ContextNums (nums : List ℕ) : Type 0 where
  pub number : Within 1 (get_or nums 0 0) most_context
  pub links : Linked nums

-- '`F` one point: two joints, perhaps equal'
pub record FusionNums (nums : List ℕ) : Type 0 where
  pub first : Within 1 (get_or nums 0 0) most_number
  pub second : Within 1 (get_or nums 1 0) most_number

-- '`E` edge: a joint, a mark 1..999'
pub record MarkNums (nums : List ℕ) : Type 0 where
  pub link : Within 1 (get_or nums 0 0) most_number
  pub mark : Within 1 (get_or nums 1 0) most_name

-- '`H` head of a filling: blank number 1..4, port count 0..6'
pub record HeadNums (nums : List ℕ) : Type 0 where
  pub number : Within 1 (get_or nums 0 0) most_context
  pub count : get_or nums 1 0 ≤ most_links
