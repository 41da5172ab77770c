-- What the steps of taking in the links and marks of a row ask of the arrays of a text, and what they make of them.
use Rattle.std.specs.Prelude.{ℕ, suc, ◌+◌, ◌-◌, ◌%◌, ◌<◌, ◌≤◌, ◌≡◌, List, [], ◌∷◌, ◌++◌, map, eqb, ltb, length, take, drop, get_or}
use Rattle.rows.specs.Pick.{pick, and}
use Rattle.rows.specs.Format.{fusion_letter, edge_letter, head_letter, rules}
use Rattle.rows.specs.Limits.{sheet_atom_limit, figure_contexts, sheet_marks, filling_links, link_room, mark_room}
use Rattle.rows.specs.Held.{Wiring, index_of, with_link, with_links, with_fusion, with_mark, no_wiring}
use Rattle.rows.specs.Packed.{padded}
use Rattle.rows.specs.TextArrays.{TextArrays}
use Rattle.rows.specs.declared.row.Row.{Row}
use Rattle.rows.specs.declared.row.Rule.{Rule}

-- no number of a list stands in it twice: each is found at its own place
abbrev pub Distinct : List ℕ → Type 0
Distinct l = (p : ℕ) → p < length l → index_of (get_or l p 0) l ≡ p

-- each link stands once and has its class, and each mark its place, which is a link's
pub record Wired (w : Wiring) : Type 0 where
  pub distinct : Distinct w.links
  pub classed : length w.classes ≡ length w.links
  pub placed : length w.marked ≡ length w.marks
  pub within : (p : ℕ) → p < length w.marks → get_or w.marked p 0 < length w.links

-- the arrays and the count are those of the links and classes of w
pub record Linked (w : Wiring) (links classes : List ℕ) (n : ℕ) : Type 0 where
  pub numbers : links ≡ padded link_room 0 w.links
  pub labels : classes ≡ padded link_room 0 w.classes
  pub count : n ≡ length w.links

-- the second arrays are those of what f makes of the wiring whose arrays the first are
abbrev pub Relinks : List ℕ → List ℕ → ℕ → List ℕ → List ℕ → ℕ → (Wiring → Wiring) → Type 0
Relinks links classes n links' classes' n' f = (w : Wiring) → Wired w → Linked w links classes n → Linked (f w) links' classes' n'

-- how many links there are with the one at place p: one more than n where it was put behind them
abbrev pub count_with : ℕ → ℕ → ℕ
count_with n p = pick (eqb p n) (n + 1) n

-- p is the place of x among the links of the wiring whose arrays the first are, or the next where it
-- is not there; the second are those of the wiring with x
abbrev pub Places : List ℕ → List ℕ → ℕ → List ℕ → List ℕ → ℕ → ℕ → Type 0
Places links classes n links' classes' x p = (w : Wiring) → Wired w → Linked w links classes n → (p ≡ index_of x w.links) × Linked (with_link w x) links' classes' (count_with n p)

-- how many hints there are, and where that of link x stands
abbrev pub hint_count : ℕ
hint_count = 256

unfoldable pub hint_at : ℕ → ℕ
hint_at x = x % hint_count

-- none of the first n links has 0 as its hint
pub record Hinted (hints links : List ℕ) (n : ℕ) : Type 0 where
  pub wide : length hints ≡ hint_count
  pub seen : (p : ℕ) → p < n → get_or hints (hint_at (get_or links p 0)) 0 ≡ 0 → ⊥

-- the place of x among the first n links, as the hints say: n where there are not so many links, or where its hint is 0;
-- the place that the hint names, where x is there; else the first place of x, or n
abbrev pub place_by : List ℕ → ℕ → ℕ → List ℕ → ℕ
place_by links n x hints =
    let hint = get_or hints (hint_at x) 0 in
    let named = and (ltb (hint - 1) n) (eqb (get_or links (hint - 1) 0) x) in
    pick (ltb (length links) n) n (pick (eqb hint 0) n (pick named (hint - 1) (index_of x (take n links))))

-- how many of n links or marks are gone with a row of this letter: a head begins a filling, which has none
abbrev pub gone : ℕ → ℕ → ℕ
gone letter n = pick (eqb letter head_letter) n 0

-- a list with its first n numbers made 0
abbrev pub cleared : ℕ → List ℕ → List ℕ
cleared n l = map (λ x. 0) (take n l) ++ drop n l

-- of the rules of a letter's fields, the place of the first that is a link's
unfoldable pub first_link_in : List Rule → ℕ
first_link_in [] = 0
first_link_in (rule ∷ l) = pick rule.link 0 (suc (first_link_in l))

-- how many links fields with these rules hold, in a row with this count: one each, or as many as the count where they
-- are counted
unfoldable pub link_count_in : List Rule → ℕ → ℕ
link_count_in [] count = 0
link_count_in (rule ∷ l) count = pick rule.link (pick rule.counted count (suc (link_count_in l count))) (link_count_in l count)

-- the field of a row's first link, by its letter, and how many links it has
abbrev pub first_link : ℕ → ℕ
first_link letter = first_link_in (get_or rules letter [])

abbrev pub link_total : ℕ → List ℕ → ℕ
link_total letter nums = link_count_in (get_or rules letter []) (get_or nums 1 0)

-- a row's links, by their places from 0
abbrev pub link_at : Row → ℕ → ℕ
link_at r k = get_or r.nums (first_link r.letter + k) 0

-- what a row makes of links and classes
abbrev pub linked_by : Row → Wiring → Wiring
linked_by r w =
    let u = pick (eqb r.letter head_letter) no_wiring w in
    let v = with_links u (take (link_total r.letter r.nums) (drop (first_link r.letter) r.nums)) in
    pick (eqb r.letter fusion_letter) (with_fusion v (link_at r 0) (link_at r 1)) v

-- the arrays and the count are those of the marks of w
pub record Marked (w : Wiring) (marks marked : List ℕ) (n : ℕ) : Type 0 where
  pub numbers : marks ≡ padded mark_room 0 w.marks
  pub places : marked ≡ padded mark_room 0 w.marked
  pub count : n ≡ length w.marks

-- the arrays are those of w
abbrev pub Tied : Wiring → List ℕ → List ℕ → ℕ → List ℕ → List ℕ → ℕ → Type 0
Tied w links classes n marks marked m = Linked w links classes n × Marked w marks marked m

abbrev pub no_marks : Wiring → Wiring
no_marks w = record { links = w.links; classes = w.classes; marks = []; marked = [] }

-- what a row makes of marks
abbrev pub marked_by : Row → Wiring → Wiring
marked_by r w = pick (eqb r.letter edge_letter) (with_mark w (link_at r 0) (get_or r.nums 1 0)) (pick (eqb r.letter head_letter) (no_marks w) w)

-- a sheet that has room for one row more
pub record Room (s : TextArrays) : Type 0 where
  pub atoms : s.atom_count ≤ sheet_atom_limit
  pub contexts : s.context_count ≤ figure_contexts
  pub links : s.link_count ≤ filling_links
  pub marks : s.mark_count ≤ sheet_marks
  pub places : (p : ℕ) → get_or s.marked p 0 < filling_links
