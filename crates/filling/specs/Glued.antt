-- Labels of the link classes of a figure and of the fillings put in, and how ports make them one.
use Rattle.std.specs.Prelude.{ℕ, ◌+◌, ◌*◌, ◌<◌, ◌≤◌, ◌≡◌, ◌⊎◌, List, [], ◌∷◌, ◌++◌, map, length, take, get_or}
use Rattle.rows.specs.Held.{relabelled}
use Rattle.rows.specs.declared.Context.{Context}
use Rattle.rows.specs.declared.Sheet.{Sheet as Normal}
use Rattle.filling.specs.Parts.{part_normal, part_room, places}

-- class n of part p
abbrev pub place_of : ℕ → ℕ → ℕ
place_of p n = p * part_room + n

-- each place has a label of its own
pub record Own (labels : List ℕ) : Type 0 where
  pub size : length labels ≡ places
  pub own : (k : ℕ) → k < places → get_or labels k 0 ≡ k

-- the places from n on have labels of their own, and those before n have no label of theirs; a label is a place's own or the figure's
pub record FreshFrom (n : ℕ) (labels : List ℕ) : Type 0 where
  pub size : length labels ≡ places
  pub low : (k : ℕ) → k < n → get_or labels k 0 < n
  pub own : (k : ℕ) → n ≤ k → k < places → get_or labels k 0 ≡ k
  pub rooted : (k : ℕ) → k < places → (get_or labels k 0 ≡ k) ⊎ (get_or labels k 0 < part_room)

-- the labels of two places made one
abbrev pub joined_at : List ℕ → ℕ × ℕ → List ℕ
joined_at labels e = map (relabelled (get_or labels e.1 0) (get_or labels e.0 0)) labels

unfoldable pub joined_all : List ℕ → List (ℕ × ℕ) → List ℕ
joined_all labels [] = labels
joined_all labels (e ∷ l) = joined_all (joined_at labels e) l

-- mark i of part p is link i of its context
unfoldable pub port_pairs : ℕ → List ℕ → List ℕ → List (ℕ × ℕ)
port_pairs p [] marked = []
port_pairs p (x ∷ links) [] = []
port_pairs p (x ∷ links) (m ∷ marked) = (x, place_of p m) ∷ port_pairs p links marked

abbrev pub context_pairs : List ℕ → ℕ → Context → List (ℕ × ℕ)
context_pairs list p c = port_pairs p (take c.count c.links) (take c.count (part_normal list c.number).marked)

-- of contexts of which the first is part p
unfoldable pub all_pairs : List ℕ → ℕ → List Context → List (ℕ × ℕ)
all_pairs list p [] = []
all_pairs list p (c ∷ l) = context_pairs list p c ++ all_pairs list (p + 1) l

-- the labels when every context of the figure has its filling
abbrev pub Glues : List ℕ → Normal → List ℕ → Type 0
Glues list figure labels = (own : List ℕ) × Own own × (labels ≡ joined_all own (all_pairs list 1 (take figure.context_count figure.contexts)))
