-- Reading back the text of a list of fillings: it passes, and what is held has its heads and its atoms.
use Prim.Native.Nat.{ℕ, suc, ◌+◌, ◌-◌, ◌≤◌}
use mathlib.Core.Path.{◌≡◌, refl, sym, ap, ◌∙◌, subst}
use mathlib.Core.List.Memᴰ
use mathlib.Core.List.{List, [], ◌∷◌, ◌++◌, map, map-append, append-nil}
use native.Mathlib.Omega.{arith}
use lib.ListN.{length, length-append, length-map}
use Rattle.hyperlmntal.specs.Link.{◌∈◌}
use Rattle.rows.specs.Limits.{row_limit, figure_contexts, sheet_atom_limit}
use Rattle.rows.specs.Held.{Held, nothing, with_head}
use Rattle.rows.specs.declared.Atom.{Atom}
use Rattle.rows.specs.declared.Context.{Context}
use Rattle.sheet.specs.Reading.{last_number, passed, read_from, outcome_of, no_ports}
use Rattle.sheet.specs.declared.kind.Kind.TheVariants.{Fillings}
use Rattle.sheet.specs.declared.answer.Answer.TheVariants.{Passed}
use Rattle.sheet.proofs.read.ReadingLaws.{read_none}
use Rattle.texts.proofs.Went.{Went, went-none, went_then}
use Rattle.texts.proofs.Few.{few-none}
use Rattle.texts.specs.Fitting.{Stock}
use Rattle.texts.proofs.BuiltRows.{held_atom, head_nums, held_head, went-head, Stocked, Led, led-none, led-then}
use Rattle.placing.specs.Fillings.{Row, symbol_row, point_row, edge_row, Filling}
use Rattle.placing.specs.ListText.{rows_text, list_text}
use Rattle.placing.specs.ListFits.{symbols_in, RowFits, points_in, edges_in, list_atoms, list_rows, Ascends, FillingFits, ListFits}
use Rattle.placing.proofs.ListRows.{one-row}

-- The head of a filling that is held: its number and port count, and its row.
abbrev pub head_of : Filling → ℕ → Context
head_of f row = held_head f.number f.ports row

-- The heads that are held, the first of them in the row after this one.
abbrev pub list_heads : ℕ → List Filling → List Context
list_heads row [] = []
list_heads row (f ∷ θ) = head_of f (row + 1) ∷ list_heads (row + (1 + length f.rows)) θ

-- The first row's atoms, and those of the others.
symbols-split : (r : Row) (l : List Row) → symbols_in (r ∷ l) ≡ symbols_in (r ∷ []) ++ symbols_in l
symbols-split (symbol_row a k) l = refl
symbols-split (point_row x y) l = refl
symbols-split (edge_row x m) l = refl

points-split : (r : Row) (l : List Row) → points_in (r ∷ l) ≡ points_in (r ∷ []) ++ points_in l
points-split (symbol_row a k) l = refl
points-split (point_row x y) l = refl
points-split (edge_row x m) l = refl

edges-split : (r : Row) (l : List Row) → edges_in (r ∷ l) ≡ edges_in (r ∷ []) ++ edges_in l
edges-split (symbol_row a k) l = refl
edges-split (point_row x y) l = refl
edges-split (edge_row x m) l = refl

same-went : {given : List ℕ} {g h : Held} {k : ℕ} {text : List ℕ} {A C : List Atom} {B : List Context} → A ≡ C → Went Fillings given g h k text A B → Went Fillings given g h k text C B
same-went e w = rw (← e) w

same-led : {given links marks : List ℕ} {g h : Held} {k : ℕ} {text : List ℕ} {A C : List Atom} {P Q E U : List (ℕ × ℕ)} → A ≡ C → P ≡ Q → E ≡ U
    → Led Fillings given links marks g h k text A [] P E → Led Fillings given links marks g h k text C [] Q U
same-led a p e w = rw (← a, ← p, ← e) w

-- The rows of a filling.
went-rows : (given links marks : List ℕ) (stock : Stock Fillings links marks) (l : List Row) (g : Held) → Stocked Fillings links marks g
    → ((r : Row) → r ∈ l → RowFits links marks r) → length g.contexts ≤ figure_contexts → length g.atoms + length (symbols_in l) ≤ sheet_atom_limit → g.rows + length l ≤ row_limit
    → (h : Held) × Led Fillings given links marks g h (length l) (rows_text l) (map held_atom (symbols_in l)) [] (points_in l) (edges_in l)
unfolding rows_text
went-rows given links marks stock [] g s p heads atoms rows = (g, led-none Fillings given links marks g s)
went-rows given links marks stock (r ∷ l) g s p heads atoms rows =
    let e : length (symbols_in (r ∷ l)) ≡ length (symbols_in (r ∷ [])) + length (symbols_in l) = ap length (symbols-split r l) ∙ length-append (symbols_in (r ∷ [])) (symbols_in l) in
    let a = one-row given links marks stock g s (omega arith) heads r (p r (Memᴰ.head refl)) (omega arith) in
    let h = a.0 in
    let n : length h.atoms ≡ length g.atoms + length (symbols_in (r ∷ [])) = ap length a.1.went.atoms ∙ length-append g.atoms (map held_atom (symbols_in (r ∷ []))) ∙ ap (λ k. length g.atoms + k) (length-map (symbols_in (r ∷ [])) held_atom) in
    let c : length h.contexts ≡ length g.contexts = ap length (a.1.went.contexts ∙ append-nil g.contexts) in
    let b = went-rows given links marks stock l h a.1.stocked (λ q i. p q (Memᴰ.tail i)) (omega arith) (omega arith) (omega (arith, a.1.went.rows)) in
    let w = led-then Fillings given links marks g h b.0 1 (length l) (suc (length l)) _ _ _ _ _ _ _ _ _ _ (omega arith) a.1 b.1 in
    (b.0, same-led (sym (map-append held_atom (symbols_in (r ∷ [])) (symbols_in l)) ∙ ap (map held_atom) (sym (symbols-split r l))) (sym (points-split r l)) (sym (edges-split r l)) w)

last-number : (l : List Context) (c : Context) → last_number (l ++ (c ∷ [])) ≡ c.number
unfolding last_number
last-number [] c = refl
last-number (b ∷ []) c = refl
last-number (b ∷ d ∷ l) c = last-number (d ∷ l) c

-- What is taken from the rows of the last filling, d where there is none.
abbrev pub of_last : (List Row → List (ℕ × ℕ)) → List (ℕ × ℕ) → List Filling → List (ℕ × ℕ)
of_last k d [] = d
of_last k d (f ∷ θ) = of_last k (k f.rows) θ

-- What the fillings of a list lead to.
record Through (given : List ℕ) (g : Held) (θ : List Filling) : Type 0 where
  to : Held
  went : Went Fillings given g to (list_rows θ) (list_text θ) (map held_atom (list_atoms θ)) (list_heads g.rows θ)
  points : to.fusions ≡ of_last points_in g.fusions θ
  edges : to.edges ≡ of_last edges_in g.edges θ

went-list : (given : List ℕ) (θ : List Filling) (g : Held) → Ascends (last_number g.contexts) θ → ((f : Filling) → f ∈ θ → FillingFits f)
    → length g.contexts ≤ last_number g.contexts → length g.atoms + length (list_atoms θ) ≤ sheet_atom_limit → g.rows + list_rows θ ≤ row_limit → Through given g θ
unfolding list_text with_head
went-list given [] g up p few atoms rows = record { to = g; went = went-none Fillings given g; points = refl; edges = refl }
went-list given (f ∷ θ) g up p few atoms rows =
    let q = p f (Memᴰ.head refl) in
    let n : length (list_atoms (f ∷ θ)) ≡ length (symbols_in f.rows) + length (list_atoms θ) = length-append (symbols_in f.rows) (list_atoms θ) in
    let a = went-head given f.number f.ports g (omega arith) q.number q.ports up.0 (omega arith) (omega (arith, up.0, q.number.1)) in
    let h = with_head g (head_nums f.number f.ports) in
    let c : length h.contexts ≡ length g.contexts + 1 = length-append g.contexts (head_of f (g.rows + 1) ∷ []) in
    let s : Stocked Fillings q.links q.marks h = record { own-joints = few-none q.links; own-marks = few-none q.marks; headed = λ e. omega arith } in
    let b = went-rows given q.links q.marks q.stock f.rows h s q.each (omega (arith, up.0, q.number.1)) (omega arith) (omega arith) in
    let k = b.0 in
    let m : length k.atoms ≡ length g.atoms + length (symbols_in f.rows) = ap length b.1.went.atoms ∙ length-append g.atoms (map held_atom (symbols_in f.rows)) ∙ ap (λ i. length g.atoms + i) (length-map (symbols_in f.rows) held_atom) in
    let d : k.contexts ≡ g.contexts ++ (head_of f (g.rows + 1) ∷ []) = b.1.went.contexts ∙ append-nil h.contexts in
    let e : last_number k.contexts ≡ f.number = ap last_number d ∙ last-number g.contexts (head_of f (g.rows + 1)) in
    let i : length k.contexts ≡ length g.contexts + 1 = ap length d ∙ c in
    let j : k.rows ≡ g.rows + (1 + length f.rows) = omega (arith, b.1.went.rows) in
    let t = went-list given θ k (rw e up.1) (λ z y. p z (Memᴰ.tail y)) (omega (arith, up.0)) (omega arith) (omega arith) in
    let v : Went Fillings given k t.to (list_rows θ) (list_text θ) (map held_atom (list_atoms θ)) (list_heads (g.rows + (1 + length f.rows)) θ) = subst (λ n. Went Fillings given k t.to (list_rows θ) (list_text θ) (map held_atom (list_atoms θ)) (list_heads n θ)) j t.went in
    let w = went_then Fillings given h k t.to (length f.rows) (list_rows θ) (length f.rows + list_rows θ) _ _ _ _ _ _ refl b.1.went v in
    let u = went_then Fillings given g h t.to 1 (length f.rows + list_rows θ) (list_rows (f ∷ θ)) _ _ _ _ _ _ (omega arith) a w in
    record {
      to = t.to;
      went = same-went (sym (map-append held_atom (symbols_in f.rows) (list_atoms θ))) u;
      points = t.points ∙ ap (λ z. of_last points_in z θ) b.1.fusions;
      edges = t.edges ∙ ap (λ z. of_last edges_in z θ) b.1.edges;
    }

module _ (θ : List Filling) (fits : ListFits θ) where
  through : Through no_ports nothing θ
  unfolding last_number
  through = went-list no_ports θ nothing fits.ascends fits.fillings (omega arith) (omega (arith, fits.few-atoms)) (omega (arith, fits.few-rows))

  outcome : outcome_of Fillings no_ports (list_text θ) ≡ passed through.to
  unfolding outcome_of
  outcome =
      ap (read_from (row_limit + 1) Fillings no_ports nothing) (sym (append-nil (list_text θ)))
      ∙ through.went.read (row_limit + 1) (row_limit + 1 - list_rows θ) [] (omega (arith, fits.few-rows))
      ∙ read_none (row_limit + 1 - list_rows θ) Fillings no_ports through.to

  -- The text of the list passes.
  pub list-passes : (outcome_of Fillings no_ports (list_text θ)).answer ≡ Passed
  list-passes = ap (λ o. o.answer) outcome

  -- Its atoms are held in order, and its heads with their rows.
  pub list-atoms : (outcome_of Fillings no_ports (list_text θ)).held.atoms ≡ map held_atom (list_atoms θ)
  list-atoms = ap (λ o. o.held.atoms) outcome ∙ through.went.atoms

  pub list-heads : (outcome_of Fillings no_ports (list_text θ)).held.contexts ≡ list_heads 0 θ
  list-heads = ap (λ o. o.held.contexts) outcome ∙ through.went.contexts

  -- The fusions and edges that are held are those of the last filling.
  pub list-points : (outcome_of Fillings no_ports (list_text θ)).held.fusions ≡ of_last points_in [] θ
  list-points = ap (λ o. o.held.fusions) outcome ∙ through.points

  pub list-edges : (outcome_of Fillings no_ports (list_text θ)).held.edges ≡ of_last edges_in [] θ
  list-edges = ap (λ o. o.held.edges) outcome ∙ through.edges
