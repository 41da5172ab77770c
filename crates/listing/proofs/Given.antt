-- What is read in the arrays of a placing is its fillings.
use Prim.Native.Nat.{ℕ, zero, suc, ◌+◌, ◌-◌, ◌<◌, ◌≤◌}
use mathlib.Core.Path.{◌≡◌, refl, ap, ap₂, sym, ◌∙◌}
use mathlib.Core.List.Memᴰ
use mathlib.Core.List.{List, [], ◌∷◌, ◌++◌, map, map-append, map-map, append_assoc}
use mathlib.Core.Bool.{Bool, true, false}
use native.Mathlib.Omega.{arith}
use lib.Dec.{eqb}
use lib.ListN.{length, get_or, take, length-map}
use lib.Seq.{take-suc, get_or-take, length-take-le}
use Rattle.hyperlmntal.specs.Link.{◌∈◌}
use Rattle.hyperlmntal.proofs.Lists.{map-agree}
use Rattle.rows.specs.Pick.{pick}
use Rattle.rows.specs.Limits.{sheet_atom_limit}
use Rattle.writing.specs.RowText.{row_bytes}
use Rattle.rows.specs.declared.Sheet as form
use Rattle.placing.specs.Net.{NetCell, Net, Range}
use Rattle.placing.specs.Placing.{Placing, cell_at}
use Rattle.placing.specs.Fillings.{places_of, symbol_of, mark_of, stands_on, port_rows, filling_for, normal_rows, normal_filling}
use Rattle.placing.specs.ListText.{rows_text, head_text, list_text}
use Rattle.network.specs.NetIn.{net_in, atom_in, atom_at, Fit}
use Rattle.network.proofs.NetIn.{atom-index}
use Rattle.listing.specs.Writing.{placing_in, given_below, given_cells, stands_at, port_links, filling_bytes, list_bytes}
use Rattle.listing.proofs.FillingRows.{marks_from, rows_of, rows-text}

-- One number more.
places-snoc : (s k : ℕ) (l : List ℕ) (n : ℕ) → places_of s k (l ++ (n ∷ [])) ≡ places_of s k l ++ pick (eqb n k) ((s + length l) ∷ []) []
unfolding places_of
places-snoc s k [] n = let a : s + 0 ≡ s = omega arith in rw a
places-snoc s k (m ∷ l) n = go (eqb m k) (places-snoc (suc s) k l n)
  where
    e : suc s + length l ≡ s + suc (length l)
    e = omega arith

    go : (t : Bool) → places_of (suc s) k (l ++ (n ∷ [])) ≡ places_of (suc s) k l ++ pick (eqb n k) ((suc s + length l) ∷ []) []
        → pick t (s ∷ places_of (suc s) k (l ++ (n ∷ []))) (places_of (suc s) k (l ++ (n ∷ []))) ≡ pick t (s ∷ places_of (suc s) k l) (places_of (suc s) k l) ++ pick (eqb n k) ((s + suc (length l)) ∷ []) []
    go true ih = ap (λ r. s ∷ r) (rw (← e) ih)
    go false ih = rw (← e) ih

module _ (sheet : form.Sheet) (fit : Fit sheet) (given : List ℕ) (room : length given ≡ sheet_atom_limit) (k : ℕ) where
  abbrev cell : ℕ → NetCell
  cell j = cell_at (net_in sheet).atoms j

  here : (i : ℕ) → i < sheet.atom_count → (t : Bool) → map cell (pick t ((1 + length (take i given)) ∷ []) []) ≡ pick t (atom_in (atom_at sheet i) ∷ []) []
  here i h true =
      let w : length (take i given) ≡ i = length-take-le i given (omega (arith, fit.atom-count)) in
      let q : 1 + length (take i given) ≡ i + 1 = omega arith in
      ap (λ c. c ∷ []) (ap cell q ∙ atom-index sheet fit i h)
  here i h false = refl

  given_below_lem : (i : ℕ) → i ≤ sheet.atom_count → map cell (places_of 1 k (take i given)) ≡ given_below sheet given k i
  unfolding given_below places_of
  given_below_lem zero h = refl
  given_below_lem (suc i) h =
      ap (λ l. map cell (places_of 1 k l)) (take-suc given i 0 (omega (arith, fit.atom-count)))
      ∙ ap (map cell) (places-snoc 1 k (take i given) (get_or given i 0))
      ∙ map-append cell (places_of 1 k (take i given)) (pick (eqb (get_or given i 0) k) ((1 + length (take i given)) ∷ []) [])
      ∙ ap₂ ◌++◌ (given_below_lem i (omega arith)) (here i (omega arith) (eqb (get_or given i 0) k))

port-rows : (S : Net) (p : Placing) (i : ℕ) (l : List ℕ) → port_rows S p i l ≡ map mark_of (marks_from i (map (stands_on S p) l))
port-rows S p i [] = refl
port-rows S p i (x ∷ l) = ap (λ r. mark_of (stands_on S p x, i) ∷ r) (port-rows S p (suc i) l)

module _ (sheet figure : form.Sheet) (fit : Fit sheet) (atoms links given : List ℕ) (room : length given ≡ sheet_atom_limit) where
  abbrev S : Net
  S = net_in sheet

  abbrev p : Placing
  p = placing_in sheet figure atoms links given

  stands : (x : ℕ) → Range figure.class_count x → stands_on S p x ≡ stands_at sheet.class_count links x
  stands x r = rw (get_or-take figure.class_count links (x - 1) 0 (let a : 1 ≤ x = r.0 in let b : x ≤ figure.class_count = r.1 in omega arith))

  abbrev InRange : NetCell → Type 0
  InRange c = (x : ℕ) → x ∈ c.1 → Range figure.class_count x

  -- The rows of one filling.
  pub filling-rows : (c : NetCell) → InRange c → (filling_for S p c).rows ≡ rows_of (given_cells sheet given c.0) (port_links sheet links c.1)
  filling-rows c r =
      ap₂ ◌++◌
      (sym (map-map symbol_of (cell_at S.atoms) (places_of 1 c.0 p.given)) ∙ ap (map symbol_of) (given_below_lem sheet fit given room c.0 sheet.atom_count (omega arith)))
      (port-rows S p 1 c.1 ∙ ap (λ l. map mark_of (marks_from 1 l)) (map-agree (stands_on S p) (stands_at sheet.class_count links) c.1 (λ x m. stands x (r x m))))

  filling-bytes : (c : NetCell) → InRange c → head_text (normal_filling (filling_for S p c)) ++ rows_text (normal_filling (filling_for S p c)).rows ≡ filling_bytes sheet links given c
  unfolding filling_bytes
  filling-bytes c r =
      rw (length-map c.1 (stands_at sheet.class_count links))
      (ap (λ t. row_bytes 72 (c.0 ∷ length c.1 ∷ []) ++ t) (ap (λ q. rows_text (normal_rows q)) (filling-rows c r) ∙ rows-text (given_cells sheet given c.0) (port_links sheet links c.1)))

  -- The list of fillings of some contexts.
  pub list-bytes : (l : List NetCell) → ((c : NetCell) → c ∈ l → InRange c) → list_text (map normal_filling (map (filling_for S p) l)) ≡ list_bytes sheet links given l
  unfolding list_text list_bytes
  list-bytes [] r = refl
  list-bytes (c ∷ l) r =
      sym (append_assoc (head_text (normal_filling (filling_for S p c))) (rows_text (normal_filling (filling_for S p c)).rows) (list_text (map normal_filling (map (filling_for S p) l))))
      ∙ ap₂ ◌++◌ (filling-bytes c (r c (Memᴰ.head refl))) (list-bytes l (λ d m. r d (Memᴰ.tail m)))
