-- The list of fillings of a good placing can be written: numbers ascend, and it keeps within the limits of a list.
use Prim.Native.Nat.{ℕ, ◌+◌, ◌*◌, ◌<◌, ◌≤◌}
use mathlib.Core.Path.{◌≡◌, refl, sym, ap, ◌∙◌, subst}
use mathlib.Core.Bool.{Bool, true, false}
use mathlib.Core.List.Memᴰ
use mathlib.Core.List.{List, [], ◌∷◌, ◌++◌, map}
use mathlib.Core.Logic.{◌⊎◌, inl, inr, ◌≢◌}
use native.Mathlib.Omega.{arith}
use borrow.Author.Tests.{ltb-true, ltb-false}
use lib.Dec.{ltb}
use lib.ListN.{length, get_or, length-append, length-map}
use Rattle.hyperlmntal.specs.Link.{◌∈◌}
use Rattle.rows.specs.Pick.{pick}
use Rattle.rows.specs.Format.{most_links, most_name, most_context}
use Rattle.rows.specs.Limits.{sheet_atom_limit, sheet_link_limit}
use Rattle.rows.specs.Ranges.{Within}
use Rattle.reading.proofs.normal.Distinct.{Once, once-length}
use Rattle.texts.proofs.NormalFits.{up_to, up_to-length, up_to-in}
use Rattle.placing.specs.Net.{NetCell, Net, Apart, NormalSheet, NormalPattern}
use Rattle.placing.specs.Placing.{Placing, Good, cell_at, number_at}
use Rattle.placing.specs.Fillings.{Row, row_links, Filling, ExactMarks, Fits, places_of, with_context, by_number, stands_on, filling_for, fillings_of, normal_filling, normal_fillings_of}
use Rattle.placing.specs.ListFits.{symbols_in, list_atoms, list_rows, Ascends, FillingFits, ListFits}
use Rattle.placing.proofs.Orders.{places-out, places-once, by-number-out, once-append}
use Rattle.placing.proofs.Standing.{atom-link, cell_in, port-in}
use Rattle.placing.proofs.FillingsFit.{RowOf, an-atom, a-port, row_of, filling-symbols, fillings-fit}
use Rattle.placing.proofs.NormalRowsFit.{normal-symbols, normal-length, normal-filling-fits}

-- Contexts whose numbers ascend, and are above n.
abbrev Rising : ℕ → List NetCell → Type 0
Rising n [] = Unit {0}
Rising n (c ∷ l) = (n < c.0) × Rising c.0 l

with-rising : (c : NetCell) (l : List NetCell) (n : ℕ) → Rising n l → n < c.0 → ((d : NetCell) → d ∈ l → c.0 ≢ d.0) → Rising n (with_context c l)
unfolding with_context
with-rising c [] n r h o = (h, tt)
with-rising c (d ∷ l) n r h o = at (ltb c.0 d.0) refl (λ k. with-rising c l d.0 r.1 k (λ b m. o b (Memᴰ.tail m)))
  where
    at : (t : Bool) → ltb c.0 d.0 ≡ t → (d.0 < c.0 → Rising d.0 (with_context c l)) → Rising n (pick t (c ∷ d ∷ l) (d ∷ with_context c l))
    at true e f = (h, (ltb-true c.0 d.0 e, r.1))
    at false e f = (r.0, f (above (ltb-false c.0 d.0 e) (o d (Memᴰ.head refl))))
      where
        above : d.0 ≤ c.0 → c.0 ≢ d.0 → d.0 < c.0
        above p q = omega arith

by-number-rising : (l : List NetCell) → Apart l → ((c : NetCell) → c ∈ l → 1 ≤ c.0) → Rising 0 (by_number l)
unfolding by_number
by-number-rising [] o p = tt
by-number-rising (c ∷ l) o p =
    with-rising c (by_number l) 0 (by-number-rising l o.1 (λ d m. p d (Memᴰ.tail m))) (p c (Memᴰ.head refl)) (λ d m. o.0 d (by-number-out l d m))

-- No more contexts than numbers.
rising-length : (n k : ℕ) (l : List NetCell) → Rising n l → n ≤ k → ((c : NetCell) → c ∈ l → c.0 ≤ k) → n + length l ≤ k
rising-length n k [] r h p = omega arith
rising-length n k (c ∷ l) r h p = let b = rising-length c.0 k l r.1 (p c (Memᴰ.head refl)) (λ d m. p d (Memᴰ.tail m)) in omega (arith, r.0)

rising-above : (n : ℕ) (l : List NetCell) → Rising n l → (c : NetCell) → c ∈ l → n < c.0
rising-above n [] r c m = absurd (Memᴰ.not-nil m)
rising-above n (d ∷ l) r c m = at (Memᴰ.cases_cons m) (rising-above d.0 l r.1 c)
  where
    at : (c ≡ d) ⊎ (c ∈ l) → (c ∈ l → d.0 < c.0) → n < c.0
    at (inl e) f = subst (λ z. n < z.0) (sym e) r.0
    at (inr k) f = let b = f k in omega (arith, r.0)

-- The places of all given atoms, context by context: each of them once.
abbrev all_places : List ℕ → List NetCell → List ℕ
all_places given [] = []
all_places given (c ∷ l) = places_of 1 c.0 given ++ all_places given l

places-of : (given : List ℕ) (l : List NetCell) (j : ℕ) → j ∈ all_places given l → (c : NetCell) × (c ∈ l) × (j ∈ places_of 1 c.0 given)
places-of given [] j m = absurd (Memᴰ.not-nil m)
places-of given (c ∷ l) j m = at (Memᴰ.append_cases (places_of 1 c.0 given) m) (places-of given l j)
  where
    There : List NetCell → Type 0
    There k = (d : NetCell) × (d ∈ k) × (j ∈ places_of 1 d.0 given)

    at : (j ∈ places_of 1 c.0 given) ⊎ (j ∈ all_places given l) → (j ∈ all_places given l → There l) → There (c ∷ l)
    at (inl k) f = (c, Memᴰ.head refl, k)
    at (inr k) f = let t = f k in (t.0, Memᴰ.tail t.1, t.2)

one_number : (given : List ℕ) (j k n : ℕ) → j ∈ places_of 1 k given → j ∈ places_of 1 n given → k ≡ n
one_number given j k n a b =
    let t = places-out 1 k given j a in
    let u = places-out 1 n given j b in
    let p : j ≡ 1 + t.0 = t.1 in
    let q : j ≡ 1 + u.0 = u.1 in
    let e : t.0 ≡ u.0 = omega arith in
    sym t.3 ∙ ap (λ i. get_or given i 0) e ∙ u.3

all_once : (given : List ℕ) (n : ℕ) (l : List NetCell) → Rising n l → Once (all_places given l)
all_once given n [] r = tt
all_once given n (c ∷ l) r = once-append (places_of 1 c.0 given) (all_places given l) (places-once 1 c.0 given) (all_once given c.0 l r.1) apart
  where
    apart : (j : ℕ) → j ∈ places_of 1 c.0 given → ¬ (j ∈ all_places given l)
    apart j a b =
        let t = places-of given l j b in
        let e : c.0 ≡ t.0.0 = one_number given j c.0 t.0.0 a t.2 in
        let h : c.0 < t.0.0 = rising-above c.0 l r.1 t.0 t.1 in
        omega arith

places-few : (given : List ℕ) (n : ℕ) (l : List NetCell) → Rising n l → length (all_places given l) ≤ length given
places-few given n l r =
    let h = once-length (all_places given l) (up_to (length given)) (all_once given n l r) inside in omega (arith, up_to-length (length given))
  where
    inside : (j : ℕ) → j ∈ all_places given l → j ∈ up_to (length given)
    inside j m =
        let t = places-of given l j m in
        let u = places-out 1 t.0.0 given j t.2 in
        let p : j ≡ 1 + u.0 = u.1 in
        let q : u.0 < length given = u.2 in
        up_to-in (length given) j (omega arith) (omega arith)

-- A sheet and a pattern of the size that their texts allow.
pub record Small (S F : Net) : Type 0 where
  pub links : S.links ≤ sheet_link_limit
  pub atoms : length S.atoms ≤ sheet_atom_limit
  pub cells : (c : NetCell) → c ∈ S.atoms → Within 1 c.0 most_name × (length c.1 ≤ most_links)
  pub blanks : (c : NetCell) → c ∈ F.contexts → Within 1 c.0 most_context × (length c.1 ≤ most_links)

module _ (S F : Net) (s : NormalSheet S) (f : NormalPattern F) (small : Small S F) (p : Placing) (good : Good S F p) where
  fit : Fits F (fillings_of S p F)
  fit = fillings-fit S p F s.normal f.normal f.different good

  -- An atom that is given to a blank.
  given-atom : (c : NetCell) (j : ℕ) → j ∈ places_of 1 c.0 p.given → cell_at S.atoms j ∈ S.atoms
  given-atom c j h =
      let t = places-out 1 c.0 p.given j h in
      let b : t.0 < length p.given = t.2 in
      let q : j ≡ 1 + t.0 = t.1 in
      let n = good.sending.atoms-given in
      cell_in S.atoms j (omega arith, omega arith)

  -- The links of a filling: those of the sheet, and where its ports stand.
  own_links : NetCell → List ℕ
  own_links c = up_to S.links ++ map (stands_on S p) c.1

  row-links : (c : NetCell) (q : Row) → RowOf S p c q → (x : ℕ) → x ∈ row_links q → x ∈ own_links c
  unfolding own_links
  row-links c q (an-atom j h e) x m =
      let r = atom-link S s.normal (cell_at S.atoms j) x (given-atom c j h) (subst (λ z. x ∈ row_links z) e m) in
      Memᴰ.append_left (map (stands_on S p) c.1) (up_to-in S.links x r.0 r.1)
  row-links c q (a-port i h e) x m = at (Memᴰ.cases_cons (subst (λ z. x ∈ row_links z) e m))
    where
      at : (x ≡ stands_on S p (number_at c.1 i)) ⊎ (x ∈ []) → x ∈ (up_to S.links ++ map (stands_on S p) c.1)
      at (inl k) = Memᴰ.append_right (up_to S.links) (Memᴰ.cast k (Memᴰ.map (stands_on S p) (port-in c.1 i h)))
      at (inr k) = absurd (Memᴰ.not-nil k)

  filling-cells : (c d : NetCell) → d ∈ symbols_in (filling_for S p c).rows → Within 1 d.0 most_name × (length d.1 ≤ most_links)
  filling-cells c d m =
      let t : (j : ℕ) × (j ∈ places_of 1 c.0 p.given) × (cell_at S.atoms j ≡ d) = Memᴰ.of_map (cell_at S.atoms) (places_of 1 c.0 p.given) (subst (λ l. d ∈ l) (filling-symbols S p c) m) in
      subst (λ z. Within 1 z.0 most_name × (length z.1 ≤ most_links)) t.2 (small.cells (cell_at S.atoms t.0) (given-atom c t.0 t.1))

  filling-exact : (c : NetCell) → c ∈ by_number F.contexts → ExactMarks (length c.1) (filling_for S p c).rows
  filling-exact c m = fit.exact (filling_for S p c) (Memᴰ.map (filling_for S p) m)

  one-fits : (c : NetCell) → c ∈ by_number F.contexts → FillingFits (normal_filling (filling_for S p c))
  unfolding own_links
  one-fits c m =
      let b = small.blanks c (by-number-out F.contexts c m) in
      let n = length-append (up_to S.links) (map (stands_on S p) c.1) in
      let k = up_to-length S.links in
      let i = length-map c.1 (stands_on S p) in
      normal-filling-fits (filling_for S p c) b.0 b.1 (filling-exact c m) (filling-cells c) (own_links c) (omega (arith, small.links, b.1))
      (λ q j. row-links c q (row_of S p c q j))

  -- The list over any of these blanks.
  abbrev list_over : List NetCell → List Filling
  list_over l = map normal_filling (map (filling_for S p) l)

  over-ascends : (n : ℕ) (l : List NetCell) → Rising n l → Ascends n (list_over l)
  over-ascends n [] r = tt
  over-ascends n (c ∷ l) r = (r.0, over-ascends c.0 l r.1)

  filling-count : (c : NetCell) → length (symbols_in (filling_for S p c).rows) ≡ length (places_of 1 c.0 p.given)
  filling-count c = ap length (filling-symbols S p c) ∙ length-map (places_of 1 c.0 p.given) (cell_at S.atoms)

  over-atoms : (l : List NetCell) → length (list_atoms (list_over l)) ≡ length (all_places p.given l)
  over-atoms [] = refl
  over-atoms (c ∷ l) =
      let a = length-append (symbols_in (normal_filling (filling_for S p c)).rows) (list_atoms (list_over l)) in
      let b = length-append (places_of 1 c.0 p.given) (all_places p.given l) in
      let d = normal-symbols (filling_for S p c).rows in
      let e = filling-count c in
      let h = over-atoms l in
      omega arith

  over-rows : (l : List NetCell) → ((c : NetCell) → c ∈ l → c ∈ by_number F.contexts) → list_rows (list_over l) ≤ (1 + most_links) * length l + length (all_places p.given l)
  over-rows [] k = omega arith
  over-rows (c ∷ l) k =
      let m = k c (Memᴰ.head refl) in
      let a = normal-length (filling_for S p c).rows (length c.1) (filling-exact c m) in
      let b = length-append (places_of 1 c.0 p.given) (all_places p.given l) in
      let d = (small.blanks c (by-number-out F.contexts c m)).1 in
      let e = filling-count c in
      let h = over-rows l (λ z i. k z (Memᴰ.tail i)) in
      omega arith

  rising : Rising 0 (by_number F.contexts)
  rising = by-number-rising F.contexts f.different f.from_one

  pub placed-fits : ListFits (normal_fillings_of S p F)
  placed-fits =
      let a = places-few p.given 0 (by_number F.contexts) rising in
      let b = good.sending.atoms-given in
      let c = over-atoms (by_number F.contexts) in
      let d = over-rows (by_number F.contexts) (λ z i. i) in
      let e = rising-length 0 most_context (by_number F.contexts) rising (omega arith) (λ z i. (small.blanks z (by-number-out F.contexts z i)).0.1) in
      record {
        ascends = over-ascends 0 (by_number F.contexts) rising;
        fillings = each;
        few-atoms = omega (arith, small.atoms);
        few-rows = omega (arith, small.atoms);
      }
    where
      each : (g : Filling) → g ∈ normal_fillings_of S p F → FillingFits g
      each g m =
          let t : (h : Filling) × (h ∈ fillings_of S p F) × (normal_filling h ≡ g) = Memᴰ.of_map normal_filling (fillings_of S p F) m in
          let u : (c : NetCell) × (c ∈ by_number F.contexts) × (filling_for S p c ≡ t.0) = Memᴰ.of_map (filling_for S p) (by_number F.contexts) t.1 in
          subst FillingFits (ap normal_filling u.2 ∙ t.2) (one-fits u.0 u.1)
