-- The fillings of a good placing fit the figure.
use Prim.Native.Nat.{ℕ, zero, suc, ◌+◌, ◌-◌, ◌≤◌, ◌<◌}
use mathlib.Core.Path.{◌≡◌, refl, ap, sym, ◌∙◌, subst}
use mathlib.Core.Logic.{◌⊎◌, inl, inr}
use mathlib.Core.Bool.{Bool, true, false}
use mathlib.Core.List.Memᴰ
use mathlib.Core.List.{List, [], ◌∷◌, ◌++◌, map}
use native.Mathlib.Omega.{arith}
use borrow.Author.Tests.{ltb-true}
use lib.Dec.{ltb}
use lib.ListN.{length, get_or}
use Rattle.hyperlmntal.specs.Link.{◌∈◌}
use Rattle.rows.specs.Pick.{pick}
use Rattle.placing.specs.Net.{NetCell, Net, Range, Normal, Apart}
use Rattle.placing.specs.Placing.{Placing, number_at, cell_at, link_target, Good}
use Rattle.placing.specs.Fillings.{Row, point_row, edge_row, row_links, Filling, ExactMarks, Fits, places_of, by_number, symbol_of, stands_on, port_rows, given_rows, filling_for, fillings_of}
use Rattle.placing.specs.ListFits.{symbols_in}
use Rattle.placing.proofs.Filled.{rows_for, found-for}
use Rattle.placing.proofs.Standing.{atom-link, context-link, cell_in, port-in}
use Rattle.placing.proofs.Orders.{places-out, by-number-in, by-number-out, apart-same}

module _ (S : Net) (p : Placing) where
  -- The port rows of a filling, from port s on.
  port-row-in : (s j : ℕ) (l : List ℕ) → j < length l → edge_row (stands_on S p (get_or l j 0)) (s + j) ∈ port_rows S p s l
  port-row-in s j [] h = absurd (omega arith)
  port-row-in s zero (x ∷ l) h = Memᴰ.head (ap (edge_row (stands_on S p x)) (let q : s + 0 ≡ s = omega arith in q))
  port-row-in s (suc j) (x ∷ l) h = Memᴰ.tail (Memᴰ.cast (ap (edge_row (stands_on S p (get_or l j 0))) (let q : s + suc j ≡ suc s + j = omega arith in q)) (port-row-in (suc s) j l (omega arith)))

  abbrev PortRow : ℕ → List ℕ → Row → Type 0
  PortRow s l r = (j : ℕ) × (j < length l) × (r ≡ edge_row (stands_on S p (get_or l j 0)) (s + j))

  port-row-out : (s : ℕ) (l : List ℕ) (r : Row) → r ∈ port_rows S p s l → PortRow s l r
  port-row-out s [] r m = absurd (Memᴰ.not-nil m)
  port-row-out s (x ∷ l) r m = at (Memᴰ.cases_cons m) (port-row-out (suc s) l r)
    where
      at : (r ≡ edge_row (stands_on S p x) s) ⊎ (r ∈ port_rows S p (suc s) l) → (r ∈ port_rows S p (suc s) l → PortRow (suc s) l r) → PortRow s (x ∷ l) r
      at (inl e) f = (0, omega arith, e ∙ ap (edge_row (stands_on S p x)) (let q : s ≡ s + 0 = omega arith in q))
      at (inr k) f = let t = f k in let b : t.0 < length l = t.1 in (suc t.0, omega arith, t.2 ∙ ap (edge_row (stands_on S p (get_or l t.0 0))) (let q : suc s + t.0 ≡ s + suc t.0 = omega arith in q))

  -- A row of the filling of c: an atom given to it, or a port.
  pub data RowOf (c : NetCell) (r : Row) : Type 0 where
    an-atom : (j : ℕ) → j ∈ places_of 1 c.0 p.given → r ≡ symbol_of (cell_at S.atoms j) → RowOf c r
    a-port : (i : ℕ) → Range (length c.1) i → r ≡ edge_row (stands_on S p (number_at c.1 i)) i → RowOf c r

  pub row_of : (c : NetCell) (r : Row) → r ∈ (filling_for S p c).rows → RowOf c r
  row_of c r m = at (Memᴰ.append_cases (given_rows S p c.0) m)
    where
      at : (r ∈ given_rows S p c.0) ⊎ (r ∈ port_rows S p 1 c.1) → RowOf c r
      at (inl k) = let t : (j : ℕ) × (j ∈ places_of 1 c.0 p.given) × (symbol_of (cell_at S.atoms j) ≡ r) = Memᴰ.of_map (λ j. symbol_of (cell_at S.atoms j)) (places_of 1 c.0 p.given) k in an-atom t.0 t.1 (sym t.2)
      at (inr k) = let t = port-row-out 1 c.1 r k in let b : t.0 < length c.1 = t.1 in a-port (1 + t.0) (omega arith, omega arith) (t.2 ∙ ap (λ j. edge_row (stands_on S p (get_or c.1 j 0)) (1 + t.0)) (let q : t.0 ≡ 1 + t.0 - 1 = omega arith in q))

  pub port-row : (c : NetCell) (i : ℕ) → Range (length c.1) i → edge_row (stands_on S p (number_at c.1 i)) i ∈ (filling_for S p c).rows
  port-row c i h =
      let a : 1 ≤ i = h.0 in
      let b : i ≤ length c.1 = h.1 in
      Memᴰ.append_right (given_rows S p c.0) (Memᴰ.cast (ap (edge_row (stands_on S p (number_at c.1 i))) (let q : i ≡ 1 + (i - 1) = omega arith in q)) (port-row-in 1 (i - 1) c.1 (omega arith)))

  pub edge-port : (c : NetCell) (x i : ℕ) → edge_row x i ∈ (filling_for S p c).rows → Range (length c.1) i × (x ≡ stands_on S p (number_at c.1 i))
  edge-port c x i m = at (row_of c (edge_row x i) m)
    where
      at : RowOf c (edge_row x i) → Range (length c.1) i × (x ≡ stands_on S p (number_at c.1 i))
      at (an-atom j k e) = absurd (let z : ◌≡◌ {A = ℕ} 0 1 = cc in omega arith)
      at (a-port j h e) = let q : i ≡ j = cc in (subst (Range (length c.1)) (sym q) h, (let r : x ≡ stands_on S p (number_at c.1 j) = cc in r) ∙ ap (λ k. stands_on S p (number_at c.1 k)) (sym q))

  pub no-point : (c : NetCell) (a b : ℕ) → ¬ (point_row a b ∈ (filling_for S p c).rows)
  no-point c a b m = at (row_of c (point_row a b) m)
    where
      at : RowOf c (point_row a b) → ⊥
      at (an-atom j k e) = let z : ◌≡◌ {A = ℕ} 0 1 = cc in omega arith
      at (a-port j h e) = let z : ◌≡◌ {A = ℕ} 0 1 = cc in omega arith

  -- The atoms of a filling.
  ports-no-symbol : (s : ℕ) (l : List ℕ) → symbols_in (port_rows S p s l) ≡ []
  ports-no-symbol s [] = refl
  ports-no-symbol s (x ∷ l) = ports-no-symbol (suc s) l

  pub filling-symbols : (c : NetCell) → symbols_in (filling_for S p c).rows ≡ map (cell_at S.atoms) (places_of 1 c.0 p.given)
  filling-symbols c = at (places_of 1 c.0 p.given)
    where
      at : (l : List ℕ) → symbols_in (map (λ j. symbol_of (cell_at S.atoms j)) l ++ port_rows S p 1 c.1) ≡ map (cell_at S.atoms) l
      at [] = ports-no-symbol 1 c.1
      at (j ∷ l) = ap (λ k. cell_at S.atoms j ∷ k) (at l)

  -- A link that goes to a sheet link stands there.
  pub stands-there : (x : ℕ) → link_target p x ≤ S.links → stands_on S p x ≡ link_target p x
  stands-there x h = at (ltb S.links (link_target p x)) refl
    where
      at : (t : Bool) → ltb S.links (link_target p x) ≡ t → pick t (S.links + x) (link_target p x) ≡ link_target p x
      at true e = absurd (let q : S.links < link_target p x = ltb-true S.links (link_target p x) e in omega arith)
      at false e = refl

  stands-from-one : (x : ℕ) → 1 ≤ x → 1 ≤ link_target p x → 1 ≤ stands_on S p x
  stands-from-one x a b = at (ltb S.links (link_target p x))
    where
      at : (t : Bool) → 1 ≤ pick t (S.links + x) (link_target p x)
      at true = omega arith
      at false = b

  module _ (F : Net) (s : Normal S) (f : Normal F) (apart : Apart F.contexts) (good : Good S F p) where
    from_one : (c : NetCell) → c ∈ F.contexts → (r : Row) → r ∈ (filling_for S p c).rows → (x : ℕ) → x ∈ row_links r → 1 ≤ x
    from_one c m r i x k = at (row_of c r i)
      where
        at : RowOf c r → 1 ≤ x
        at (an-atom j h e) =
            let t = places-out 1 c.0 p.given j h in
            let b : t.0 < length p.given = t.2 in
            let q : j ≡ 1 + t.0 = t.1 in
            let n = good.sending.atoms-given in
            (atom-link S s (cell_at S.atoms j) x (cell_in S.atoms j (omega arith, omega arith)) (subst (λ r. x ∈ row_links r) e k)).0
        at (a-port j h e) = one (Memᴰ.cases_cons (subst (λ r. x ∈ row_links r) e k))
          where
            z : ℕ
            z = number_at c.1 j

            real : Range F.links z
            real = context-link F f c z m (port-in c.1 j h)

            one : (x ≡ stands_on S p z) ⊎ (x ∈ []) → 1 ≤ x
            one (inl q) = subst (λ y. 1 ≤ y) (sym q) (stands-from-one z real.0 (good.sending.to-links z real).0)
            one (inr n) = absurd (Memᴰ.not-nil n)

    abbrev Blank : Filling → Type 0
    Blank g = (c : NetCell) × (c ∈ F.contexts) × (filling_for S p c ≡ g)

    blank_of_lem : (g : Filling) → g ∈ fillings_of S p F → Blank g
    blank_of_lem g m = let t : (c : NetCell) × (c ∈ by_number F.contexts) × (filling_for S p c ≡ g) = Memᴰ.of_map (filling_for S p) (by_number F.contexts) m in (t.0, by-number-out F.contexts t.0 t.1, t.2)

    exact : (c : NetCell) → ExactMarks (length c.1) (filling_for S p c).rows
    exact c = record { within = λ x i m. (edge-port c x i m).0; every = λ i h. (stands_on S p (number_at c.1 i), port-row c i h) }

    one : (g h : Filling) → Blank g → Blank h → g.number ≡ h.number → g ≡ h
    one g h b d e = sym b.2 ∙ ap (filling_for S p) (apart-same F.contexts apart b.0 d.0 b.1 d.1 (ap (λ z. z.number) b.2 ∙ e ∙ sym (ap (λ z. z.number) d.2))) ∙ d.2

    pub fillings-fit : Fits F (fillings_of S p F)
    fillings-fit = record {
      for-each = λ c m. (filling_for S p c, Memᴰ.map (filling_for S p) (by-number-in F.contexts c m), refl, refl);
      one = λ g h m k e. one g h (blank_of_lem g m) (blank_of_lem h k) e;
      exact = λ g m. let b = blank_of_lem g m in subst (λ z. ExactMarks z.ports z.rows) b.2 (exact b.0);
      from_one = λ g m. let b = blank_of_lem g m in subst (λ z. (r : Row) → r ∈ z.rows → (x : ℕ) → x ∈ row_links r → 1 ≤ x) b.2 (from_one b.0 b.1);
    }

    -- The rows that the substitution finds are those of the filling.
    pub rows-found : (c : NetCell) → c ∈ F.contexts → rows_for F (fillings_of S p F) fillings-fit c ≡ (filling_for S p c).rows
    rows-found c m =
        let g = found-for F (fillings_of S p F) fillings-fit c m in
        sym g.rows ∙ ap (λ z. z.rows) (fillings-fit.one g.filling (filling_for S p c) g.listed (Memᴰ.map (filling_for S p) (by-number-in F.contexts c m)) g.number)
