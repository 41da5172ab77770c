-- The loops that make colours: numbers stored one after another, and sums.
use Rattle.std.proofs.Common.{◌≡◌, ℕ, suc, ◌+◌, ◌-◌, ◌%◌, ◌<◌, ◌≤◌, List, map, length, get_or, take, sym, ap, ◌∙◌, ap₂, add-one, arith}
use Rattle.rows.specs.declared.Atom.{Atom}
use Rattle.rows.specs.declared.Sheet.{Sheet as NormalForm}
use Rattle.rows.specs.Limits.{sheet_link_limit}
use Rattle.placing.specs.Net.{NetCell, Net, Range}
use Rattle.placing.specs.Placing.{cell_at}
use Rattle.network.specs.NetIn.{net_in, atom_in}
use Rattle.network.specs.Sums.{sum_to}
use Rattle.network.proofs.NetIn.{atoms-length, atom-index}
use Rattle.candidates.specs.Laid.{laid_atom, LaidOut}
use Rattle.colours.specs.Colours.{places_at, around}
use Rattle.colours.specs.Mixed.{word_size, mixed, mixed_all, mixing}
use Rattle.colours.specs.Arrays.{link_colour, held, Refined}
use Rattle.colours.proofs.SumLaws.{rest-added}

-- the first k places have the values of f, the others are as before
pub record Stored (f : ℕ → ℕ) (was now : List ℕ) (k : ℕ) : Type 0 where
  pub new : (i : ℕ) → i < k → get_or now i 0 ≡ f i
  pub old : (i : ℕ) → k ≤ i → get_or now i 0 ≡ get_or was i 0

-- one number more in a sum that wraps
pub sum-next : (m : ℕ) (f : ℕ → ℕ) (a t s v r : ℕ) → s ≡ (a + sum_to f t) % m → v ≡ f (suc t) → r ≡ (s + v) % m → r ≡ (a + sum_to f (t + 1)) % m
unfolding sum_to
sum-next m f a t s v r e q p =
    p ∙ ap (λ (z : ℕ). (z + v) % m) e ∙ rest-added m (a + sum_to f t) v
    ∙ ap (λ (z : ℕ). z % m) (let w : sum_to f (t + 1) ≡ f (suc t) + sum_to f t = ap (sum_to f) (add-one t) in let u : (a + sum_to f t) + v ≡ a + sum_to f (t + 1) = omega arith in u)

-- what atom j adds to link x, which is counted from 0
abbrev pub added : Net → List ℕ → ℕ → ℕ → ℕ
added N atoms x j = places_at (mixing.at_place (get_or atoms (j - 1) 0)) (suc x) 0 (cell_at N.atoms j).1

module _ (net : NormalForm) (laid : List ℕ) (n : ℕ) (o : LaidOut net laid n) where
  -- the row of an atom in the net and as it is laid out
  pub cell-laid : (t : ℕ) → t < n → cell_at (net_in net).atoms (suc t) ≡ atom_in (laid_atom laid t)
  cell-laid t h = ap (cell_at (net_in net).atoms) (let e : suc t ≡ t + 1 = omega arith in e) ∙ atom-index net o.fit t (omega (arith, h, o.count)) ∙ ap atom_in (sym (o.atoms t h))

  -- atom t, with what it adds
  pub added_next : (atoms : List ℕ) (t : ℕ) → t < n → (a : Atom) → a ≡ laid_atom laid t → (x : ℕ)
      → (sum_to (added (net_in net) atoms x) t + places_at (mixing.at_place (get_or atoms t 0)) (suc x) 0 (take a.count a.links)) % word_size ≡ sum_to (added (net_in net) atoms x) (t + 1) % word_size
  unfolding sum_to
  added_next atoms t h a e x =
      let q : added (net_in net) atoms x (suc t) ≡ places_at (mixing.at_place (get_or atoms t 0)) (suc x) 0 (take a.count a.links) =
      ap₂ (λ (i : ℕ) (c : NetCell). places_at (mixing.at_place (get_or atoms i 0)) (suc x) 0 c.1) (let w : suc t - 1 ≡ t = omega arith in w) (cell-laid t h ∙ ap atom_in (sym e)) in
      let s : sum_to (added (net_in net) atoms x) (t + 1) ≡ added (net_in net) atoms x (suc t) + sum_to (added (net_in net) atoms x) t = ap (sum_to (added (net_in net) atoms x)) (add-one t) in
      ap (λ (z : ℕ). z % word_size) (let u : sum_to (added (net_in net) atoms x) t + places_at (mixing.at_place (get_or atoms t 0)) (suc x) 0 (take a.count a.links) ≡ sum_to (added (net_in net) atoms x) (t + 1) = omega arith in u)

-- The three steps of a round: what is added around the links, then the atoms, then the links.
pub refined : (laid : List ℕ) (n c : ℕ) (atoms links atoms' links' about : List ℕ)
    → ((net : NormalForm) → LaidOut net laid n → (x : ℕ) → x < sheet_link_limit → (d : ℕ → ℕ) → get_or about x 0 ≡ around mixing (net_in net) (record { of_atom = λ j. get_or atoms (j - 1) 0; of_link = d }) (suc x) % word_size)
    → ((t : ℕ) → t < n → get_or atoms' t 0 ≡ mixed_all (get_or atoms t 0) (map (link_colour links) (take (laid_atom laid t).count (laid_atom laid t).links)))
    → ((x : ℕ) → x < c → get_or links' x 0 ≡ mixed (get_or links x 0) (get_or about x 0))
    → Refined laid n c atoms links atoms' links'
refined laid n c atoms links atoms' links' about sums new-atoms new-links net o e = record { atoms = atom; links = link }
  where
    atom : (j : ℕ) → Range (length (net_in net).atoms) j → mixed_all (get_or atoms (j - 1) 0) (map (link_colour links) (cell_at (net_in net).atoms j).1) ≡ get_or atoms' (j - 1) 0
    atom j r =
        let b : j - 1 < n = omega (arith, r.0, r.1, atoms-length net o.fit, o.count) in
        let q : j ≡ suc (j - 1) = omega (arith, r.0) in
        ap (λ (a : NetCell). mixed_all (get_or atoms (j - 1) 0) (map (link_colour links) a.1)) (ap (cell_at (net_in net).atoms) q ∙ cell-laid net laid n o (j - 1) b) ∙ sym (new-atoms (j - 1) b)

    link : (x : ℕ) → Range (net_in net).links x → mixed (link_colour links x) (around mixing (net_in net) (held atoms links) x % word_size) ≡ get_or links' (x - 1) 0
    link x r =
        let b : x - 1 < c = omega (arith, r.0, r.1, e) in
        let q : x ≡ suc (x - 1) = omega (arith, r.0) in
        ap (mixed (link_colour links x)) (ap (λ (y : ℕ). around mixing (net_in net) (held atoms links) y % word_size) q ∙ sym (sums net o (x - 1) (omega (arith, r.0, r.1, o.fit.class-count)) (link_colour links))) ∙ sym (new-links (x - 1) b)
