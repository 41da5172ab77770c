-- The laws of chains.
use Prim.Native.Nat.{ℕ, suc, ◌+◌, ◌≤◌, ◌<◌}
use mathlib.Core.Path.{◌≡◌, refl, sym, ◌∙◌, ap, subst}
use mathlib.Core.Logic.{◌≢◌}
use mathlib.Core.List.{List}
use native.Mathlib.Decide.{ℕ_discrete}
use native.Mathlib.Omega.{arith}
use lib.ListN.{length, get_or, set, length-set, replicate}
use lib.Seq.{get_or-set_same, get_or-set_other, get_or-take, length-take-le}
use Rattle.rows.specs.Format.{most_links}
use Rattle.rows.specs.Limits.{sheet_link_limit}
use Rattle.rows.specs.declared.Atom.{Atom}
use Rattle.placing.specs.Net.{Net}
use Rattle.placing.specs.Placing.{cell_at}
use Rattle.stepping.specs.Chains.{node_of, NodeOn, LastOn, Chained, RowIn, node_count}
use Rattle.rows.specs.declared.Sheet as form
use Rattle.network.specs.NetIn.{net_in, atom_at, Fit}
use Rattle.network.proofs.NetIn.{atoms-length}
use Rattle.candidates.specs.Laid.{laid_atom, LaidOut}
use Rattle.stepping.proofs.Tables.{zeros}
use Rattle.stepping.proofs.Reading.{atom-links}

-- a node is on one link only
one_link : (S : Net) (y z v : ℕ) → NodeOn S y v → NodeOn S z v → z ≡ y
one_link S y z v a b =
    let i : a.atom ≡ b.atom = omega (arith, a.place-few, b.place-few, a.node, b.node) in
    let k : a.place ≡ b.place = omega (arith, a.node, b.node) in
    let e : get_or (cell_at S.atoms (suc b.atom)).1 b.place 0 ≡ suc y = subst (λ (m : ℕ). get_or (cell_at S.atoms (suc b.atom)).1 m 0 ≡ suc y) k (subst (λ (m : ℕ). get_or (cell_at S.atoms (suc m)).1 a.place 0 ≡ suc y) i a.link) in
    let d = b.link in omega arith

pub chained-start : (S : Net) → Chained S (node_of 0 0) (replicate node_count 0)
chained-start S = record {
  nodes = record {
    within = λ v. let e = zeros node_count v in omega arith;
    above = λ v n. absurd (n (zeros node_count v));
    falls = λ v h. let e = zeros node_count v in omega arith;
  };
  last = λ y h. record { is = λ n. absurd (n (zeros node_count y)); none = λ w a b o. omega (arith, o.node) };
  next = λ y v h o. absurd (omega (arith, o.node));
}

-- One place more: its link's last node is before it, and it is the last.
module _ (S : Net) (table : List ℕ) (n y : ℕ) (room : length table ≡ node_count) (h : n < node_count) (low : sheet_link_limit ≤ n) (hy : y < sheet_link_limit) (o : NodeOn S y n) (c : Chained S n table) where
  abbrev first : List ℕ
  first = set table n (get_or table y 0)

  abbrev next : List ℕ
  next = set first y n

  at-link : get_or next y 0 ≡ n
  at-link = get_or-set_same first y n 0 (let e : length first ≡ length table = simp length-set in omega arith)

  at-node : get_or next n 0 ≡ get_or table y 0
  at-node = get_or-set_other first y n n 0 (λ e. omega arith) ∙ get_or-set_same table n (get_or table y 0) 0 (omega arith)

  at_other : (u : ℕ) → u ≢ y → u ≢ n → get_or next u 0 ≡ get_or table u 0
  at_other u a b = get_or-set_other first y u n 0 a ∙ get_or-set_other table n u (get_or table y 0) 0 b

  -- each entry
  cases : (P : ℕ → ℕ → Type 0) → P y n → P n (get_or table y 0) → ((u : ℕ) → u ≢ y → u ≢ n → P u (get_or table u 0)) → (u : ℕ) → P u (get_or next u 0)
  cases P a b d u = go (ℕ_discrete u y) (ℕ_discrete u n)
    where
      go : Dec (u ≡ y) → Dec (u ≡ n) → P u (get_or next u 0)
      go (yes e) f = subst (λ (m : ℕ). P m (get_or next m 0)) (sym e) (subst (P y) (sym at-link) a)
      go (no e) (yes f) = subst (λ (m : ℕ). P m (get_or next m 0)) (sym f) (subst (P n) (sym at-node) b)
      go (no e) (no f) = subst (P u) (sym (at_other u e f)) (d u e f)

  -- no other link has its last node here
  last-kept : (z v : ℕ) → z ≢ y → LastOn S n z v → LastOn S (n + 1) z v
  last-kept z v e l = record { is = l.is; none = λ w a b k. go w a b k (ℕ_discrete w n) }
    where
      go : (w : ℕ) → v < w → w < n + 1 → NodeOn S z w → Dec (w ≡ n) → ⊥
      go w a b k (yes f) = e (one_link S y z n o (subst (NodeOn S z) f k))
      go w a b k (no f) = l.none w a (omega arith) k

  pub chained_more : Chained S (n + 1) next
  chained_more = record {
    nodes = record {
      within = cases (λ u x. x < n + 1) (omega arith) (let i = c.nodes.within y in omega arith) (λ u a b. let i = c.nodes.within u in omega arith);
      above = cases (λ u x. x ≢ 0 → sheet_link_limit ≤ x) (λ e. low) (c.nodes.above y) (λ u a b. c.nodes.above u);
      falls = cases (λ u x. sheet_link_limit ≤ u → x < u) (λ l. absurd (omega arith)) (λ l. c.nodes.within y) (λ u a b. c.nodes.falls u);
    };
    last = cases (λ z x. z < sheet_link_limit → LastOn S (n + 1) z x) (λ l. record { is = λ e. o; none = λ w a b k. omega arith }) (λ l. absurd (omega arith)) (λ z a b l. last-kept z (get_or table z 0) a (c.last z l));
    next = λ z v l k. cases (λ u x. u ≡ v → LastOn S v z x) (λ e. absurd (let i = k.node in omega arith))
        (λ e. subst (λ (u : ℕ). LastOn S u z (get_or table y 0)) e (subst (λ (m : ℕ). LastOn S n m (get_or table y 0)) (sym (one_link S y z n o (subst (NodeOn S z) (sym e) k))) (c.last y hy)))
        (λ u a b e. subst (λ (m : ℕ). LastOn S v z (get_or table m 0)) (sym e) (c.next z v (omega arith) k)) v refl;
  }

-- The places of one atom.
module _ (S : Net) (j : ℕ) (links : List ℕ) (count : ℕ) (few : count ≤ most_links) (r : RowIn S j links count) where
  pub row-node : (k y : ℕ) → k < count → get_or links k 0 ≡ suc y → NodeOn S y (node_of j k)
  row-node k y h e = record {
    atom = j;
    place = k;
    atom-in = r.atom-in;
    place_in = let w = r.width in omega arith;
    place-few = omega arith;
    link = r.same k h ∙ e;
    node = refl;
  }

  -- no place is left
  pub chained-row : (table : List ℕ) → Chained S (node_of j count) table → Chained S (node_of (suc j) 0) table
  chained-row table c = record {
    nodes = record { within = λ v. let i = c.nodes.within v in omega arith; above = c.nodes.above; falls = c.nodes.falls };
    last = λ y h. let l = c.last y h in record { is = l.is; none = λ w a b o. go y w o b (λ d. l.none w a d o) };
    next = λ y v h o. c.next y v (go y v o h (λ d. d)) o;
  }
    where
      go : {A : Type 0} (y w : ℕ) → NodeOn S y w → w < node_of (suc j) 0 → (w < node_of j count → A) → A
      go y w o b f = f (at (ℕ_discrete o.atom j))
        where
          at : Dec (o.atom ≡ j) → w < node_of j count
          at (yes e) = let i : o.place < length (cell_at S.atoms (suc j)).1 = subst (λ (m : ℕ). o.place < length (cell_at S.atoms (suc m)).1) e o.place_in in let d = r.width in omega (arith, o.node)
          at (no e) = omega (arith, o.node, o.place-few)

pub row_in : (sheet : form.Sheet) → Fit sheet → (j : ℕ) → j < sheet.atom_count → RowIn (net_in sheet) j (atom_at sheet j).links (atom_at sheet j).count
row_in sheet f j h = record {
  atom-in = let e = atoms-length sheet f in omega arith;
  width = ap length (atom-links sheet f j h) ∙ length-take-le (atom_at sheet j).count (atom_at sheet j).links (let a = (f.atoms j h).few in let b = (f.atoms j h).width in omega arith);
  same = λ k l. ap (λ (m : List ℕ). get_or m k 0) (atom-links sheet f j h) ∙ get_or-take (atom_at sheet j).count (atom_at sheet j).links k 0 l;
}

-- the same of a row of the atoms that are laid out
pub laid_in : (sheet : form.Sheet) (laid : List ℕ) (n : ℕ) → LaidOut sheet laid n → (j : ℕ) → j < n → RowIn (net_in sheet) j (laid_atom laid j).links (laid_atom laid j).count
laid_in sheet laid n o j h = subst (λ (a : Atom). RowIn (net_in sheet) j a.links a.count) (sym (o.atoms j h)) (row_in sheet o.fit j (omega (arith, o.count)))
