-- Pieces as words: the loops that find them.
use Rattle.std.proofs.Common.{◌≡◌, ℕ, suc, ◌+◌, ◌-◌, ◌*◌, ◌^◌, ◌<◌, ◌≤◌, ◌≢◌, ◌↔◌, List, length, get_or, take, set, sym, refl, ap, ◌∙◌, subst, ⊎_elim, arith, length-set, get_or-set_other, get_or-set_same}
use native.Mathlib.Decide.{ℕ_discrete, dec_lt}
use lib.Bits.{bit_or, and_mask}
use Rattle.hyperlmntal.specs.Link.{◌∈◌}
use Rattle.rows.specs.Format.{most_links}
use Rattle.rows.specs.Limits.{sheet_link_limit}
use Rattle.rows.specs.declared.Sheet.{Sheet as NormalForm}
use Rattle.placing.specs.Net.{NetCell, Net, Range}
use Rattle.placing.specs.Placing.{cell_at}
use Rattle.network.specs.NetIn.{net_in, Used}
use Rattle.network.specs.Reach.{stay, move}
use Rattle.network.proofs.NetIn.{in_place, used-numbered, used-in, atoms-length}
use Rattle.network.proofs.Reaching.{reach-cast, reach-more}
use Rattle.candidates.specs.Laid.{laid_atom, link_of, LaidOut}
use Rattle.candidates.specs.Words.{word_digits, In}
use Rattle.candidates.proofs.Digits.{none_in, and_in, in-or-left, in-or-right, or-in, alone-in, shifted}
use Rattle.candidates.proofs.Laying.{laid-rowed}
use Rattle.narrowing.specs.Users.{UsersIn}
use Rattle.colours.specs.Pieces.{Share, OnePiece}
use Rattle.colours.specs.Arrays.{PieceIn}
use Rattle.colours.proofs.RoundCode.{cell-laid}

-- P h u for one of the first k numbers h
abbrev pub Some : (ℕ → ℕ → Type 0) → ℕ → ℕ → Type 0
Some P k u = (h : ℕ) × (h < k) × P h u

module _ (P : ℕ → ℕ → Type 0) where
  pub some-none : (u : ℕ) → In 0 u ↔ Some P 0 u
  some-none u = (λ m. absurd (none_in u m), λ t. absurd (let b : t.0 < 0 = t.1 in omega arith))

  -- a word more
  pub some_more : (all w k : ℕ) → ((u : ℕ) → In all u ↔ Some P k u) → ((u : ℕ) → In w u ↔ P k u) → (u : ℕ) → In (bit_or all w) u ↔ Some P (k + 1) u
  some_more all w k f g u = (λ m. ⊎_elim before now (or-in all w u m), back)
    where
      before : In all u → Some P (k + 1) u
      before m = let t = (f u).0 m in (t.0, omega (arith, t.1), t.2)

      now : In w u → Some P (k + 1) u
      now m = (k, omega arith, (g u).0 m)

      back : Some P (k + 1) u → In (bit_or all w) u
      back (h, b, q) = go (dec_lt h k)
        where
          go : Dec (h < k) → In (bit_or all w) u
          go (yes d) = in-or-left all w u ((f u).1 (h, d, q))
          go (no d) = in-or-right all w u ((g u).1 (subst (λ (z : ℕ). P z u) (let e : h ≡ k = omega arith in e) q))

-- the atoms of a piece have the size, but for those of the rest
pub record Put (piece size : ℕ) (sizes now : List ℕ) (rest : ℕ) : Type 0 where
  pub part : (u : ℕ) → In rest u → In piece u
  pub done : (u : ℕ) → u < length now → In piece u → ¬ In rest u → get_or now u 0 ≡ size
  pub kept : (u : ℕ) → ¬ In piece u → get_or now u 0 ≡ get_or sizes u 0

module _ (piece size : ℕ) (sizes : List ℕ) where
  pub put-more : (now : List ℕ) (rest less v : ℕ) → Put piece size sizes now rest → v < length now → In rest v → ((u : ℕ) → In less u → In rest u) → ((u : ℕ) → In rest u → u ≢ v → In less u) → ¬ In less v
      → Put piece size sizes (set now v size) less
  put-more now rest less v p b m sub all gone = record { part = λ u i. p.part u (sub u i); done = done; kept = kept }
    where
      done : (u : ℕ) → u < length (set now v size) → In piece u → ¬ In less u → get_or (set now v size) u 0 ≡ size
      done u h i n = go (ℕ_discrete u v)
        where
          go : Dec (u ≡ v) → get_or (set now v size) u 0 ≡ size
          go (yes e) = rw e (get_or-set_same now v size 0 b)
          go (no d) = get_or-set_other now v u size 0 d ∙ p.done u (subst (λ (z : ℕ). u < z) (length-set now v size) h) i (λ k. n (all u k d))

      kept : (u : ℕ) → ¬ In piece u → get_or (set now v size) u 0 ≡ get_or sizes u 0
      kept u n = get_or-set_other now v u size 0 (λ e. n (p.part u (subst (In rest) (sym e) m))) ∙ p.kept u n

-- ---- atoms that share a link

module _ (net : NormalForm) (laid : List ℕ) (n : ℕ) (o : LaidOut net laid n) where
  abbrev N : Net
  N = net_in net

  in-net : (t : ℕ) → t < n → Range (length N.atoms) (suc t)
  in-net t h = (omega arith, omega (arith, h, o.count, atoms-length net o.fit))

  of-net : (t : ℕ) → Range (length N.atoms) (suc t) → t < n
  of-net t r = omega (arith, r.1, o.count, atoms-length net o.fit)

  -- the links of an atom as they are laid out
  row_of : (t : ℕ) → t < n → (cell_at N.atoms (suc t)).1 ≡ take (laid_atom laid t).count (laid_atom laid t).links
  row_of t h = ap (λ (c : NetCell). c.1) (cell-laid net laid n o t h)

  row-used : (t : ℕ) → t < n → Used sheet_link_limit (laid_atom laid t).count (laid_atom laid t).links
  row-used t h = (laid-rowed net laid n o).atoms t h

  module _ (users : List ℕ) (w : UsersIn laid n users) (t : ℕ) (h : t < n) where
    -- atom u has link k of atom t at one of its places
    abbrev pub HasLink : ℕ → ℕ → Type 0
    HasLink k u = Some (λ i v. In (get_or users (i * sheet_link_limit + (link_of (laid_atom laid t) k - 1)) 0) v) most_links u

    pub share-users : (u : ℕ) → Some HasLink (laid_atom laid t).count u ↔ Share N (suc t) (suc u)
    share-users u = (to, back)
      where
        a : Used sheet_link_limit (laid_atom laid t).count (laid_atom laid t).links
        a = row-used t h

        to : Some HasLink (laid_atom laid t).count u → Share N (suc t) (suc u)
        to (k, b, (i, c, m)) =
            let r = a.numbered k b in
            let q = w.only u i (link_of (laid_atom laid t) k - 1) c (omega (arith, r.0, r.1)) m in
            record {
              first-atom = in-net t h;
              second-atom = in-net u q.0;
              link = link_of (laid_atom laid t) k;
              first = subst (λ (l : List ℕ). link_of (laid_atom laid t) k ∈ l) (sym (row_of t h)) (used-in sheet_link_limit (laid_atom laid t).count (laid_atom laid t).links a k b);
              second = subst (λ (l : List ℕ). link_of (laid_atom laid t) k ∈ l) (sym (row_of u q.0))
                  (subst (λ (x : ℕ). x ∈ take (laid_atom laid u).count (laid_atom laid u).links) (let e : link_of (laid_atom laid u) i ≡ link_of (laid_atom laid t) k = omega (arith, q.2, r.0) in e) (used-in sheet_link_limit (laid_atom laid u).count (laid_atom laid u).links (row-used u q.0) i q.1));
            }

        at : (v : ℕ) → v < n → (x : ℕ) → x ∈ (cell_at N.atoms (suc v)).1 → (k : ℕ) × (k < (laid_atom laid v).count) × (link_of (laid_atom laid v) k ≡ x)
        at v b x m = in_place (laid_atom laid v).count (laid_atom laid v).links (used-numbered sheet_link_limit (laid_atom laid v).count (laid_atom laid v).links (row-used v b)).there x (subst (λ (l : List ℕ). x ∈ l) (row_of v b) m)

        back : Share N (suc t) (suc u) → Some HasLink (laid_atom laid t).count u
        back s =
            let b = of-net u s.second-atom in
            let f = at t h s.link s.first in
            let g = at u b s.link s.second in
            let r = a.numbered f.0 f.1 in
            let d = (row-used u b).few in
            (f.0, f.1, (g.0, omega (arith, g.1, d), w.has u g.0 (link_of (laid_atom laid t) f.0 - 1) b g.1 (omega (arith, f.2, g.2, r.0))))

-- ---- a piece, grown

-- the word of all numbers
pub all_in : (u : ℕ) → u < word_digits → In (2 ^ word_digits - 1) u
all_in u h = (and_in (1 * 2 ^ u) (2 ^ word_digits - 1) u (alone-in u _ (and_mask (1 * 2 ^ u) word_digits ∙ shifted u h))).1

-- The atoms of the word are in the piece of atom t. Those that are not in the rest are in the word, and so is what shares a link with
-- them.
pub record Grown (net : NormalForm) (t word rest : ℕ) : Type 0 where
  pub seed : In word t
  pub inside : (u : ℕ) → In word u → OnePiece (net_in net) (suc t) (suc u)
  pub seen : (u : ℕ) → Range (length (net_in net).atoms) (suc u) → ¬ In rest u → In word u
  pub closed : (u v : ℕ) → ¬ In rest u → Share (net_in net) (suc u) (suc v) → In word v

module _ (net : NormalForm) (t : ℕ) where
  pub grown-one : (word rest : ℕ) → length (net_in net).atoms ≤ word_digits → In word t → ((u : ℕ) → In word u → u ≡ t) → ((u : ℕ) → u < word_digits → In rest u) → Grown net t word rest
  grown-one word rest few m only all = record { seed = m; inside = λ u i. reach-cast (Share (net_in net)) (ap suc (sym (only u i))) stay; seen = λ u r n. absurd (n (there u r)); closed = λ u v n s. absurd (n (there u s.first-atom)) }
    where
      there : (u : ℕ) → Range (length (net_in net).atoms) (suc u) → In rest u
      there u r = all u (omega (arith, r.1, few))

  module _ (word rest less u : ℕ) (g : Grown net t word rest) (m : In word u) (all : (v : ℕ) → In rest v → v ≢ u → In less v) where
    -- the atoms beside u are added
    pub grown-more : (more : ℕ) → ((v : ℕ) → In more v ↔ Share (net_in net) (suc u) (suc v)) → Grown net t (bit_or word more) less
    grown-more more f = record { seed = in-or-left word more t g.seed; inside = λ v i. ⊎_elim (g.inside v) (λ k. reach-more (Share (net_in net)) (g.inside u m) ((f v).0 k)) (or-in word more v i); seen = seen; closed = closed }
      where
        seen : (v : ℕ) → Range (length (net_in net).atoms) (suc v) → ¬ In less v → In (bit_or word more) v
        seen v r n = in-or-left word more v (go (ℕ_discrete v u))
          where
            go : Dec (v ≡ u) → In word v
            go (yes e) = subst (In word) (sym e) m
            go (no d) = g.seen v r (λ k. n (all v k d))

        closed : (v x : ℕ) → ¬ In less v → Share (net_in net) (suc v) (suc x) → In (bit_or word more) x
        closed v x n s = go (ℕ_discrete v u)
          where
            go : Dec (v ≡ u) → In (bit_or word more) x
            go (yes e) = in-or-right word more x ((f x).1 (subst (λ (z : ℕ). Share (net_in net) (suc z) (suc x)) e s))
            go (no d) = in-or-left word more x (g.closed v x (λ k. n (all v k d)) s)

    -- u is no atom of the net
    pub grown-same : ¬ Range (length (net_in net).atoms) (suc u) → Grown net t word less
    grown-same none = record { seed = g.seed; inside = g.inside; seen = seen; closed = closed }
      where
        other : (v : ℕ) → Range (length (net_in net).atoms) (suc v) → ¬ In less v → ¬ In rest v
        other v r n k = n (all v k (λ e. none (subst (λ (z : ℕ). Range (length (net_in net).atoms) (suc z)) e r)))

        seen : (v : ℕ) → Range (length (net_in net).atoms) (suc v) → ¬ In less v → In word v
        seen v r n = g.seen v r (other v r n)

        closed : (v x : ℕ) → ¬ In less v → Share (net_in net) (suc v) (suc x) → In word x
        closed v x n s = g.closed v x (other v s.first-atom n) s

  -- nothing of the word is in the rest
  pub grown-all : (word rest : ℕ) → Grown net t word rest → ((u : ℕ) → In word u → ¬ In rest u) → PieceIn net t word
  grown-all word rest g done u = (g.inside u, λ r. go r t u refl refl g.seed)
    where
      go : {i j : ℕ} → OnePiece (net_in net) i j → (a b : ℕ) → i ≡ suc a → j ≡ suc b → In word a → In word b
      go stay a b e q m = subst (In word) (let z : a ≡ b = omega (arith, e, q) in z) m
      go (move {x = i} {y = h} s r) a b e q m =
          let k : h ≡ suc (h - 1) = omega (arith, s.second-atom.0) in
          go r (h - 1) b k q (g.closed a (h - 1) (done a m) (subst (λ (z : ℕ). Share (net_in net) z (suc (h - 1))) e (subst (λ (z : ℕ). Share (net_in net) i z) k s)))
