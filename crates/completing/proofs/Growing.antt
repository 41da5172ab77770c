-- The laws of a loop that grows a component of the other atoms.
use Prim.Native.Nat.{ℕ, ◌≤◌}
use mathlib.Core.Path.{◌≡◌, refl, sym, subst}
use mathlib.Core.Logic.{⊎_elim}
use mathlib.Core.List.Memᴰ
use mathlib.Core.List.{List, [], ◌∷◌, ◌++◌}
use lib.ListN.{length}
use Rattle.hyperlmntal.specs.Link.{◌∈◌}
use Rattle.placing.specs.Net.{NetCell, Net, Range, Normal}
use Rattle.placing.specs.Placing.{Placing, cell_at, Across, PortAt}
use Rattle.network.specs.Reach.{Reach, stay, move}
use Rattle.completing.specs.Fault.{Used, Other, Through, CutOff, Joined, Number, Allowed, LeastContext}
use Rattle.completing.specs.Growing.{Part, Serves, Grown}
use Rattle.network.proofs.Reaching.{reach-more}
use Rattle.completing.proofs.Kept.{unused-other}
use Rattle.completing.proofs.Completed.{least-joined}

module _ (S F : Net) (q : Placing) where
  through-more : (set seen set' seen' : List ℕ) → ((j : ℕ) → j ∈ set → j ∈ set') → ((y : ℕ) → y ∈ seen → y ∈ seen')
      → (i j : ℕ) → Reach (Through S F q set seen) i j → Reach (Through S F q set' seen') i j
  through-more set seen set' seen' f g i j stay = stay
  through-more set seen set' seen' f g i j (move {y = k} t r) =
      move (record { beside = t.beside; into = f k t.into; over = g t.beside.link t.over }) (through-more set seen set' seen' f g k j r)

  through-joined : (set seen : List ℕ) (i j : ℕ) → Reach (Through S F q set seen) i j → Joined S F q i j
  through-joined set seen i j stay = stay
  through-joined set seen i j (move {y = k} t r) = move t.beside (through-joined set seen k j r)

  joined-other : (i j : ℕ) → Other S F q i → Joined S F q i j → Other S F q j
  joined-other i j h stay = h
  joined-other i j h (move {y = k} b r) = joined-other k j b.second-other r

  pub part-start : (root : ℕ) → Other S F q root → Part S F q root (root ∷ []) []
  part-start root o = record {
    root-other = o;
    root-member = Memᴰ.head refl;
    connected = λ j m. subst (Reach (Through S F q (root ∷ []) []) root) (sym (Memᴰ.eq_of_singleton m)) stay;
    touched = λ y m. absurd (Memᴰ.not-nil m);
  }

  module _ (root : ℕ) (set seen : List ℕ) (t : Part S F q root set seen) where
    pub part-joined : (j : ℕ) → j ∈ set → Joined S F q root j
    part-joined j m = through-joined set seen root j (t.connected j m)

    -- a member is another atom of the sheet
    pub part-other : (j : ℕ) → j ∈ set → Other S F q j
    part-other j m = joined-other root j t.root-other (part-joined j m)

    -- one more link of a member is looked at
    pub part-link : (j y : ℕ) → j ∈ set → y ∈ (cell_at S.atoms j).1 → Part S F q root set (seen ++ (y ∷ []))
    part-link j y m k = record {
      root-other = t.root-other;
      root-member = t.root-member;
      connected = λ i l. through-more set seen set (seen ++ (y ∷ [])) (λ a b. b) (λ a b. Memᴰ.append_left (y ∷ []) b) root i (t.connected i l);
      touched = λ z l. ⊎_elim (λ b. t.touched z b) (λ b. (j, m, Memᴰ.cast (Memᴰ.eq_of_singleton b) k)) (Memᴰ.append_cases seen l);
    }

    -- one more atom, over a link that was looked at and to which no figure link goes
    pub part-atom : Normal F → ((i : ℕ) → Range (length F.atoms) i → Across S F q i)
        → (y j : ℕ) → y ∈ seen → ¬ Used S F q y → Range (length S.atoms) j → y ∈ (cell_at S.atoms j).1
        → Part S F q root (set ++ (j ∷ [])) seen
    part-atom NF across y j s u r k = record {
      root-other = t.root-other;
      root-member = Memᴰ.append_left (j ∷ []) t.root-member;
      connected = λ i l. ⊎_elim (λ b. wide i b) (λ b. one i (Memᴰ.eq_of_singleton b)) (Memᴰ.append_cases set l);
      touched = λ z l. let w = t.touched z l in (w.0, Memᴰ.append_left (j ∷ []) w.1, w.2);
    }
      where
        wide : (i : ℕ) → i ∈ set → Reach (Through S F q (set ++ (j ∷ [])) seen) root i
        wide i b = through-more set seen (set ++ (j ∷ [])) seen (λ a c. Memᴰ.append_left (j ∷ []) c) (λ a c. c) root i (t.connected i b)

        from : (i : ℕ) × (i ∈ set) × (y ∈ (cell_at S.atoms i).1)
        from = t.touched y s

        last : Reach (Through S F q (set ++ (j ∷ [])) seen) root j
        last = reach-more (Through S F q (set ++ (j ∷ [])) seen) (wide from.0 from.1) (record {
          beside = record {
            first-other = part-other from.0 from.1;
            second-other = (r, unused-other S F NF q across y u j k);
            link = y;
            first = from.2;
            second = k;
            unused = u;
          };
          into = Memᴰ.append_right set (Memᴰ.head refl);
          over = s;
        })

        one : (i : ℕ) → i ≡ j → Reach (Through S F q (set ++ (j ∷ [])) seen) root i
        one i e = subst (Reach (Through S F q (set ++ (j ∷ [])) seen) root) (sym e) last

    -- no context serves what was looked at
    pub part-cut-off : ((row : NetCell) → row ∈ F.contexts → ¬ Serves S F q seen row.0) → CutOff S F q set seen
    part-cut-off n = record { root = root; root-other = t.root-other; root-member = t.root-member; connected = t.connected; touched = t.touched; no-context = n }

    module _ (w : Grown S F q set seen) where
      -- grown out, the members are the component
      pub grown-component : (j : ℕ) → Joined S F q root j → j ∈ set
      grown-component j r = go root j t.root-member r
        where
          go : (i k : ℕ) → i ∈ set → Joined S F q i k → k ∈ set
          go i k m stay = m
          go i k m (move {y = e} b s) = go e k (w.all-atoms b.link e (w.all-links i b.link m b.first) b.unused b.second-other.0 b.second) s

      -- and the contexts that serve are those that are allowed
      pub grown-allowed : (k : ℕ) → (Serves S F q seen k → Allowed S F q k root) × (Allowed S F q k root → Serves S F q seen k)
      grown-allowed k = (
        (λ s j r l y m u. s y (w.all-links j y (grown-component j l) m) u),
        (λ h y m u. let i = t.touched y m in h i.0 (part-other i.0 i.1).0 (part-joined i.0 i.1) y i.2 u),
      )

      -- the least context that serves is the least for every member
      pub grown-least : (k : ℕ) → Number S F q k → Serves S F q seen k
          → ((d : ℕ) → Number S F q d → Serves S F q seen d → k ≤ d) → (j : ℕ) → j ∈ set → LeastContext S F q j k
      grown-least k n s low j m = least-joined S F q k root j (part-joined j m)
          (record { number = n; allowed = (grown-allowed k).0 s; least = λ d i h. low d i ((grown-allowed d).1 h) })

-- What the loop keeps for each context, link by link.
module _ (S F : Net) (q : Placing) (k : ℕ) where
  pub serves-start : Serves S F q [] k
  serves-start y m u = absurd (Memᴰ.not-nil m)

  -- a link to which no figure link goes, or at which the context has a port
  pub serves_more : (seen : List ℕ) (y : ℕ) → Serves S F q seen k → (Used S F q y → PortAt S F q k y) → Serves S F q (seen ++ (y ∷ [])) k
  serves_more seen y s f z m u = ⊎_elim (λ b. s z b u) (λ b. at (Memᴰ.eq_of_singleton b)) (Memᴰ.append_cases seen m)
    where
      at : z ≡ y → PortAt S F q k z
      at e = subst (PortAt S F q k) (sym e) (f (subst (Used S F q) e u))

  -- what does not serve will not serve more
  pub serves-before : (seen : List ℕ) (y : ℕ) → Serves S F q (seen ++ (y ∷ [])) k → Serves S F q seen k
  serves-before seen y s z m u = s z (Memᴰ.append_left (y ∷ []) m) u
