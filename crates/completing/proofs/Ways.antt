-- Each way from one half of the contexts to the other needs a link of its own that stands on both, or a figure atom of its own
-- that stands on no one half: where they go is guarded, and ways have nothing guarded in common.
use Prim.Native.Nat.{ℕ, suc, ◌+◌, ◌≤◌, ◌<◌}
use mathlib.Core.Path.{◌≡◌, refl, sym, ◌∙◌, ap, subst}
use mathlib.Core.Logic.{◌⊎◌, inl, inr}
use mathlib.Core.List.Memᴰ
use mathlib.Core.List.{List, [], ◌∷◌, map}
use mathlib.Core.Bool.{Bool, true, false}
use native.Mathlib.Omega.{arith}
use lib.ListN.{length}
use Rattle.hyperlmntal.specs.Link.{◌∈◌}
use Rattle.placing.specs.Net.{Net, Range, Normal}
use Rattle.placing.specs.Placing.{Placing, cell_at, atom_target, link_target, given_to, Taken, At, PortAt, Inside}
use Rattle.placing.proofs.FirstLaws.{both_ways}
use Rattle.placing.proofs.Standing.{context-link, place-link}
use Rattle.completing.specs.Completion.{remove}
use Rattle.completing.specs.Known.{Touches, Known}
use Rattle.completing.specs.Ways.{OnHalf, AtomOnHalf, OnOneHalf, Halved, Route, links_of, atoms_of, last_link, Disjoint, Walk, Way, Ways, Passes, SomeAt, OnlyAcross}
use Rattle.completing.proofs.Lists.{in_remove, remove-shorter}
use Rattle.completing.proofs.Decide.{taken-dec}
use Rattle.completing.proofs.Halves.{on-half-dec, Crossed, half-crossed, linked-half}

-- Links go by f, atoms by g.
module _ (f g : ℕ → ℕ) (GuardedLink GuardedAtom : ℕ → Type 0) where
  -- one of the links goes to a guarded link of the route, or one of the atoms to a guarded atom of it
  abbrev Broken : List ℕ → List ℕ → Route → Type 0
  Broken links atoms w = ((x : ℕ) × (x ∈ links) × GuardedLink (f x) × (f x ∈ links_of w)) ⊎ ((i : ℕ) × (i ∈ atoms) × GuardedAtom (g i) × (g i ∈ atoms_of w))

  -- Each breaks one route.
  routes-few : (ws : List Route) (links atoms : List ℕ) → Disjoint GuardedLink (map links_of ws) → Disjoint GuardedAtom (map atoms_of ws) → ((w : Route) → w ∈ ws → Broken links atoms w)
      → length ws ≤ length links + length atoms
  routes-few [] links atoms d e h = omega arith
  routes-few (w ∷ ws) links atoms d e h = go (h w (Memᴰ.head refl)) (λ l a r. routes-few ws l a d.1 e.1 r)
    where
      no-link : (x : ℕ) → GuardedLink (f x) → f x ∈ links_of w → (v : Route) → v ∈ ws → Broken links atoms v → Broken (remove x links) atoms v
      no-link x s k v m (inl t) = inl (t.0, in_remove t.0 x links t.1 (λ q. d.0 (links_of v) (Memᴰ.map links_of m) (f x) s k (subst (λ (z : ℕ). f z ∈ links_of v) q t.3)), t.2, t.3)
      no-link x s k v m (inr t) = inr t

      no-atom : (i : ℕ) → GuardedAtom (g i) → g i ∈ atoms_of w → (v : Route) → v ∈ ws → Broken links atoms v → Broken links (remove i atoms) v
      no-atom i s k v m (inl t) = inl t
      no-atom i s k v m (inr t) = inr (t.0, in_remove t.0 i atoms t.1 (λ q. e.0 (atoms_of v) (Memᴰ.map atoms_of m) (g i) s k (subst (λ (z : ℕ). g z ∈ atoms_of v) q t.3)), t.2, t.3)

      go : Broken links atoms w → ((l a : List ℕ) → ((v : Route) → v ∈ ws → Broken l a v) → length ws ≤ length l + length a) → suc (length ws) ≤ length links + length atoms
      go (inl t) r = let s = remove-shorter t.0 links t.1 in let u = r (remove t.0 links) atoms (λ v m. no-link t.0 t.2 t.3 v m (h v (Memᴰ.tail m))) in omega arith
      go (inr t) r = let s = remove-shorter t.0 atoms t.1 in let u = r links (remove t.0 atoms) (λ v m. no-atom t.0 t.2 t.3 v m (h v (Memᴰ.tail m))) in omega arith

module _ (S F : Net) (NS : Normal S) (NF : Normal F) (P : Placing → Type 0) (may sure : ℕ → ℕ → Type 0) (other : ℕ → Type 0) (known : Known S F P may sure other)
    (X : ℕ → Bool) (first second : ℕ → Type 0) (halved : Halved F X first second)
    (pass : ℕ → Type 0) (pass-atom : (j : ℕ) → pass j → Range (length S.atoms) j) (GuardedLink GuardedAtom : ℕ → Type 0) (breaking : List ℕ)
    (taken-by : (p : Placing) → P p → (j : ℕ) → pass j → (t : Taken S F p j) → ((t.by ∈ breaking) × GuardedAtom j) ⊎ OnOneHalf F X t.by) where
  module _ (p : Placing) (c : P p) where
    abbrev Cross : ℕ → Type 0
    Cross y = Crossed F X S p y

    -- a link on half b goes to y, or y is inside a context of half b
    abbrev Faces : Bool → ℕ → Type 0
    Faces b y = ((x : ℕ) × At S F p x y × OnHalf F X b x) ⊎ ((k : ℕ) × Inside S F p k y × (X k ≡ b))

    -- A link on half b and one that is not go to y.
    parted : (b : Bool) (x z y : ℕ) → At S F p x y → At S F p z y → OnHalf F X b x → ¬ OnHalf F X b z → Cross y
    parted b x z y u v o n = half-crossed F X S p b y x o z ((known.good p c).linked z x y v u) n

    at-half : (b : Bool) (j x y : ℕ) → pass j → Touches S j y → OnHalf F X b x → link_target p x ≡ y → At S F p x y
    at-half b j x y r m o e = record { figure-link = context-link F NF o.1.row x o.1.of-figure o.1.port; sheet-link = place-link S NS j y (pass-atom j r) m; there = e }

    -- An atom that is given to a context faces its links.
    given-faces : (j : ℕ) → pass j → ¬ Taken S F p j → (y : ℕ) → Touches S j y → Faces (X (given_to p j)) y
    given-faces j r n y m = go ((known.good p c).own-links j (pass-atom j r) n y m)
      where
        go : PortAt S F p (given_to p j) y ⊎ Inside S F p (given_to p j) y → Faces (X (given_to p j)) y
        go (inl t) = let o : OnHalf F X (X (given_to p j)) t.link = (given_to p j, record { row = t.row; of-figure = t.of-figure; port = t.port; number = t.number }, refl) in
            inl (t.link, at-half (X (given_to p j)) j t.link y r m o t.there, o)
        go (inr i) = inr (given_to p j, i, refl)

    -- So does one to which a figure atom goes whose links are on one half.
    taken-faces : (b : Bool) (j : ℕ) → pass j → (t : Taken S F p j) → AtomOnHalf F X b t.by → (y : ℕ) → Touches S j y → Faces b y
    taken-faces b j r t a y m = inl (l.0, at-half b j l.0 y r m (a l.0 l.1) l.2, a l.0 l.1)
      where
        l : (x : ℕ) × (x ∈ (cell_at F.atoms t.by).1) × (link_target p x ≡ y)
        l = Memᴰ.of_map (link_target p) (cell_at F.atoms t.by).1
            (subst (λ (k : List ℕ). y ∈ k) (sym ((known.good p c).across t.by t.of-figure).places) (subst (λ (i : ℕ). Touches S i y) (sym t.there) m))

    -- a figure atom of the list goes to j, which is guarded
    abbrev Breaks : ℕ → Type 0
    Breaks j = (t : Taken S F p j) × (t.by ∈ breaking) × GuardedAtom j

    sided : (j : ℕ) → pass j → Breaks j ⊎ ((b : Bool) × ((y : ℕ) → Touches S j y → Faces b y))
    sided j r = go (taken-dec S F p j)
      where
        by : (t : Taken S F p j) → ((t.by ∈ breaking) × GuardedAtom j) ⊎ OnOneHalf F X t.by → Breaks j ⊎ ((b : Bool) × ((y : ℕ) → Touches S j y → Faces b y))
        by t (inl s) = inl (t, s.0, s.1)
        by t (inr (inl a)) = inr (true, taken-faces true j r t a)
        by t (inr (inr a)) = inr (false, taken-faces false j r t a)

        go : Dec (Taken S F p j) → Breaks j ⊎ ((b : Bool) × ((y : ℕ) → Touches S j y → Faces b y))
        go (yes t) = by t (taken-by p c j r t)
        go (no n) = inr (X (given_to p j), given-faces j r n)

    -- A link that is not on half b goes where half b is faced.
    at-end : (b : Bool) (x y : ℕ) → sure x y → ¬ OnHalf F X b x → Faces b y → Cross y
    at-end b x y s n (inl t) = parted b t.0 x y t.1 (known.surely p c x y s) t.2 n
    at-end b x y s n (inr i) = let a = known.surely p c x y s in absurd (i.1.no-figure-link x a.figure-link a.there)

    -- A link of an atom where both halves are faced.
    between : (j y : ℕ) → pass j → Touches S j y → Faces true y → Faces false y → Cross y
    between j y r m (inl t) (inl u) = go (on-half-dec F X true u.0)
      where
        go : Dec (OnHalf F X true u.0) → Cross y
        go (yes o) = record { link = u.0; at = u.1; both = (o, u.2) }
        go (no n) = parted true t.0 u.0 y t.1 u.1 t.2 n
    between j y r m (inl t) (inr i) = absurd (i.1.no-figure-link t.0 t.1.figure-link t.1.there)
    between j y r m (inr i) (inl u) = absurd (i.1.no-figure-link u.0 u.1.figure-link u.1.there)
    between j y r m (inr i) (inr k) = both_ways i.2 (ap X (sym (i.1.only-there j (pass-atom j r) m).1 ∙ (k.1.only-there j (pass-atom j r) m).1) ∙ k.2)

    -- a link where halves cross, or an atom that breaks the route
    abbrev Met : Route → Type 0
    Met w = ((y : ℕ) × (y ∈ links_of w) × Cross y) ⊎ ((j : ℕ) × (j ∈ atoms_of w) × Breaks j)

    later : (y : ℕ) (s : ℕ × ℕ) (l : List (ℕ × ℕ)) → Met (s.1, l) → Met (y, s ∷ l)
    later y s l (inl t) = inl (t.0, Memᴰ.tail t.1, t.2)
    later y s l (inr t) = inr (t.0, Memᴰ.tail t.1, t.2)

    -- On from a link where the first half is faced.
    walk-on : (l : List (ℕ × ℕ)) (y : ℕ) → Faces true y → Walk (Passes S pass) y l → SomeAt sure second (last_link y l) → Met (y, l)
    walk-on [] y f w v = inl (y, Memᴰ.head refl, at-end true v.0 y v.1 (halved.not_first v.0 v.2) f)
    walk-on (s ∷ l) y f w v = go (sided s.0 w.0.0) (λ g. walk-on l s.1 g w.1 v)
      where
        go : Breaks s.0 ⊎ ((b : Bool) × ((z : ℕ) → Touches S s.0 z → Faces b z)) → (Faces true s.1 → Met (s.1, l)) → Met (y, s ∷ l)
        go (inl k) r = inr (s.0, Memᴰ.head refl, k)
        go (inr (true, g)) r = later y s l (r (g s.1 w.0.2))
        go (inr (false, g)) r = inl (y, Memᴰ.head refl, between s.0 y w.0.0 w.0.1 f (g y w.0.1))

    -- Two links, of both halves, at one sheet link.
    both_at : (y : ℕ) → SomeAt sure first y → SomeAt sure second y → Cross y
    both_at y u v = parted true u.0 v.0 y at-u at-v
        (linked-half F X S p false y u.0 v.0 ((known.good p c).linked u.0 v.0 y at-u at-v) (λ e. halved.apart u.0 u.2 (subst second (sym e) v.2)) (halved.not-second u.0 u.2))
        (halved.not_first v.0 v.2)
      where
        at-u : At S F p u.0 y
        at-u = known.surely p c u.0 y u.1

        at-v : At S F p v.0 y
        at-v = known.surely p c v.0 y v.1

    way-met : (y : ℕ) (l : List (ℕ × ℕ)) → Walk (Passes S pass) y l → SomeAt sure first y → SomeAt sure second (last_link y l) → Met (y, l)
    way-met y [] w u v = inl (y, Memᴰ.head refl, both_at y u v)
    way-met y (s ∷ l) w u v = go (sided s.0 w.0.0)
      where
        go : Breaks s.0 ⊎ ((b : Bool) × ((z : ℕ) → Touches S s.0 z → Faces b z)) → Met (y, s ∷ l)
        go (inl k) = inr (s.0, Memᴰ.head refl, k)
        go (inr (true, g)) = later y s l (walk-on l s.1 (g s.1 w.0.2) w.1 v)
        go (inr (false, g)) = inl (y, Memᴰ.head refl, at-end false u.0 y u.1 (halved.not-second u.0 u.2) (g y w.0.1))

    way-broken : (across : List ℕ) (w : Route) → Way (Passes S pass) (SomeAt sure first) (SomeAt sure second) (OnlyAcross F X may across GuardedLink) w
        → Broken (link_target p) (atom_target p) GuardedLink GuardedAtom across breaking w
    way-broken across w g = go (way-met w.0 w.1 g.walk g.start g.end)
      where
        go : Met w → Broken (link_target p) (atom_target p) GuardedLink GuardedAtom across breaking w
        go (inl t) = let e : link_target p t.2.link ≡ t.0 = t.2.at.there in
            let s = g.free t.0 t.1 t.2.link (known.may-go p c t.2.link t.0 t.2.at) t.2.both in
            inl (t.2.link, s.0, subst GuardedLink (sym e) s.1, Memᴰ.cast e t.1)
        go (inr t) = let e : atom_target p t.2.0.by ≡ t.0 = t.2.0.there in inr (t.2.0.by, t.2.1, subst GuardedAtom (sym e) t.2.2, Memᴰ.cast e t.1)

  -- More ways than links on both halves that may go to them, and figure atoms that break them: no placing of the family is left.
  pub ways-outnumber : (across : List ℕ) (n : ℕ) → Ways (Passes S pass) (SomeAt sure first) (SomeAt sure second) (OnlyAcross F X may across GuardedLink) GuardedLink GuardedAtom n
      → length across + length breaking < n → (p : Placing) → ¬ P p
  ways-outnumber across n ways more p c =
      let m = routes-few (link_target p) (atom_target p) GuardedLink GuardedAtom ways.routes across breaking ways.disjoint ways.apart (λ w i. way-broken p c across w (ways.all_ways w i)) in
      let e = ways.count in
      omega arith
