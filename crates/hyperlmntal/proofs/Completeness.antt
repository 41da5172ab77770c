-- H2: templates that denote isomorphic hypergraphs are congruent (004, section 2.7, leaves it open). Partner vertices are
-- taken out under the same new names, pair after pair, until nets are left.
use mathlib.Core.Path.{◌≡◌, refl, ap, sym, subst, subst₂}
use mathlib.Core.Logic.{◌⊎◌, inl, inr, ◌↔◌}
use mathlib.Core.List.Memᴰ
use mathlib.Core.List.{List, [], ◌∷◌, ◌++◌}
use Rattle.hyperlmntal.specs.Link.{Link, ◌∈◌}
use Rattle.hyperlmntal.specs.Template.{Template, fn}
use Rattle.hyperlmntal.specs.Congruence.{◌≅◌, ≅-sym, ≅-trans}
use Rattle.hyperlmntal.specs.GraphSubstitution.{Distinct}
use Rattle.hyperlmntal.specs.Hypergraph.{Node, Cell, Connected, port_nodes, Place, flat, On}
use Rattle.hyperlmntal.specs.Isomorphism.{Isomorphic}
use Rattle.hyperlmntal.specs.TermOf.{labelled}
use Rattle.hyperlmntal.proofs.Lists.{Each, done, more, Perm, perm-sym}
use Rattle.hyperlmntal.proofs.Permutations.{Pick, first, perm-member, pick-member, pick_at, pick-perm, each-imp-in}
use Rattle.hyperlmntal.proofs.Relational.{Alike, Match, Iso}
use Rattle.hyperlmntal.proofs.Equivalence.{iso-of-isomorphic}
use Rattle.hyperlmntal.proofs.Flats.{on-atoms, on-fusions}
use Rattle.hyperlmntal.proofs.FreeNames.{fn-of-flat, flat-of-fn}
use Rattle.hyperlmntal.proofs.CongruentNames.{Within}
use Rattle.hyperlmntal.proofs.Soundness.{congruent-isomorphic}
use Rattle.hyperlmntal.proofs.Derived.{≅-≡, E4-both, Off, νs-≅}
use Rattle.hyperlmntal.proofs.Nets.{bare-complete}
use Rattle.hyperlmntal.proofs.Ports.{Even, fresh_for, fresh-even, fresh-off, fresh-distinct}
use Rattle.hyperlmntal.proofs.Wires.{Old, stand, stand-old, stand-related, wires-connected}
use Rattle.hyperlmntal.proofs.Extraction.{all_links, fn-links, Cut, cut, rest-new, rest_in, rest_out}

ports-in : {P : Type 0} {c : Cell P} {l : List (Cell P)} → c ∈ l → (n : Node P) → n ∈ c.ports → n ∈ port_nodes l
ports-in (Memᴰ.head {xs = l} e) n m = Memᴰ.append_left (port_nodes l) (subst (λ d. n ∈ d.ports) e m)
ports-in (Memᴰ.tail {x = d} i) n m = Memᴰ.append_right d.ports (ports-in i n m)

-- The partner of the first vertex is taken out.
match-first : {P Q : Type 0} {R : Node P → Node Q → Type 0} {l : List (Cell P)} {d : Cell Q} {k : List (Cell Q)} → Match R l (d ∷ k) → (c : Cell P) × (r : List (Cell P)) × Pick c l r × Alike R c d × Match R r k
match-first {P} {Q} {R} {l} {d} {k} t = from t.1 t.2
  where
    from : {m : List (Cell P)} → Perm l m → Each (Alike R) m (d ∷ k) → (c : Cell P) × (r : List (Cell P)) × Pick c l r × Alike R c d × Match R r k
    from p (more {a = c} {l = m} s e) = let u = pick-perm p first in (c, u.0, u.1, s, (m, u.2, e))

match_none : {P Q : Type 0} {R : Node P → Node Q → Type 0} {l : List (Cell P)} → Match R l [] → (c : Cell P) → ¬ (c ∈ l)
match_none {P} {Q} {R} {l} t = from t.1 t.2
  where
    from : {m : List (Cell P)} → Perm l m → Each (Alike R) m [] → (c : Cell P) → ¬ (c ∈ l)
    from p done c i = Memᴰ.not-nil (perm-member p c i)

even-related : {A B C : Type 0} {R : B → C → Type 0} {l : List A} {k : List B} {m : List C} → Each R k m → Even l m → Even l k
even-related done done = done
even-related (more r e) (more u f) = more u (even-related e f)

old : (G : Template) (Ps : List Link) → Off Ps (all_links G) → (n : Node Place) → On n (flat G) → Old Ps n
old G Ps o n m Z e i = o Z i (fn-links G Z (fn-of-flat G (Memᴰ.cast (sym e) m)))

-- What is left of isomorphic templates when partners are taken out is isomorphic.
module _ (G H : Template) {c d : Cell Place} {r k : List (Cell Place)} (Ps : List Link) (i : Iso (flat G) (flat H)) (p : Pick c (flat G).atoms r) (q : Pick d (flat H).atoms k) (s : Each i.R c.ports d.ports) (rk : Match i.R r k) (apart : Distinct Ps) (og : Off Ps (all_links G)) (oh : Off Ps (all_links H)) (t : Cut G c r Ps) (u : Cut H d k Ps) where
  abbrev Tied : Node Place → Node Place → Type 0
  Tied a b = i.R (stand Ps c.ports a) (stand Ps d.ports b)

  on-vertex : (K : Template) {b : Cell Place} → b ∈ (flat K).atoms → Off Ps (all_links K) → (n : Node Place) → n ∈ b.ports → Old Ps n
  on-vertex K m o n j = old K Ps o n (on-atoms (flat K) (ports-in m n j))

  left-connected : (a b : Node Place) → Connected (flat t.rest).fusions a b ↔ Connected (flat G).fusions (stand Ps c.ports a) (stand Ps c.ports b)
  left-connected = wires-connected Ps c.ports (flat G).fusions (flat t.rest).fusions t.wired apart (on-vertex G (pick_at p) og) (λ n m. old G Ps og n (on-fusions (flat G) m))

  right-connected : (a b : Node Place) → Connected (flat u.rest).fusions a b ↔ Connected (flat H).fusions (stand Ps d.ports a) (stand Ps d.ports b)
  right-connected = wires-connected Ps d.ports (flat H).fusions (flat u.rest).fusions u.wired apart (on-vertex H (pick_at q) oh) (λ n m. old H Ps oh n (on-fusions (flat H) m))

  still : (a b : Cell Place) → a ∈ (flat G).atoms → b ∈ (flat H).atoms → Alike i.R a b → Alike Tied a b
  still a b m n w = (w.0, each-imp-in (λ x y j l z. subst₂ i.R (sym (stand-old Ps c.ports x (on-vertex G m og x j))) (sym (stand-old Ps d.ports y (on-vertex H n oh y l))) z) w.1)

  others-match : Match Tied r k
  others-match = (rk.0, rk.1, each-imp-in (λ a b m n w. still a b (pick-member p a (perm-member (perm-sym rk.1) a m)) (pick-member q b n) w) rk.2)

  rests-isomorphic : Iso (flat t.rest) (flat u.rest)
  rests-isomorphic = record { R = Tied; links = λ X. stand-related i.R X (i.links X) Ps s; cells = subst₂ (Match Tied) (sym t.others) (sym u.others) others-match; onward = λ a b x y v w h. (right-connected x y).1 (i.onward _ _ _ _ v w ((left-connected a b).0 h)); backward = λ a b x y v w h. (left-connected x y).1 (i.backward _ _ _ _ v w ((right-connected a b).0 h)) }

rests-within : {G H : Template} {c d : Cell Place} {r k : List (Cell Place)} {Ps : List Link} (t : Cut G c r Ps) (u : Cut H d k Ps) → Even Ps d.ports → Within (fn G) (fn H) → Within (fn t.rest) (fn u.rest)
rests-within {G} {Ps = Ps} t u e f Z m = at (rest_out t Z m)
  where
    at : (Z ∈ Ps) ⊎ (Z ∈ fn G) → Z ∈ fn u.rest
    at (inl j) = rest-new u e Z j
    at (inr j) = rest_in u Z (f Z j)

-- k is the list of the vertices of H.
complete-from : (k : List (Cell Place)) (G H : Template) → (flat H).atoms ≡ k → Iso (flat G) (flat H) → Within (fn G) (fn H) → Within (fn H) (fn G) → G ≅ H
complete-from [] G H e i f g = bare-complete G H (match_none (subst (λ l. Match i.R (flat G).atoms l) e i.cells)) (λ c m. Memᴰ.not-nil (subst (λ l. c ∈ l) e m)) i f g
complete-from (d ∷ k) G H e i f g = ≅-trans t.congruent (≅-trans (νs-≅ Ps (E4-both (≅-≡ (ap (λ b. labelled b Ps) w.3.0)) (complete-from k t.rest u.rest u.others (rests-isomorphic G H Ps i w.2 q w.3.1 w.4 apart og oh t u) (rests-within t u ed f) (rests-within u t ec g)))) (≅-sym u.congruent))
  where
    w : (c : Cell Place) × (r : List (Cell Place)) × Pick c (flat G).atoms r × Alike i.R c d × Match i.R r k
    w = match-first (subst (λ l. Match i.R (flat G).atoms l) e i.cells)

    q : Pick d (flat H).atoms k
    q = subst (λ l. Pick d l k) (sym e) first

    Ps : List Link
    Ps = fresh_for d.ports (all_links G ++ all_links H)

    apart : Distinct Ps
    apart = fresh-distinct d.ports (all_links G ++ all_links H)

    og : Off Ps (all_links G)
    og Z m j = fresh-off d.ports (all_links G ++ all_links H) Z m (Memᴰ.append_left (all_links H) j)

    oh : Off Ps (all_links H)
    oh Z m j = fresh-off d.ports (all_links G ++ all_links H) Z m (Memᴰ.append_right (all_links G) j)

    ed : Even Ps d.ports
    ed = fresh-even d.ports (all_links G ++ all_links H)

    ec : Even Ps w.0.ports
    ec = even-related w.3.1 ed

    t : Cut G w.0 w.1 Ps
    t = cut G w.0 w.1 Ps w.2 ec apart og

    u : Cut H d k Ps
    u = cut H d k Ps q ed apart oh

-- By the relational isomorphism.
pub complete : (G H : Template) → Iso (flat G) (flat H) → ((X : Link) → (X ∈ fn G) ↔ (X ∈ fn H)) → G ≅ H
complete G H i f = complete-from (flat H).atoms G H refl i (λ Z. (f Z).0) (λ Z. (f Z).1)

-- By the isomorphism of the definitions.
pub isomorphic-congruent : {G H : Template} → Isomorphic (flat G) (flat H) → G ≅ H
isomorphic-congruent {G} {H} i = complete G H (iso-of-isomorphic (flat G) (flat H) i) (λ X. (λ m. fn-of-flat H ((i.names X).0 (flat-of-fn G m)), λ m. fn-of-flat G ((i.names X).1 (flat-of-fn H m))))

-- H1 and H2 together.
pub congruent-iff-isomorphic : {G H : Template} → (G ≅ H) ↔ Isomorphic (flat G) (flat H)
congruent-iff-isomorphic = (λ e. congruent-isomorphic e, λ i. isomorphic-congruent i)
