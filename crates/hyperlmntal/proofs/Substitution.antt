-- H3: the hypergraph of Tθ is the hypergraph of T filled with those of θ.
use mathlib.Core.Path.{◌≡◌, refl, ap, sym, ◌∙◌, subst}
use mathlib.Core.Logic.{◌⊎◌, inl, inr, ◌≢◌}
use mathlib.Core.List.Memᴰ
use mathlib.Core.List.{List, [], ◌∷◌, ◌++◌, map, append-nil}
use mathlib.Core.Option
use mathlib.Core.Option.{Option, some, none}
use Prim.Native.Nat.{ℕ}
use native.Mathlib.Omega.{arith}
use lib.ListN.{length, length-map}
use Rattle.hyperlmntal.specs.Link.{Link, ◌≟◌, select, ◌∈◌}
use Rattle.hyperlmntal.specs.Template.{Template, null, atom, fusion, molecule, ν, context, fn}
use Rattle.hyperlmntal.specs.LinkSubstitution.{avoid, same, update, assign}
use Rattle.hyperlmntal.specs.GraphSubstitution.{Entry, Substitution, same_functor, lookup, fill, minus, loose, substitute_by, substitute}
use Rattle.hyperlmntal.specs.Hypergraph.{Node, inner, name, Label, symbol, hole, Cell, Flat, Place, map_cell, map_flat, join, on_left, on_right, hide, flat, rename_node, On}
use Rattle.hyperlmntal.specs.Isomorphism.{Isomorphic}
use Rattle.hyperlmntal.specs.DenotedSubstitution.{Spot, outer_node, connect, plug, fill_with, fill_flat, denoted_by, denoted_all}
use Rattle.hyperlmntal.proofs.Lists.{all_map}
use Rattle.hyperlmntal.proofs.Links.{without_in, avoid-not}
use Rattle.hyperlmntal.proofs.Flats.{flat-≡, map_flat-idle, map_flat-one, map_flat-two, on-of-map}
use Rattle.hyperlmntal.proofs.FreeNames.{fn-of-flat, flat-rename, rename-molecule, hide-rename}
use Rattle.hyperlmntal.proofs.Relational.{Iso, iso-sym, iso-trans}
use Rattle.hyperlmntal.proofs.Relabel.{relabel, relabel-names}
use Rattle.hyperlmntal.proofs.Equivalence.{SameNames, isomorphic-of-iso}
use Rattle.hyperlmntal.proofs.Places.{NodeOf, flat-places}
use Rattle.hyperlmntal.proofs.Reordering.{Reordered, reordered-≡, reordered-trans, reordered-map, reordered-join, reordered-iso, reordered-names}
use Rattle.hyperlmntal.proofs.Filling.{LooseIn}
use Rattle.hyperlmntal.proofs.FilledNodes.{Filled, filled_more, filled-nodes}
use Rattle.hyperlmntal.proofs.Grafting.{count, count-flat, graft, settle, unsettle, unsettle-settle}
use Rattle.hyperlmntal.proofs.FillingParts.{fill-molecule, fill-hide}

lookup-denoted : (x n : ℕ) (θ : Substitution) → lookup x n (denoted_all θ) ≡ Option.map (denoted_by flat) (lookup x n θ)
lookup-denoted x n [] = refl
lookup-denoted x n (e ∷ θ) = at (same_functor x n (denoted_by flat e)) (same_functor x n e) (lookup-denoted x n θ)
  where
    at : (c d : Dec ((x ≡ e.number) × (n ≡ length e.ports))) → lookup x n (denoted_all θ) ≡ Option.map (denoted_by flat) (lookup x n θ) → ◌≡◌ {A = Option (Entry (Flat Place))} (select c (some (denoted_by flat e)) (lookup x n (denoted_all θ))) (Option.map (denoted_by flat) (select d (some e) (lookup x n θ)))
    at (yes p) (yes q) h = refl
    at (yes p) (no k) h = absurd (k p)
    at (no k) (yes q) h = absurd (k q)
    at (no k) (no l) h = h

-- Loose names of the fillings' hypergraphs are loose in θ.
minus-in : (l k : List Link) {Z : Link} → Z ∈ l → ¬ (Z ∈ k) → Z ∈ minus l k
minus-in l [] m n = m
minus-in l (X ∷ k) m n = without_in X (minus l k) (minus-in l k m (λ i. n (Memᴰ.tail i))) (λ e. n (Memᴰ.head e))

loose-of : (θ : Substitution) (e : Entry Template) → e ∈ θ → {Z : Link} → Z ∈ minus (fn e.body) e.ports → Z ∈ loose θ
loose-of [] e m i = absurd (Memᴰ.not-nil m)
loose-of (d ∷ θ) e m {Z} i = at (Memᴰ.cases_cons m) (λ k. loose-of θ e k i)
  where
    at : (e ≡ d) ⊎ (e ∈ θ) → (e ∈ θ → Z ∈ loose θ) → Z ∈ minus (fn d.body) d.ports ++ loose θ
    at (inl p) f = Memᴰ.append_left (loose θ) (subst (λ x. Z ∈ minus (fn x.body) x.ports) p i)
    at (inr k) f = Memᴰ.append_right (minus (fn d.body) d.ports) (f k)

loose-denoted : (θ : Substitution) (Z : Link) → LooseIn (denoted_all θ) Z → Z ∈ loose θ
loose-denoted θ Z t = all_map (denoted_by flat) θ (λ e. On (name Z) e.body → ¬ (Z ∈ e.ports) → Z ∈ loose θ) (λ e m i n. loose-of θ e m (minus-in (fn e.body) e.ports (fn-of-flat e.body i) n)) t.0 t.1 t.2 t.3

-- Vertices: an atom, a context that stays, a context that gives way.
settled-links : (g : ℕ → Place → Place) (σ : Link → Link) (Xs : List Link) → map (settle g) (map outer_node (map (rename_node σ) (map name Xs))) ≡ map name (map σ Xs)
settled-links g σ [] = refl
settled-links g σ (X ∷ Xs) = ap (λ l. name (σ X) ∷ l) (settled-links g σ Xs)

settled-connect : (g : ℕ → Place → Place) (σ : Link → Link) (Xs Ys : List Link) (Z : Link) → settle g (connect (map (rename_node σ) (map name Xs)) Ys Z) ≡ name (assign (map σ Xs) Ys Z)
unfolding connect assign update
settled-connect g σ [] Ys Z = refl
settled-connect g σ (X ∷ Xs) [] Z = refl
settled-connect g σ (X ∷ Xs) (Y ∷ Ys) Z = at (Z ≟ Y) (settled-connect g σ Xs Ys Z)
  where
    at : (d : Dec (Z ≡ Y)) → settle g (connect (map (rename_node σ) (map name Xs)) Ys Z) ≡ name (assign (map σ Xs) Ys Z) → settle g (select d (name (σ X)) (connect (map (rename_node σ) (map name Xs)) Ys Z)) ≡ name (select d (σ X) (assign (map σ Xs) Ys Z))
    at (yes e) h = refl
    at (no n) h = h

join-nothing : {P : Type 0} (F : Flat P) → join (join F (record { atoms = []; fusions = [] })) (record { atoms = []; fusions = [] }) ≡ F
join-nothing F = flat-≡ (append-nil (F.atoms ++ []) ∙ append-nil F.atoms) (append-nil (F.fusions ++ []) ∙ append-nil F.fusions)

settled-vertex : (t : Label) (σ : Link → Link) (Xs : List Link) → map_flat (settle (λ i q. q)) (fill_with {Q = Place} none 0 (record { label = t; ports = map (rename_node σ) (map name Xs) })) ≡ record { atoms = record { label = t; ports = map name (map σ Xs) } ∷ []; fusions = [] }
settled-vertex t σ Xs = flat-≡ (ap (λ l. record { label = t; ports = l } ∷ []) (settled-links (λ i q. q) σ Xs)) refl

settled-context : (o : Option (Entry Template)) (x : ℕ) (σ : Link → Link) (Xs : List Link) → map_flat (settle (λ i q. q)) (fill_with (Option.map (denoted_by flat) o) 0 (record { label = hole x; ports = map (rename_node σ) (map name Xs) })) ≡ flat (fill o x (map σ Xs))
settled-context none x σ Xs = settled-vertex (hole x) σ Xs
settled-context (some e) x σ Xs = map_flat-one (settle (λ i q. q)) (plug 0 (map (rename_node σ) (map name Xs)) e.ports) (rename_node (assign (map σ Xs) e.ports)) (flat e.body) (λ n m. at n) ∙ sym (flat-rename (assign (map σ Xs) e.ports) e.body)
  where
    at : (n : Node Place) → settle (λ i q. q) (plug 0 (map (rename_node σ) (map name Xs)) e.ports n) ≡ rename_node (assign (map σ Xs) e.ports) n
    at (inner q) = refl
    at (name Z) = settled-connect (λ i q. q) σ Xs e.ports Z

substituted : (θ : Substitution) (σ : Link → Link) (T : Template) → Reordered (map_flat (settle (graft T)) (fill_flat (denoted_all θ) (map_flat (rename_node σ) (flat T)))) (flat (substitute_by σ θ T))
substituted θ σ null = reordered-≡ refl
substituted θ σ (atom p Xs) = reordered-≡ (settled-vertex (symbol p) σ Xs)
substituted θ σ (fusion X Y) = reordered-≡ refl
substituted θ σ (molecule G H) = reordered-trans (reordered-≡ (ap (λ F. map_flat (settle (graft (molecule G H))) (fill_flat (denoted_all θ) F)) (rename-molecule σ (flat G) (flat H)))) (reordered-trans (fill-molecule (denoted_all θ) (graft G) (graft H) (count G) (map_flat (rename_node σ) (flat G)) (map_flat (rename_node σ) (flat H)) (length-map (flat G).atoms (map_cell (rename_node σ)) ∙ count-flat G)) (reordered-join (reordered-map on_left (substituted θ σ G)) (reordered-map on_right (substituted θ σ H))))
substituted θ σ (ν X G) = reordered-trans (reordered-≡ (ap (λ F. map_flat (settle (graft (ν X G))) (fill_flat (denoted_all θ) F)) hidden ∙ fill-hide (denoted_all θ) (graft G) W (map_flat (rename_node (update σ X W)) (flat G)) apart)) (reordered-map (hide W) (substituted θ (update σ X W) G))
  where
    l : List Link
    l = map σ (fn (ν X G)) ++ loose θ

    W : Link
    W = avoid X l

    apart : (Z : Link) → LooseIn (denoted_all θ) Z → Z ≢ W
    apart Z t e = avoid-not X l (Memᴰ.append_right (map σ (fn (ν X G))) (Memᴰ.cast (sym e) (loose-denoted θ Z t)))

    new : (Z : Link) → Z ∈ fn G → Z ≢ X → σ Z ≢ W
    new Z m n e = avoid-not X l (Memᴰ.append_left (loose θ) (Memᴰ.cast (sym e) (Memᴰ.map σ (without_in X (fn G) m n))))

    hidden : map_flat (rename_node σ) (map_flat (hide X) (flat G)) ≡ map_flat (hide W) (map_flat (rename_node (update σ X W)) (flat G))
    hidden = sym (map_flat-two (hide W) (rename_node (update σ X W)) (rename_node σ) (hide X) (flat G) (λ n m. hide-rename σ X W (fn G) new n (λ Z e. fn-of-flat G (Memᴰ.cast (sym e) m))))
substituted θ σ (context x Xs) = reordered-≡ (ap (λ n. map_flat (settle (λ i q. q)) (join (join (fill_with (lookup x n (denoted_all θ)) 0 c) (record { atoms = []; fusions = [] })) (record { atoms = []; fusions = [] }))) size ∙ ap (map_flat (settle (λ i q. q))) (join-nothing (fill_with (lookup x (length Xs) (denoted_all θ)) 0 c)) ∙ ap (λ o. map_flat (settle (λ i q. q)) (fill_with o 0 c)) (lookup-denoted x (length Xs) θ) ∙ settled-context (lookup x (length Xs) θ) x σ Xs)
  where
    c : Cell Place
    c = record { label = hole x; ports = map (rename_node σ) (map name Xs) }

    size : length (map (rename_node {P = Place} σ) (map name Xs)) ≡ length Xs
    size = length-map (map name Xs) (rename_node σ) ∙ length-map Xs name

-- The same with the free links of T renamed at the same time.
module _ (θ : Substitution) (σ : Link → Link) (T : Template) where
  abbrev Whole : Flat (Spot Place Place)
  Whole = fill_flat (denoted_all θ) (map_flat (rename_node σ) (flat T))

  inverse : (n : Node (Spot Place Place)) → On n Whole → unsettle T (settle (graft T) n) ≡ n
  inverse n m = unsettle-settle T n (at n (filled-nodes Place Place (denoted_all θ) (map_flat (rename_node σ) (flat T)) n m))
    where
      kept : (k : Node Place) → NodeOf T k → NodeOf T (rename_node σ k)
      kept (inner p) w = w
      kept (name X) w = tt

      renamed : (k : Node Place) → On k (map_flat (rename_node σ) (flat T)) → NodeOf T k
      renamed k i = let t = on-of-map (rename_node σ) (flat T) i in subst (NodeOf T) t.2 (kept t.0 (flat-places T t.1))

      at : (k : Node (Spot Place Place)) → Filled (λ a. On a (map_flat (rename_node σ) (flat T))) 0 (length (map (map_cell (rename_node σ)) (flat T).atoms)) k → Filled (NodeOf T) 0 (count T) k
      at k h = filled_more Place Place _ (NodeOf T) 0 0 (length (map (map_cell (rename_node σ)) (flat T).atoms)) (count T) renamed (omega arith) (omega (arith, length-map (flat T).atoms (map_cell (rename_node {P = Place} σ)), count-flat T)) k h

  pub substitute_by-iso : Iso (flat (substitute_by σ θ T)) Whole
  substitute_by-iso = iso-sym (iso-trans (relabel Whole (settle (graft T)) (unsettle T) inverse (λ X. refl) (λ X. refl)) (reordered-iso (map_flat (settle (graft T)) Whole) (flat (substitute_by σ θ T)) (substituted θ σ T)))

  pub substitute_by-names : SameNames (flat (substitute_by σ θ T)) Whole
  substitute_by-names X = let a = relabel-names Whole (settle (graft T)) (unsettle T) inverse (λ Y. refl) (λ Y. refl) X in let b = reordered-names (map_flat (settle (graft T)) Whole) (flat (substitute_by σ θ T)) (substituted θ σ T) X in (λ m. a.1 (b.1 m), λ m. b.0 (a.0 m))

-- What graph substitution denotes, for all templates and all substitutions.
module _ (θ : Substitution) (T : Template) where
  idle : map_flat (rename_node same) (flat T) ≡ flat T
  idle = map_flat-idle (rename_node same) (flat T) at
    where
      at : (n : Node Place) → rename_node same n ≡ n
      at (inner p) = refl
      at (name X) = refl

  pub substitution-iso : Iso (flat (substitute θ T)) (fill_flat (denoted_all θ) (flat T))
  substitution-iso = subst (λ F. Iso (flat (substitute θ T)) (fill_flat (denoted_all θ) F)) idle (substitute_by-iso θ same T)

  pub substitution-names : SameNames (flat (substitute θ T)) (fill_flat (denoted_all θ) (flat T))
  substitution-names = subst (λ F. SameNames (flat (substitute θ T)) (fill_flat (denoted_all θ) F)) idle (substitute_by-names θ same T)

  pub flat-substitution : Isomorphic (flat (substitute θ T)) (fill_flat (denoted_all θ) (flat T))
  flat-substitution = isomorphic-of-iso (flat (substitute θ T)) (fill_flat (denoted_all θ) (flat T)) substitution-iso substitution-names
