-- A vertex taken out of a template: what is left has its ports as free links, under new names.
use mathlib.Core.Path.{◌≡◌, refl, ap, sym, ◌∙◌, subst, subst₂}
use mathlib.Core.Logic.{◌⊎◌, inl, inr, ◌≢◌}
use mathlib.Core.List.Memᴰ
use mathlib.Core.List.{List, [], ◌∷◌, ◌++◌, map, append-nil, append_assoc}
use Rattle.hyperlmntal.specs.Link.{Link, ◌∈◌, member}
use Rattle.hyperlmntal.specs.Template.{Template, null, atom, fusion, molecule, ν, context, fn}
use Rattle.hyperlmntal.specs.Congruence.{◌≅◌, ≅-sym, ≅-trans, E2, E3, E4, E5}
use Rattle.hyperlmntal.specs.GraphSubstitution.{Distinct}
use Rattle.hyperlmntal.specs.Hypergraph.{name, Label, symbol, hole, Cell, map_cell, map_fusion, Place, on_left, on_right, hide, flat}
use Rattle.hyperlmntal.specs.TermOf.{labelled}
use Rattle.hyperlmntal.proofs.Lists.{Perm, after, perm-sym, perm-append}
use Rattle.hyperlmntal.proofs.Permutations.{Pick, perm-≡, perm-prepend, perm-blocks, perm-member, pick-append, pick-map, pick-one}
use Rattle.hyperlmntal.proofs.Links.{without_in, without-out}
use Rattle.hyperlmntal.proofs.Flats.{on-fusions, ends-in}
use Rattle.hyperlmntal.proofs.FreeNames.{hide-off, fn-of-flat}
use Rattle.hyperlmntal.proofs.CongruentNames.{Within, append-within, congruent-within}
use Rattle.hyperlmntal.proofs.Derived.{E4-right, E10-right, νs, Off, νs-≅, νs-inward, νs-molecule}
use Rattle.hyperlmntal.proofs.Nets.{Pair, net, flat-net}
use Rattle.hyperlmntal.proofs.Ports.{fn-labelled, Even, even-of-map, pairs, name-ports}
use Rattle.hyperlmntal.proofs.Wires.{wires, wires-pairs, wires-in, wires-move}

-- All links of a template, bound ones too.
abbrev pub all_links : Template → List Link
all_links null = []
all_links (atom p Xs) = Xs
all_links (fusion X Y) = X ∷ Y ∷ []
all_links (molecule G H) = all_links G ++ all_links H
all_links (ν X G) = X ∷ all_links G
all_links (context x Xs) = Xs

pub fn-links : (G : Template) → Within (fn G) (all_links G)
fn-links null Z m = m
fn-links (atom p Xs) Z m = m
fn-links (fusion X Y) Z m = m
fn-links (molecule G H) Z m = append-within (fn-links G) (fn-links H) Z m
fn-links (ν X G) Z m = Memᴰ.tail (fn-links G Z (without-out X (fn G) m).1)
fn-links (context x Xs) Z m = m

-- The vertex c is taken out under the names P⃗, and the other vertices are those of r.
pub record Cut (G : Template) (c : Cell Place) (r : List (Cell Place)) (Ps : List Link) : Type 0 where
  pub rest : Template
  pub congruent : G ≅ νs Ps (molecule (labelled c.label Ps) rest)
  pub others : (flat rest).atoms ≡ r
  pub wired : Perm (flat rest).fusions (wires Ps c.ports ++ (flat G).fusions)

net-bare : (l : List Pair) → (flat (net l)).atoms ≡ []
net-bare [] = refl
net-bare (e ∷ l) = ap (map (map_cell on_right)) (net-bare l)

-- How vertices of the parts are taken out of the whole.
cut-vertex : (d : Label) (Ps Xs : List Link) → Even Ps Xs → Distinct Ps → Off Ps Xs → (labelled d Xs ≅ νs Ps (molecule (labelled d Ps) (net (pairs Ps Xs)))) × Perm (flat (net (pairs Ps Xs))).fusions (wires Ps (map name Xs) ++ [])
cut-vertex d Ps Xs e a o = (≅-sym (name-ports d Ps Xs e a o), perm-≡ (flat-net (pairs Ps Xs) ∙ wires-pairs Ps Xs ∙ sym (append-nil _)))

cut_left : (G H : Template) {c : Cell Place} {r : List (Cell Place)} (Ps : List Link) → Off Ps (fn H) → Cut G c r Ps → Cut (molecule G H) (map_cell on_left c) (map (map_cell on_left) r ++ map (map_cell on_right) (flat H).atoms) Ps
cut_left G H {c} Ps o t = record { rest = molecule t.rest H; congruent = ≅-trans (E4 t.congruent) (≅-trans (≅-sym (νs-molecule Ps _ H o)) (νs-≅ Ps (≅-sym E3))); others = ap (λ l. map (map_cell on_left) l ++ map (map_cell on_right) (flat H).atoms) t.others; wired = after (perm-append (map (map_fusion on_right) (flat H).fusions) (wires-move on_left Ps c.ports (flat G).fusions (λ Z m. refl) t.wired)) (perm-≡ (append_assoc (wires Ps (map on_left c.ports)) (map (map_fusion on_left) (flat G).fusions) (map (map_fusion on_right) (flat H).fusions))) }

cut_right : (G H : Template) {c : Cell Place} {r : List (Cell Place)} (Ps : List Link) → Off Ps (fn G) → Cut H c r Ps → Cut (molecule G H) (map_cell on_right c) (map (map_cell on_left) (flat G).atoms ++ map (map_cell on_right) r) Ps
cut_right G H {c} Ps o t = record { rest = molecule G t.rest; congruent = ≅-trans E2 (≅-trans (E4 t.congruent) (≅-trans (≅-sym (νs-molecule Ps _ G o)) (νs-≅ Ps (≅-trans (≅-sym E3) (E4-right E2))))); others = ap (λ l. map (map_cell on_left) (flat G).atoms ++ map (map_cell on_right) l) t.others; wired = after (perm-prepend (map (map_fusion on_left) (flat G).fusions) (wires-move on_right Ps c.ports (flat H).fusions (λ Z m. refl) t.wired)) (perm-blocks (map (map_fusion on_left) (flat G).fusions) (wires Ps (map on_right c.ports)) (map (map_fusion on_right) (flat H).fusions)) }

cut-ν : (X : Link) (G : Template) {c : Cell Place} {r : List (Cell Place)} (Ps : List Link) → ¬ (X ∈ Ps) → Cut G c r Ps → Cut (ν X G) (map_cell (hide X) c) (map (map_cell (hide X)) r) Ps
cut-ν X G {c} Ps n t = record { rest = ν X t.rest; congruent = ≅-trans (E5 t.congruent) (≅-trans (νs-inward X Ps _) (νs-≅ Ps (E10-right (λ m. n (subst (λ l. X ∈ l) (fn-labelled c.label Ps) m))))); others = ap (map (map_cell (hide X))) t.others; wired = wires-move (hide X) Ps c.ports (flat G).fusions (λ Z m. hide-off X Z (λ e. n (Memᴰ.cast (sym e) m))) t.wired }

-- Every vertex can be taken out, under names that are new to the template.
pub cut : (G : Template) (c : Cell Place) (r : List (Cell Place)) (Ps : List Link) → Pick c (flat G).atoms r → Even Ps c.ports → Distinct Ps → Off Ps (all_links G) → Cut G c r Ps
cut null c r Ps p e a o = elim p [ ]
cut (atom q Xs) c r Ps p e a o = let t = pick-one p in subst₂ (λ d s. Cut (atom q Xs) d s Ps) (sym t.0) (sym t.1) (let u = cut-vertex (symbol q) Ps Xs (even-of-map name Ps Xs (subst (λ d. Even Ps d.ports) t.0 e)) a o in record { rest = net (pairs Ps Xs); congruent = u.0; others = net-bare (pairs Ps Xs); wired = u.1 })
cut (fusion X Y) c r Ps p e a o = elim p [ ]
cut (molecule G H) c r Ps p e a o = side (pick-append (map (map_cell on_left) (flat G).atoms) (map (map_cell on_right) (flat H).atoms) p) (λ d s q f. cut G d s Ps q (even-of-map on_left Ps d.ports f) a (λ Z m i. o Z m (Memᴰ.append_left (all_links H) i))) (λ d s q f. cut H d s Ps q (even-of-map on_right Ps d.ports f) a (λ Z m i. o Z m (Memᴰ.append_right (all_links G) i)))
  where
    L : List (Cell Place)
    L = map (map_cell on_left) (flat G).atoms

    K : List (Cell Place)
    K = map (map_cell on_right) (flat H).atoms

    side : ((s : List (Cell Place)) × Pick c L s × (s ++ K ≡ r)) ⊎ ((s : List (Cell Place)) × Pick c K s × (L ++ s ≡ r)) → ((d : Cell Place) (s : List (Cell Place)) → Pick d (flat G).atoms s → Even Ps (map on_left d.ports) → Cut G d s Ps) → ((d : Cell Place) (s : List (Cell Place)) → Pick d (flat H).atoms s → Even Ps (map on_right d.ports) → Cut H d s Ps) → Cut (molecule G H) c r Ps
    side (inl t) f g = let u = pick-map (map_cell on_left) (flat G).atoms t.1 in subst₂ (λ d s. Cut (molecule G H) d s Ps) u.3 (ap (λ s. s ++ K) u.4 ∙ t.2) (cut_left G H Ps (λ Z m i. o Z m (Memᴰ.append_right (all_links G) (fn-links H Z i))) (f u.0 u.1 u.2 (subst (λ d. Even Ps d.ports) (sym u.3) e)))
    side (inr t) f g = let u = pick-map (map_cell on_right) (flat H).atoms t.1 in subst₂ (λ d s. Cut (molecule G H) d s Ps) u.3 (ap (λ s. L ++ s) u.4 ∙ t.2) (cut_right G H Ps (λ Z m i. o Z m (Memᴰ.append_left (all_links H) (fn-links G Z i))) (g u.0 u.1 u.2 (subst (λ d. Even Ps d.ports) (sym u.3) e)))
cut (ν X G) c r Ps p e a o = let t = pick-map (map_cell (hide X)) (flat G).atoms p in subst₂ (λ d s. Cut (ν X G) d s Ps) t.3 t.4 (cut-ν X G Ps (λ m. o X m (Memᴰ.head refl)) (cut G t.0 t.1 Ps t.2 (even-of-map (hide X) Ps t.0.ports (subst (λ d. Even Ps d.ports) (sym t.3) e)) a (λ Z m i. o Z m (Memᴰ.tail i))))
cut (context x Xs) c r Ps p e a o = let t = pick-one p in subst₂ (λ d s. Cut (context x Xs) d s Ps) (sym t.0) (sym t.1) (let u = cut-vertex (hole x) Ps Xs (even-of-map name Ps Xs (subst (λ d. Even Ps d.ports) t.0 e)) a o in record { rest = net (pairs Ps Xs); congruent = u.0; others = net-bare (pairs Ps Xs); wired = u.1 })

-- The free links of what is left: those of the template, and the new names.
νs-in : (l : List Link) (G : Template) {Z : Link} → ¬ (Z ∈ l) → Z ∈ fn G → Z ∈ fn (νs l G)
νs-in [] G n m = m
νs-in (X ∷ l) G n m = without_in X (fn (νs l G)) (νs-in l G (λ i. n (Memᴰ.tail i)) m) (λ e. n (Memᴰ.head e))

νs-out : (l : List Link) (G : Template) {Z : Link} → Z ∈ fn (νs l G) → (¬ (Z ∈ l)) × (Z ∈ fn G)
νs-out [] G m = (λ i. Memᴰ.not-nil i, m)
νs-out (X ∷ l) G {Z} m = let t = without-out X (fn (νs l G)) m in let u = νs-out l G t.1 in (λ i. at t.0 u.0 (Memᴰ.cases_cons i), u.1)
  where
    at : Z ≢ X → ¬ (Z ∈ l) → (Z ≡ X) ⊎ (Z ∈ l) → ⊥
    at n k (inl e) = n e
    at n k (inr i) = k i

module _ {G : Template} {c : Cell Place} {r : List (Cell Place)} {Ps : List Link} (t : Cut G c r Ps) where
  pub rest-new : Even Ps c.ports → Within Ps (fn t.rest)
  rest-new e Z m = let w = wires-in e Z m in fn-of-flat t.rest (on-fusions (flat t.rest) (ends-in (perm-member (perm-sym t.wired) (name Z, w.0) (Memᴰ.append_left (flat G).fusions w.1))).0)

  pub rest_in : Within (fn G) (fn t.rest)
  rest_in Z m = let u = νs-out Ps (molecule (labelled c.label Ps) t.rest) ((congruent-within t.congruent).0 Z m) in at u.0 (Memᴰ.append_cases (fn (labelled c.label Ps)) u.1)
    where
      at : ¬ (Z ∈ Ps) → (Z ∈ fn (labelled c.label Ps)) ⊎ (Z ∈ fn t.rest) → Z ∈ fn t.rest
      at n (inl i) = absurd (n (subst (λ l. Z ∈ l) (fn-labelled c.label Ps) i))
      at n (inr i) = i

  pub rest_out : (Z : Link) → Z ∈ fn t.rest → (Z ∈ Ps) ⊎ (Z ∈ fn G)
  rest_out Z m = at (member Z Ps)
    where
      at : Dec (Z ∈ Ps) → (Z ∈ Ps) ⊎ (Z ∈ fn G)
      at (yes i) = inl i
      at (no n) = inr ((congruent-within t.congruent).1 Z (νs-in Ps (molecule (labelled c.label Ps) t.rest) n (Memᴰ.append_right (fn (labelled c.label Ps)) m)))
