-- Filling isomorphic hypergraphs with isomorphic ones gives isomorphic ones.
use mathlib.Core.Path.{◌≡◌, refl, ap, sym, ◌∙◌, subst₂}
use mathlib.Core.List.Memᴰ
use mathlib.Core.List.{List, [], ◌∷◌, ◌++◌, map, append-nil}
use mathlib.Core.Option.{Option, some, none}
use Prim.Native.Nat.{ℕ, suc, ◌<◌}
use native.Mathlib.Omega.{arith}
use lib.ListN.{length, get_elem?}
use Rattle.hyperlmntal.specs.Link.{Link}
use Rattle.hyperlmntal.specs.GraphSubstitution.{Entry}
use Rattle.hyperlmntal.specs.Hypergraph.{Node, name, Cell, Flat, Connected, map_cell}
use Rattle.hyperlmntal.specs.Isomorphism.{Bijection, link, Isomorphic}
use Rattle.hyperlmntal.specs.DenotedSubstitution.{Spot, outer_node, plug, fill_with, entry_for, fill_cells, fill_flat}
use Rattle.hyperlmntal.proofs.Lists.{Each, done, more, empty, perm-refl, perm-map, each-map₂}
use Rattle.hyperlmntal.proofs.Connection.{connected-ind, connected-≡}
use Rattle.hyperlmntal.proofs.Relational.{Alike, Match, Iso}
use Rattle.hyperlmntal.proofs.Positions.{below-some, some_below, each-of-bijection}
use Rattle.hyperlmntal.proofs.Equivalence.{each-length, AtPartners, partners-alike, partners-onward, partners-backward, iso-of-isomorphic}
use Rattle.hyperlmntal.proofs.Gathering.{gather, perm-gather, match-gather, match-perm, indexed, indexed-length, indexed-at}
use Rattle.hyperlmntal.proofs.Slots.{body_of, ports_of, entry_at, EntryAlike, Found, missing, hit, entries-found, found-ports}
use Rattle.hyperlmntal.proofs.Gluing.{Glue, glue-sym, Slot, Plugged, outers, inners, plugged-keeps, plugged-sym}

-- The bodies of what is found.
connected-none : {P : Type 0} {a b : Node P} → Connected {P = P} [] a b → a ≡ b
connected-none {P} {a} c = sym ((connected-ind [] (λ n. n ≡ a) (λ e m. absurd (Memᴰ.not-nil m)) c).0 refl)

nothing-iso : {Q Q' : Type 0} → Iso {P = Q} {Q = Q'} (record { atoms = []; fusions = [] }) (record { atoms = []; fusions = [] })
nothing-iso {Q} {Q'} = record { R = λ a b. (X : Link) × (a ≡ name X) × (b ≡ name X); links = λ X. (X, refl, refl); cells = ([], empty, done); onward = λ a b c d r s h. connected-≡ [] (let e : a ≡ b = connected-none h in let x : a ≡ name r.0 = r.1 in let y : b ≡ name s.0 = s.1 in let z : c ≡ name r.0 = r.2 in let w : d ≡ name s.0 = s.2 in cc); backward = λ a b c d r s h. connected-≡ [] (let e : a ≡ b = connected-none h in let x : c ≡ name r.0 = r.1 in let y : d ≡ name s.0 = s.1 in let z : a ≡ name r.0 = r.2 in let w : b ≡ name s.0 = s.2 in cc) }

found-iso : {Q Q' : Type 0} {o : Option (Entry (Flat Q))} {o' : Option (Entry (Flat Q'))} → Found o o' → Iso (body_of o) (body_of o')
found-iso missing = nothing-iso
found-iso (hit {e = e} {f = f} r) = iso-of-isomorphic e.body f.body r.2

-- The vertices of a filled hypergraph, one part for each vertex of the template.
abbrev part : {P Q : Type 0} → List (Entry (Flat Q)) → ℕ × Cell P → List (Cell (Spot P Q))
part θ x = (fill_with (entry_at θ x.1) x.0 x.1).atoms

fill_cells-gather : {P Q : Type 0} (θ : List (Entry (Flat Q))) (i : ℕ) (l : List (Cell P)) → (fill_cells θ i l).atoms ≡ gather (part θ) (indexed i l)
fill_cells-gather θ i [] = refl
fill_cells-gather θ i (c ∷ l) = ap (λ k. part θ (i, c) ++ k) (fill_cells-gather θ (suc i) l)

module _ {P P' Q Q' : Type 0} (F : Flat P) (K : Flat P') (i : Isomorphic F K) {θ : List (Entry (Flat Q))} {θ' : List (Entry (Flat Q'))} (es : Each EntryAlike θ θ') where
  pub glued : Glue F K θ θ'
  glued = record { R = AtPartners F K i; links = λ X. (link X, refl, refl); onward = partners-onward F K i; backward = partners-backward F K i; Paired = λ k j. (k < length F.atoms) × (i.vertices.to k ≡ j); onto = λ k c e. let h = some_below F.atoms k c e in let u = below-some K.atoms (i.vertices.to k) (i.vertices.to_below k h) in (i.vertices.to k, u.0, (h, refl), u.1); from = λ j d e. let h = some_below K.atoms j d e in let u = below-some F.atoms (i.vertices.from j) (i.vertices.from-below j h) in (i.vertices.from j, u.0, (i.vertices.from-below j h, i.vertices.to-from j h), u.1); onto-one = λ k j l p q. sym p.1 ∙ q.1; from_one = λ k j l p q. sym (i.vertices.from-to k p.0) ∙ ap i.vertices.from (p.1 ∙ sym q.1) ∙ i.vertices.from-to j q.0; alike = λ k j c d p e f. partners-alike F K i k c d e (ap (get_elem? K.atoms) p.1 ∙ f); S = λ t n. (found-iso (entries-found es t n)).R; S-links = λ t n. (found-iso (entries-found es t n)).links; S-onward = λ t n. (found-iso (entries-found es t n)).onward; S-backward = λ t n. (found-iso (entries-found es t n)).backward; same-ports = λ t n. found-ports (entries-found es t n) }

  -- The vertices at paired positions.
  slot-match : {o : Option (Entry (Flat Q))} {o' : Option (Entry (Flat Q'))} (f : Found o o') (k j : ℕ) (c : Cell P) (d : Cell P') → Alike (AtPartners F K i) c d → ((x : Node Q) (y : Node Q') → (found-iso f).R x y → Plugged glued (plug k c.ports (ports_of o) x) (plug j d.ports (ports_of o') y)) → Match (Plugged glued) (fill_with o k c).atoms (fill_with o' j d).atoms
  unfolding glued
  slot-match missing k j c d a h = ((fill_with {Q = Q} none k c).atoms, perm-refl _, more (a.0, each-map₂ outer_node outer_node (λ n m r. outers n m r refl refl) a.1) done)
  slot-match (hit {e = e} {f = f} r) k j c d a h = let t = (found-iso (hit r)).cells in (map (map_cell (plug k c.ports e.ports)) t.0, perm-map (map_cell (plug k c.ports e.ports)) t.1, each-map₂ (map_cell (plug k c.ports e.ports)) (map_cell (plug j d.ports f.ports)) (λ x y s. (s.0, each-map₂ (plug k c.ports e.ports) (plug j d.ports f.ports) h s.1)) t.2)

  abbrev Here : ℕ × Cell P → ℕ × Cell P' → Type 0
  Here x y = (get_elem? F.atoms x.0 ≡ some x.1) × (get_elem? K.atoms y.0 ≡ some y.1) × (x.0 < length F.atoms) × (i.vertices.to x.0 ≡ y.0)

  here-match : (x : ℕ × Cell P) (y : ℕ × Cell P') → Here x y → Match (Plugged glued) (part θ x) (part θ' y)
  unfolding glued
  here-match x y h = subst₂ (λ t n. Match (Plugged glued) (part θ x) (fill_with (entry_for θ' t n) y.0 y.1).atoms) a.0 (each-length a.1) (slot-match (entries-found es x.1.label (length x.1.ports)) x.0 y.0 x.1 y.1 a (λ p q r. inners slot p q r refl refl))
    where
      a : Alike (AtPartners F K i) x.1 y.1
      a = partners-alike F K i x.0 x.1 y.1 h.0 (ap (get_elem? K.atoms) h.3 ∙ h.1)

      slot : Slot glued
      slot = record { i = x.0; j = y.0; c = x.1; d = y.1; t = x.1.label; n = length x.1.ports; paired = (h.2, h.3); at_i = h.0; at_j = h.1; label-c = refl; label-d = sym a.0; size-c = refl; size-d = sym (each-length a.1) }

  positions : Bijection (length (indexed 0 F.atoms)) (length (indexed 0 K.atoms))
  positions = let n = indexed-length 0 F.atoms in let m = indexed-length 0 K.atoms in record { to = i.vertices.to; from = i.vertices.from; to_below = λ k h. omega (arith, m, i.vertices.to_below k (omega (arith, n))); from-below = λ k h. omega (arith, n, i.vertices.from-below k (omega (arith, m))); from-to = λ k h. i.vertices.from-to k (omega (arith, n)); to-from = λ k h. i.vertices.to-from k (omega (arith, m)) }

  here : (k : ℕ) (x : ℕ × Cell P) (y : ℕ × Cell P') → get_elem? (indexed 0 F.atoms) k ≡ some x → get_elem? (indexed 0 K.atoms) (i.vertices.to k) ≡ some y → Here x y
  here k x y e f = let u = indexed-at 0 F.atoms k x e in let v = indexed-at 0 K.atoms (i.vertices.to k) y f in let n : x.0 ≡ k = omega (arith, u.0) in let m : y.0 ≡ i.vertices.to k = omega (arith, v.0) in (ap (get_elem? F.atoms) n ∙ u.1, ap (get_elem? K.atoms) m ∙ v.1, omega (arith, some_below F.atoms k x.1 u.1), ap i.vertices.to n ∙ sym m)

  filled-cells : Match (Plugged glued) (fill_flat θ F).atoms (fill_flat θ' K).atoms
  unfolding positions
  filled-cells = let t = each-of-bijection Here (indexed 0 K.atoms) (indexed 0 F.atoms) positions here in subst₂ (λ l k. Match (Plugged glued) l k) (sym (append-nil (fill_cells θ 0 F.atoms).atoms ∙ fill_cells-gather θ 0 F.atoms)) (sym (append-nil (fill_cells θ' 0 K.atoms).atoms ∙ fill_cells-gather θ' 0 K.atoms)) (match-perm (perm-gather (part θ) t.1) (match-gather (part θ) (part θ') here-match t.2))

  pub fill-iso : Iso (fill_flat θ F) (fill_flat θ' K)
  fill-iso = record { R = Plugged glued; links = λ X. outers (name X) (name X) (glued.links X) refl refl; cells = filled-cells; onward = plugged-keeps glued; backward = λ a b c d r s h. plugged-keeps (glue-sym glued) a b c d (plugged-sym glued r) (plugged-sym glued s) h }
