-- The isomorphism of the definitions and the relational one with the same free link names are the same.
use mathlib.Core.Path.{◌≡◌, refl, ap, sym, ◌∙◌, subst₂}
use mathlib.Core.Logic.{◌↔◌}
use mathlib.Core.List.{List, [], ◌∷◌}
use mathlib.Core.Option.{Option, some, none}
use Prim.Native.Nat.{ℕ, zero, suc}
use native.Mathlib.Omega.{arith}
use lib.ListN.{length, get_elem?}
use Rattle.hyperlmntal.specs.Link.{Link, ◌∈◌}
use Rattle.hyperlmntal.specs.Hypergraph.{Node, name, Cell, Flat, nodes}
use Rattle.hyperlmntal.specs.Isomorphism.{Point, port, link, port_at, node_at, partner, Isomorphic}
use Rattle.hyperlmntal.proofs.Lists.{Each, done, more, Perm, perm-sym}
use Rattle.hyperlmntal.proofs.Positions.{some-injective, moved, moved_at, moved_back, back-moved, moved-below, each-of-bijection}
use Rattle.hyperlmntal.proofs.Relational.{Alike, Keeps, Turned, Iso, iso-sym, iso-trans}

pub each-length : {A B : Type 0} {S : A → B → Type 0} {l : List A} {k : List B} → Each S l k → length l ≡ length k
each-length done = refl
each-length (more s e) = ap suc (each-length e)

pub each_at : {A B : Type 0} {S : A → B → Type 0} {l : List A} {k : List B} → Each S l k → (j : ℕ) (a : A) (b : B) → get_elem? l j ≡ some a → get_elem? k j ≡ some b → S a b
each_at done j a b p q = absurd (let z : ◌≡◌ {A = ℕ} 0 1 = cc in omega arith)
each_at {S = S} (more s e) zero a b p q = subst₂ S (some-injective p) (some-injective q) s
each_at (more s e) (suc j) a b p q = each_at e j a b p q

pub each-of-positions : {A B : Type 0} (S : A → B → Type 0) (l : List A) (k : List B) → length l ≡ length k → ((j : ℕ) (a : A) (b : B) → get_elem? l j ≡ some a → get_elem? k j ≡ some b → S a b) → Each S l k
each-of-positions S [] [] n r = done
each-of-positions S [] (b ∷ k) n r = absurd (omega arith)
each-of-positions S (a ∷ l) [] n r = absurd (omega arith)
each-of-positions S (a ∷ l) (b ∷ k) n r = more (r 0 a b refl refl) (each-of-positions S l k (omega arith) (λ j. r (suc j)))

abbrev pub SameNames : {P Q : Type 0} → Flat P → Flat Q → Type 0
SameNames F K = (X : Link) → (name X ∈ nodes F) ↔ (name X ∈ nodes K)

-- A port's vertex.
vertex-of : {P : Type 0} (o : Option (Cell P)) (j : ℕ) (a : Node P) → port_at o j ≡ some a → (c : Cell P) × (o ≡ some c) × (get_elem? c.ports j ≡ some a)
vertex-of none j a e = absurd (let z : ◌≡◌ {A = ℕ} 0 1 = cc in omega arith)
vertex-of (some c) j a e = (c, refl, e)

pub isomorphic-of-iso : {P Q : Type 0} (F : Flat P) (K : Flat Q) → Iso F K → SameNames F K → Isomorphic F K
isomorphic-of-iso {P} {Q} F K i names = record { vertices = record { to = moved p; from = moved (perm-sym p); to_below = λ j h. omega (arith, moved-below p j h, size); from-below = λ j h. moved-below (perm-sym p) j (omega (arith, size)); from-to = λ j h. moved_back p j; to-from = λ j h. back-moved p j }; functors = λ j c d e f. let s = alike j c d e f in λ k. (s.0 k, each-length s.1 k); names = names; points = λ x y a b c d e f g h. (i.onward a b c d (related x a c e g) (related y b d f h), i.backward c d a b (related x a c e g) (related y b d f h)) }
  where
    m : List (Cell P)
    m = i.cells.0

    p : Perm F.atoms m
    p = i.cells.1

    size : length m ≡ length K.atoms
    size = each-length i.cells.2

    alike : (j : ℕ) (c : Cell P) (d : Cell Q) → get_elem? F.atoms j ≡ some c → get_elem? K.atoms (moved p j) ≡ some d → Alike i.R c d
    alike j c d e f = each_at i.cells.2 (moved p j) c d (sym (moved_at p j) ∙ e) f

    related : (x : Point) (a : Node P) (c : Node Q) → node_at F x ≡ some a → node_at K (partner (moved p) x) ≡ some c → i.R a c
    related (link X) a c e f = subst₂ i.R (some-injective e) (some-injective f) (i.links X)
    related (port j n) a c e f = let t = vertex-of (get_elem? F.atoms j) n a e in let u = vertex-of (get_elem? K.atoms (moved p j)) n c f in each_at (alike j t.0 u.0 t.1 u.1).1 n a c t.2 u.2

-- Nodes are related that are at partners.
module _ {P Q : Type 0} (F : Flat P) (K : Flat Q) (i : Isomorphic F K) where
  abbrev pub AtPartners : Node P → Node Q → Type 0
  AtPartners a c = (x : Point) × (node_at F x ≡ some a) × (node_at K (partner i.vertices.to x) ≡ some c)

  pub partners-alike : (j : ℕ) (c : Cell P) (d : Cell Q) → get_elem? F.atoms j ≡ some c → get_elem? K.atoms (i.vertices.to j) ≡ some d → Alike AtPartners c d
  partners-alike j c d e f = let s = i.functors j c d e f in (ap (λ t. t.0) s, each-of-positions AtPartners c.ports d.ports (ap (λ t. t.1) s) (λ n a b g h. (port j n, ap (λ o. port_at o n) e ∙ g, ap (λ o. port_at o n) f ∙ h)))

  pub partners-onward : Keeps AtPartners F.fusions K.fusions
  partners-onward a b c d r s h = (i.points r.0 s.0 a b c d r.1 s.1 r.2 s.2).0 h

  pub partners-backward : Keeps (Turned AtPartners) K.fusions F.fusions
  partners-backward a b c d r s h = (i.points r.0 s.0 c d a b r.1 s.1 r.2 s.2).1 h

  pub iso-of-isomorphic : Iso F K
  iso-of-isomorphic = record { R = AtPartners; links = λ X. (link X, refl, refl); cells = each-of-bijection (Alike AtPartners) K.atoms F.atoms i.vertices partners-alike; onward = partners-onward; backward = partners-backward }

-- Isomorphism is symmetric and transitive.
pub isomorphic-sym : {P Q : Type 0} {F : Flat P} {K : Flat Q} → Isomorphic F K → Isomorphic K F
isomorphic-sym {F = F} {K = K} i = isomorphic-of-iso K F (iso-sym (iso-of-isomorphic F K i)) (λ X. ((i.names X).1, (i.names X).0))

pub isomorphic-trans : {P Q T : Type 0} {F : Flat P} {K : Flat Q} {M : Flat T} → Isomorphic F K → Isomorphic K M → Isomorphic F M
isomorphic-trans {F = F} {K = K} {M = M} i j = isomorphic-of-iso F M (iso-trans (iso-of-isomorphic F K i) (iso-of-isomorphic K M j)) (λ X. (λ m. (j.names X).0 ((i.names X).0 m), λ m. (i.names X).1 ((j.names X).1 m)))
