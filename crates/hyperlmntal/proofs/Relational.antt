-- Isomorphism by a relation of nodes: easier to compose and to transport than positions of ports.
use mathlib.Core.Path.{◌≡◌, refl, sym, ◌∙◌, subst}
use mathlib.Core.List.{List}
use Rattle.hyperlmntal.specs.Link.{Link, ◌∈◌}
use Rattle.hyperlmntal.specs.Hypergraph.{Node, name, Cell, Fusion, Flat, Connected, back, then}
use Rattle.hyperlmntal.proofs.Lists.{Each, Perm, after, perm-refl, perm-sym, each-perm, each-sym, each-imp, each-trans, each-refl}
use Rattle.hyperlmntal.proofs.Connection.{connected-map, recast}

-- Two vertices with one label whose ports are related, and two lists of vertices that agree so in some order.
abbrev pub Alike : {P Q : Type 0} → (Node P → Node Q → Type 0) → Cell P → Cell Q → Type 0
Alike R c d = (c.label ≡ d.label) × Each R c.ports d.ports

abbrev pub Match : {P Q : Type 0} → (Node P → Node Q → Type 0) → List (Cell P) → List (Cell Q) → Type 0
Match {P} R l k = (m : List (Cell P)) × Perm l m × Each (Alike R) m k

-- Nodes that are connected have connected partners.
abbrev pub Keeps : {P Q : Type 0} → (Node P → Node Q → Type 0) → List (Fusion P) → List (Fusion Q) → Type 0
Keeps {P} {Q} R E D = (a b : Node P) (c d : Node Q) → R a c → R b d → Connected E a b → Connected D c d

abbrev pub Turned : {A B : Type 0} → (A → B → Type 0) → B → A → Type 0
Turned R b a = R a b

pub record Iso {P Q : Type 0} (F : Flat P) (K : Flat Q) : Type 1 where
  pub R : Node P → Node Q → Type 0
  pub links : (X : Link) → R (name X) (name X)
  pub cells : Match R F.atoms K.atoms
  pub onward : Keeps R F.fusions K.fusions
  pub backward : Keeps (Turned R) K.fusions F.fusions

pub match-sym : {P Q : Type 0} {R : Node P → Node Q → Type 0} {l : List (Cell P)} {k : List (Cell Q)} → Match R l k → Match (Turned R) k l
match-sym {R = R} {l = l} {k = k} t = each-perm (perm-sym t.1) (each-imp (λ c d r. (sym r.0, each-sym r.1)) (each-sym t.2))

pub match-trans : {P Q T : Type 0} {R : Node P → Node Q → Type 0} {S : Node Q → Node T → Type 0} {l : List (Cell P)} {k : List (Cell Q)} {m : List (Cell T)} → Match R l k → Match S k m → Match (λ a c. (b : Node Q) × R a b × S b c) l m
match-trans {R = R} {S = S} t u = let w = each-perm u.1 t.2 in (w.0, after t.1 w.1, each-imp (λ a c r. (r.1.0 ∙ r.2.0, each-trans r.1.1 r.2.1)) (each-trans w.2 u.2))

pub cells-refl : {P : Type 0} (R : Node P → Node P → Type 0) → ((a : Node P) → R a a) → (l : List (Cell P)) → Each (Alike R) l l
cells-refl R h l = each-refl (Alike R) (λ c. (refl, each-refl R h c.ports)) l

pub match-refl : {P : Type 0} (R : Node P → Node P → Type 0) → ((a : Node P) → R a a) → (l : List (Cell P)) → Match R l l
match-refl R h l = (l, perm-refl l, cells-refl R h l)

pub iso-refl : {P : Type 0} (F : Flat P) → Iso F F
iso-refl F = record { R = λ a b. a ≡ b; links = λ X. refl; cells = match-refl (λ a b. a ≡ b) (λ a. refl) F.atoms; onward = λ a b c d r s h. recast r s h; backward = λ a b c d r s h. recast (sym r) (sym s) h }

pub iso-sym : {P Q : Type 0} {F : Flat P} {K : Flat Q} → Iso F K → Iso K F
iso-sym i = record { R = Turned i.R; links = i.links; cells = match-sym i.cells; onward = i.backward; backward = i.onward }

pub iso-trans : {P Q T : Type 0} {F : Flat P} {K : Flat Q} {M : Flat T} → Iso F K → Iso K M → Iso F M
iso-trans {Q = Q} i j = record { R = λ a c. (b : Node Q) × i.R a b × j.R b c; links = λ X. (name X, i.links X, j.links X); cells = match-trans i.cells j.cells; onward = λ a b c d r s h. j.onward r.0 s.0 c d r.2 s.2 (i.onward a b r.0 s.0 r.1 s.1 h); backward = λ a b c d r s h. i.backward r.0 s.0 c d r.1 s.1 (j.backward a b r.0 s.0 r.2 s.2 h) }

pub iso-≡ : {P : Type 0} {F K : Flat P} → F ≡ K → Iso F K
iso-≡ {F = F} e = subst (λ K. Iso F K) e (iso-refl F)

-- By a map of nodes each way that keeps connections.
abbrev pub Via : {P Q : Type 0} → Flat P → Flat Q → (Node P → Node Q) → (Node Q → Node P) → Node P → Node Q → Type 0
Via F K f h a b = Connected K.fusions b (f a) × Connected F.fusions a (h b)

pub iso-by : {P Q : Type 0} (F : Flat P) (K : Flat Q) (f : Node P → Node Q) (h : Node Q → Node P) → ((e : Fusion P) → e ∈ F.fusions → Connected K.fusions (f e.0) (f e.1)) → ((e : Fusion Q) → e ∈ K.fusions → Connected F.fusions (h e.0) (h e.1)) → ((X : Link) → Via F K f h (name X) (name X)) → Match (Via F K f h) F.atoms K.atoms → Iso F K
iso-by F K f h fe he ls cs = record { R = Via F K f h; links = ls; cells = cs; onward = λ a b c d r s p. then r.0 (then (connected-map F.fusions K.fusions f fe p) (back s.0)); backward = λ a b c d r s p. then r.1 (then (connected-map K.fusions F.fusions h he p) (back s.1)) }
