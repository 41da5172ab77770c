-- Templates told apart by computing: something is decided one way for G, the other way for H, and congruent ones agree on it.
use mathlib.Core.Path.{◌≡◌, refl, ap, sym, ◌∙◌, subst}
use mathlib.Core.Logic.Dec
use mathlib.Core.Logic.{◌⊎◌, inl, inr}
use mathlib.Core.List.Memᴰ
use mathlib.Core.List.{List, [], ◌∷◌}
use Prim.Native.Nat.{ℕ, zero, suc}
use native.Mathlib.Decide.{ℕ_discrete}
use native.Mathlib.Omega.{arith}
use lib.ListN.{length, get_or}
use Rattle.hyperlmntal.specs.Link.{Link, ◌≟◌, select, ◌∈◌, member}
use Rattle.hyperlmntal.specs.Template.{Template, fn}
use Rattle.hyperlmntal.specs.Congruence.{◌≅◌}
use Rattle.hyperlmntal.specs.Hypergraph.{Node, inner, name, Label, symbol, hole, Cell, Fusion, Flat, Connected, stay, along, back, then}
use Rattle.hyperlmntal.specs.Numbered.{flat_n}
use Rattle.hyperlmntal.proofs.Lists.{Each, done, more, Perm, empty, keep, swap, after}
use Rattle.hyperlmntal.proofs.Permutations.{perm-member}
use Rattle.hyperlmntal.proofs.Connection.{connected-mono, connected-≡}
use Rattle.hyperlmntal.proofs.Relational.{Alike, Iso, iso-sym, iso-trans}
use Rattle.hyperlmntal.proofs.CongruentNames.{congruent-within}
use Rattle.hyperlmntal.proofs.Equivalence.{each-length}
use Rattle.hyperlmntal.proofs.Soundness.{sound}
use Rattle.hyperlmntal.proofs.Numbering.{numbered-iso}

abbrev pub Yes : {A : Type 0} → Dec A → Type 0
Yes (yes p) = Unit {0}
Yes (no n) = ⊥

abbrev pub No : {A : Type 0} → Dec A → Type 0
No (yes p) = ⊥
No (no n) = Unit {0}

pub holds : {A : Type 0} (d : Dec A) → Yes d → A
holds (yes p) t = p
holds (no n) t = absurd t

pub fails : {A : Type 0} (d : Dec A) → No d → ¬ A
fails (yes p) t = absurd t
fails (no n) t = n

unfoldable pub some-dec : {A : Type 0} (S : A → Type 0) → ((a : A) → Dec (S a)) → (l : List A) → Dec ((a : A) × (a ∈ l) × S a)
some-dec S d [] = no (λ t. Memᴰ.not-nil t.1)
some-dec {A} S d (b ∷ l) = at (d b) (some-dec S d l)
  where
    neither : ¬ (S b) → ¬ ((a : A) × (a ∈ l) × S a) → (a : A) → S a → (a ≡ b) ⊎ (a ∈ l) → ⊥
    neither n k a s (inl e) = n (subst S e s)
    neither n k a s (inr m) = k (a, m, s)

    at : Dec (S b) → Dec ((a : A) × (a ∈ l) × S a) → Dec ((a : A) × (a ∈ (b ∷ l)) × S a)
    at (yes s) r = yes (b, Memᴰ.head refl, s)
    at (no n) (yes t) = yes (t.0, Memᴰ.tail t.1, t.2)
    at (no n) (no k) = no (λ t. neither n k t.0 t.2 (Memᴰ.cases_cons t.1))

-- Connected nodes, decided: each node has a representative.
unfoldable pub same-node : (a b : Node ℕ) → Dec (a ≡ b)
same-node (inner m) (inner n) = at (ℕ_discrete m n)
  where
    at : Dec (m ≡ n) → Dec (◌≡◌ {A = Node ℕ} (inner m) (inner n))
    at (yes e) = yes (ap inner e)
    at (no k) = no (λ e. k (cc))
same-node (inner m) (name Y) = no (λ e. let z : ◌≡◌ {A = ℕ} 0 1 = cc in omega arith)
same-node (name X) (inner n) = no (λ e. let z : ◌≡◌ {A = ℕ} 0 1 = cc in omega arith)
same-node (name X) (name Y) = at (X ≟ Y)
  where
    at : Dec (X ≡ Y) → Dec (◌≡◌ {A = Node ℕ} (name X) (name Y))
    at (yes e) = yes (ap name e)
    at (no k) = no (λ e. k (cc))

unfoldable pub root : List (Fusion ℕ) → Node ℕ → Node ℕ
root [] a = a
root (e ∷ E) a = select (same-node (root E a) (root E e.1)) (root E e.0) (root E a)

pub root-connected : (E : List (Fusion ℕ)) (a : Node ℕ) → Connected E a (root E a)
unfolding root
root-connected [] a = stay
root-connected (e ∷ E) a = at (up a (root-connected E a)) (up e.0 (root-connected E e.0)) (up e.1 (root-connected E e.1)) (same-node (root E a) (root E e.1))
  where
    up : (b : Node ℕ) → Connected E b (root E b) → Connected (e ∷ E) b (root E b)
    up b c = connected-mono E (e ∷ E) (λ f m. Memᴰ.tail m) c

    at : Connected (e ∷ E) a (root E a) → Connected (e ∷ E) e.0 (root E e.0) → Connected (e ∷ E) e.1 (root E e.1) → (d : Dec (root E a ≡ root E e.1)) → Connected (e ∷ E) a (select d (root E e.0) (root E a))
    at c f g (yes q) = then c (then (connected-≡ (e ∷ E) q) (then (back g) (then (back (along (Memᴰ.head refl))) f)))
    at c f g (no n) = c

pub root-fusion : (E : List (Fusion ℕ)) (e : Fusion ℕ) → e ∈ E → root E e.0 ≡ root E e.1
unfolding root
root-fusion [] e m = absurd (Memᴰ.not-nil m)
root-fusion (f ∷ E) e m = at (Memᴰ.cases_cons m) (λ i. root-fusion E e i)
  where
    first : (d : Dec (root E f.0 ≡ root E f.1)) (c : Dec (root E f.1 ≡ root E f.1)) → select d (root E f.0) (root E f.0) ≡ select c (root E f.0) (root E f.1)
    first (yes p) (yes q) = refl
    first (no n) (yes q) = refl
    first d (no n) = absurd (n refl)

    at : (e ≡ f) ⊎ (e ∈ E) → (e ∈ E → root E e.0 ≡ root E e.1) → root (f ∷ E) e.0 ≡ root (f ∷ E) e.1
    at (inl p) h = ap (λ x. root (f ∷ E) x.0) p ∙ first (same-node (root E f.0) (root E f.1)) (same-node (root E f.1) (root E f.1)) ∙ sym (ap (λ x. root (f ∷ E) x.1) p)
    at (inr i) h = ap (λ x. select (same-node x (root E f.1)) (root E f.0) x) (h i)

pub root-same : (E : List (Fusion ℕ)) {a b : Node ℕ} → Connected E a b → root E a ≡ root E b
root-same E stay = refl
root-same E (along {a} {b} m) = root-fusion E (a, b) m
root-same E (back c) = sym (root-same E c)
root-same E (then c d) = root-same E c ∙ root-same E d

unfoldable pub linked : (E : List (Fusion ℕ)) (a b : Node ℕ) → Dec (Connected E a b)
linked E a b = at (same-node (root E a) (root E b))
  where
    at : Dec (root E a ≡ root E b) → Dec (Connected E a b)
    at (yes e) = yes (then (root-connected E a) (then (connected-≡ E e) (back (root-connected E b))))
    at (no n) = no (λ c. n (root-same E c))

-- X leads from port k of a vertex p to a vertex q: that port is on X, and port i of the vertex p is on one link with port j of a vertex q.
-- Ports are counted from 0; for one that is not there, X stands in.
abbrev pub port_of : {P : Type 0} → Link → Cell P → ℕ → Node P
port_of X c k = get_or c.ports k (name X)

abbrev pub Meets : {P : Type 0} → Flat P → Node P → Link → ℕ → ℕ → Cell P → Type 0
Meets F a X q j d = (d.label ≡ symbol q) × Connected F.fusions a (port_of X d j)

abbrev pub Passes : {P : Type 0} → Flat P → Link → ℕ → ℕ → ℕ → ℕ → ℕ → Cell P → Type 0
Passes {P} F X k p i q j c = Meets F (name X) X p k c × ((d : Cell P) × (d ∈ F.atoms) × Meets F (port_of X c i) X q j d)

abbrev pub Leads : {P : Type 0} → Flat P → Link → ℕ → ℕ → ℕ → ℕ → ℕ → Type 0
Leads {P} F X k p i q j = (c : Cell P) × (c ∈ F.atoms) × Passes F X k p i q j c

unfoldable pub label-dec : (l : Label) (p : ℕ) → Dec (l ≡ symbol p)
label-dec (symbol q) p = at (ℕ_discrete q p)
  where
    at : Dec (q ≡ p) → Dec (◌≡◌ {A = Label} (symbol q) (symbol p))
    at (yes e) = yes (ap symbol e)
    at (no n) = no (λ e. n (cc))
label-dec (hole x) p = no (λ e. let z : ◌≡◌ {A = ℕ} 0 1 = cc in omega arith)

unfoldable pub leads-dec : (F : Flat ℕ) (X : Link) (k p i q j : ℕ) → Dec (Leads F X k p i q j)
leads-dec F X k p i q j = some-dec (Passes F X k p i q j) (λ c. Dec.and (meets (name X) p k c) (some-dec (Meets F (port_of X c i) X q j) (meets (port_of X c i) q j) F.atoms)) F.atoms
  where
    meets : (a : Node ℕ) (q j : ℕ) (d : Cell ℕ) → Dec (Meets F a X q j d)
    meets a q j d = Dec.and (label-dec d.label q) (linked F.fusions a (port_of X d j))

-- Isomorphic hypergraphs agree on it.
each-port : {A B : Type 0} {R : A → B → Type 0} {l : List A} {k : List B} {a : A} {b : B} → Each R l k → R a b → (n : ℕ) → R (get_or l n a) (get_or k n b)
each-port done r n = r
each-port (more s e) r zero = s
each-port (more s e) r (suc n) = each-port e r n

each_member : {A B : Type 0} {S : A → B → Type 0} {l : List A} {k : List B} → Each S l k → (a : A) → a ∈ l → (b : B) × (b ∈ k) × S a b
each_member done a m = absurd (Memᴰ.not-nil m)
each_member {B = B} {S = S} (more {a = c} {b = d} {l = l} {k = k} s e) a m = at (Memᴰ.cases_cons m) (λ i. each_member e a i)
  where
    at : (a ≡ c) ⊎ (a ∈ l) → (a ∈ l → (b : B) × (b ∈ k) × S a b) → (b : B) × (b ∈ (d ∷ k)) × S a b
    at (inl q) f = (d, Memᴰ.head refl, subst (λ x. S x d) (sym q) s)
    at (inr i) f = let t = f i in (t.0, Memᴰ.tail t.1, t.2)

perm-length : {A : Type 0} {l k : List A} → Perm l k → length l ≡ length k
perm-length empty = refl
perm-length (keep p) = ap suc (perm-length p)
perm-length swap = refl
perm-length (after p q) = perm-length p ∙ perm-length q

module _ {P Q : Type 0} {F : Flat P} {K : Flat Q} (i : Iso F K) where
  partner-of : (c : Cell P) → c ∈ F.atoms → (d : Cell Q) × (d ∈ K.atoms) × Alike i.R c d
  partner-of c m = each_member i.cells.2 c (perm-member i.cells.1 c m)

  pub linked-iso : (X Y : Link) → Connected F.fusions (name X) (name Y) → Connected K.fusions (name X) (name Y)
  linked-iso X Y c = i.onward (name X) (name Y) (name X) (name Y) (i.links X) (i.links Y) c

  pub leads-iso : (X : Link) (k p l q j : ℕ) → Leads F X k p l q j → Leads K X k p l q j
  leads-iso X k p l q j t = let c = partner-of t.0 t.1 in let d = partner-of t.2.1.0 t.2.1.1 in (c.0, c.1, ((sym c.2.0 ∙ t.2.0.0, i.onward _ _ _ _ (i.links X) (each-port c.2.1 (i.links X) k) t.2.0.1), (d.0, d.1, (sym d.2.0 ∙ t.2.1.2.0, i.onward _ _ _ _ (each-port c.2.1 (i.links X) l) (each-port d.2.1 (i.links X) j) t.2.1.2.1))))

  pub count-iso : length F.atoms ≡ length K.atoms
  count-iso = perm-length i.cells.1 ∙ each-length i.cells.2

numbered-sound : {G H : Template} → G ≅ H → Iso (flat_n G) (flat_n H)
numbered-sound {G} {H} e = iso-trans (iso-sym (numbered-iso G)) (iso-trans (sound e) (numbered-iso H))

-- Two templates are not congruent if X is free in one only, if X and Y are connected in one only, if X leads somewhere in one only,
-- or if they have not as many atoms and contexts.
module _ {G H : Template} where
  pub apart-names : (X : Link) → Yes (member X (fn G)) → No (member X (fn H)) → ¬ (G ≅ H)
  apart-names X y n e = fails (member X (fn H)) n ((congruent-within e).0 X (holds (member X (fn G)) y))

  pub apart-links : (X Y : Link) → Yes (linked (flat_n G).fusions (name X) (name Y)) → No (linked (flat_n H).fusions (name X) (name Y)) → ¬ (G ≅ H)
  apart-links X Y y n e = fails (linked (flat_n H).fusions (name X) (name Y)) n (linked-iso (numbered-sound e) X Y (holds (linked (flat_n G).fusions (name X) (name Y)) y))

  pub apart-vertices : (X : Link) (k p i q j : ℕ) → Yes (leads-dec (flat_n G) X k p i q j) → No (leads-dec (flat_n H) X k p i q j) → ¬ (G ≅ H)
  apart-vertices X k p i q j y n e = fails (leads-dec (flat_n H) X k p i q j) n (leads-iso (numbered-sound e) X k p i q j (holds (leads-dec (flat_n G) X k p i q j) y))

  pub apart-count : No (ℕ_discrete (length (flat_n G).atoms) (length (flat_n H).atoms)) → ¬ (G ≅ H)
  apart-count n e = fails (ℕ_discrete (length (flat_n G).atoms) (length (flat_n H).atoms)) n (count-iso (numbered-sound e))
