-- Lists put together from a list of parts, and lists with positions.
use mathlib.Core.Path.{◌≡◌, refl, ap}
use mathlib.Core.List.{List, [], ◌∷◌, ◌++◌}
use mathlib.Core.Option.{some}
use Prim.Native.Nat.{ℕ, zero, suc, ◌+◌}
use native.Mathlib.Omega.{arith}
use lib.ListN.{length, get_elem?}
use Rattle.hyperlmntal.specs.Hypergraph.{Node, Cell}
use Rattle.hyperlmntal.proofs.Lists.{Each, done, more, Perm, empty, keep, swap, after, perm-append, each_append}
use Rattle.hyperlmntal.proofs.Relational.{Match}
use Rattle.hyperlmntal.proofs.Permutations.{perm-prepend, perm-blocks}
use Rattle.hyperlmntal.proofs.Positions.{some-injective}

abbrev pub gather : {A B : Type 0} → (A → List B) → List A → List B
gather f [] = []
gather f (a ∷ l) = f a ++ gather f l

pub perm-gather : {A B : Type 0} (f : A → List B) {l k : List A} → Perm l k → Perm (gather f l) (gather f k)
perm-gather f empty = empty
perm-gather f (keep {a = a} p) = perm-prepend (f a) (perm-gather f p)
perm-gather f (swap {a = a} {b = b} {l = l}) = perm-blocks (f a) (f b) (gather f l)
perm-gather f (after p q) = after (perm-gather f p) (perm-gather f q)

pub match-append : {P Q : Type 0} {R : Node P → Node Q → Type 0} {l l' : List (Cell P)} {k k' : List (Cell Q)} → Match R l k → Match R l' k' → Match R (l ++ l') (k ++ k')
match-append {l' = l'} s t = (s.0 ++ t.0, after (perm-append l' s.1) (perm-prepend s.0 t.1), each_append s.2 t.2)

pub match-gather : {A B P Q : Type 0} {R : Node P → Node Q → Type 0} {S : A → B → Type 0} (f : A → List (Cell P)) (g : B → List (Cell Q)) → ((a : A) (b : B) → S a b → Match R (f a) (g b)) → {l : List A} {k : List B} → Each S l k → Match R (gather f l) (gather g k)
match-gather f g h done = ([], empty, done)
match-gather f g h (more {a = a} {b = b} s e) = match-append (h a b s) (match-gather f g h e)

pub match-perm : {P Q : Type 0} {R : Node P → Node Q → Type 0} {l m : List (Cell P)} {k : List (Cell Q)} → Perm l m → Match R m k → Match R l k
match-perm p t = (t.0, after p t.1, t.2)

abbrev pub indexed : {A : Type 0} → ℕ → List A → List (ℕ × A)
indexed i [] = []
indexed i (a ∷ l) = (i, a) ∷ indexed (suc i) l

pub indexed-length : {A : Type 0} (i : ℕ) (l : List A) → length (indexed i l) ≡ length l
indexed-length i [] = refl
indexed-length i (a ∷ l) = ap suc (indexed-length (suc i) l)

pub indexed-at : {A : Type 0} (i : ℕ) (l : List A) (k : ℕ) (x : ℕ × A) → get_elem? (indexed i l) k ≡ some x → (x.0 ≡ i + k) × (get_elem? l k ≡ some x.1)
indexed-at i [] k x e = absurd (let z : ◌≡◌ {A = ℕ} 0 1 = cc in omega arith)
indexed-at i (a ∷ l) zero x e = let s : (i, a) ≡ x = some-injective e in let n : i ≡ x.0 = ap (λ t. t.0) s in (omega arith, ap (λ t. some t.1) s)
indexed-at i (a ∷ l) (suc k) x e = let t = indexed-at (suc i) l k x e in let n : x.0 ≡ suc i + k = t.0 in (omega arith, t.1)
