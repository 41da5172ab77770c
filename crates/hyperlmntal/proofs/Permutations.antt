-- Permutations, related lists, and one member taken out of a list.
use mathlib.Core.Path.{◌≡◌, refl, ap, sym, subst}
use mathlib.Core.Logic.{◌⊎◌, inl, inr}
use mathlib.Core.List.Memᴰ
use mathlib.Core.List.{List, [], ◌∷◌, ◌++◌, map, append_assoc}
use Rattle.hyperlmntal.specs.Link.{◌∈◌}
use Rattle.hyperlmntal.proofs.Lists.{Each, done, more, Perm, empty, keep, swap, after, perm-refl, perm-append, perm_comm}

pub perm-≡ : {A : Type 0} {l k : List A} → l ≡ k → Perm l k
perm-≡ {l = l} e = subst (λ k. Perm l k) e (perm-refl l)

pub perm-prepend : {A : Type 0} (m : List A) {l k : List A} → Perm l k → Perm (m ++ l) (m ++ k)
perm-prepend [] p = p
perm-prepend (a ∷ m) p = keep (perm-prepend m p)

pub perm-blocks : {A : Type 0} (l k m : List A) → Perm (l ++ (k ++ m)) (k ++ (l ++ m))
perm-blocks l k m = after (perm-≡ (sym (append_assoc l k m))) (after (perm-append m (perm_comm l k)) (perm-≡ (append_assoc k l m)))

pub perm-member : {A : Type 0} {l k : List A} → Perm l k → (a : A) → a ∈ l → a ∈ k
perm-member empty a m = m
perm-member (keep {a = b} {l = l} {k = k} p) a m = at (Memᴰ.cases_cons m) (λ i. perm-member p a i)
  where
    at : (a ≡ b) ⊎ (a ∈ l) → (a ∈ l → a ∈ k) → a ∈ (b ∷ k)
    at (inl e) f = Memᴰ.head e
    at (inr i) f = Memᴰ.tail (f i)
perm-member (swap {a = b} {b = c} {l = l}) a m = at (Memᴰ.cases_cons m)
  where
    second : (a ≡ c) ⊎ (a ∈ l) → a ∈ (c ∷ b ∷ l)
    second (inl e) = Memᴰ.head e
    second (inr i) = Memᴰ.tail (Memᴰ.tail i)

    at : (a ≡ b) ⊎ (a ∈ (c ∷ l)) → a ∈ (c ∷ b ∷ l)
    at (inl e) = Memᴰ.tail (Memᴰ.head e)
    at (inr i) = second (Memᴰ.cases_cons i)
perm-member (after p q) a m = perm-member q a (perm-member p a m)

pub each-imp-in : {A B : Type 0} {R S : A → B → Type 0} {l : List A} {k : List B} → ((a : A) (b : B) → a ∈ l → b ∈ k → R a b → S a b) → Each R l k → Each S l k
each-imp-in h done = done
each-imp-in h (more {a = a} {b = b} r e) = more (h a b (Memᴰ.head refl) (Memᴰ.head refl) r) (each-imp-in (λ c d m n. h c d (Memᴰ.tail m) (Memᴰ.tail n)) e)

-- Pick a l r: l is r with a put in at some position.
pub data Pick {A : Type 0} : A → List A → List A → Type 0 where
  first : {a : A} {l : List A} → Pick a (a ∷ l) l
  later : {a b : A} {l r : List A} → Pick a l r → Pick a (b ∷ l) (b ∷ r)

pub pick-member : {A : Type 0} {a : A} {l r : List A} → Pick a l r → (b : A) → b ∈ r → b ∈ l
pick-member first b m = Memᴰ.tail m
pick-member (later {b = c} {l = l} {r = r} p) b m = at (Memᴰ.cases_cons m) (λ i. pick-member p b i)
  where
    at : (b ≡ c) ⊎ (b ∈ r) → (b ∈ r → b ∈ l) → b ∈ (c ∷ l)
    at (inl e) f = Memᴰ.head e
    at (inr i) f = Memᴰ.tail (f i)

pub pick_at : {A : Type 0} {a : A} {l r : List A} → Pick a l r → a ∈ l
pick_at first = Memᴰ.head refl
pick_at (later p) = Memᴰ.tail (pick_at p)

pub pick-perm : {A : Type 0} {a : A} {l k r : List A} → Perm l k → Pick a k r → (s : List A) × Pick a l s × Perm s r
pick-perm empty x = elim x [ ]
pick-perm (keep {l = l} p) first = (l, first, p)
pick-perm (keep {a = b} p) (later q) = let t = pick-perm p q in (b ∷ t.0, later t.1, keep t.2)
pick-perm (swap {a = a} {l = l}) first = (a ∷ l, later first, perm-refl (a ∷ l))
pick-perm (swap {b = b} {l = l}) (later first) = (b ∷ l, first, perm-refl (b ∷ l))
pick-perm (swap {a = a} {b = b}) (later (later {r = r} q)) = (a ∷ b ∷ r, later (later q), swap)
pick-perm (after p q) x = let t = pick-perm q x in let u = pick-perm p t.1 in (u.0, u.1, after u.2 t.2)

-- Taken out of appended and of mapped lists.
pub pick-append : {A : Type 0} {a : A} (l k : List A) {r : List A} → Pick a (l ++ k) r → ((s : List A) × Pick a l s × (s ++ k ≡ r)) ⊎ ((s : List A) × Pick a k s × (l ++ s ≡ r))
pick-append [] k {r} p = inr (r, p, refl)
pick-append (b ∷ l) k first = inl (l, first, refl)
pick-append {A} {a} (b ∷ l) k (later {r = r} p) = on (pick-append l k p)
  where
    on : ((s : List A) × Pick a l s × (s ++ k ≡ r)) ⊎ ((s : List A) × Pick a k s × (l ++ s ≡ r)) → ((s : List A) × Pick a (b ∷ l) s × (s ++ k ≡ b ∷ r)) ⊎ ((s : List A) × Pick a k s × (b ∷ (l ++ s) ≡ b ∷ r))
    on (inl t) = inl (b ∷ t.0, later t.1, ap (λ m. b ∷ m) t.2)
    on (inr t) = inr (t.0, t.1, ap (λ m. b ∷ m) t.2)

pub pick-map : {A B : Type 0} (f : A → B) {b : B} (l : List A) {r : List B} → Pick b (map f l) r → (a : A) × (s : List A) × Pick a l s × (f a ≡ b) × (map f s ≡ r)
pick-map f [] x = elim x [ ]
pick-map f (a ∷ l) first = (a, l, first, refl, refl)
pick-map f (a ∷ l) (later p) = let t = pick-map f l p in (t.0, a ∷ t.1, later t.2, t.3, ap (λ m. f a ∷ m) t.4)

pub pick-one : {A : Type 0} {a b : A} {r : List A} → Pick a (b ∷ []) r → (a ≡ b) × (r ≡ [])
pick-one first = (refl, refl)
pick-one (later x) = elim x [ ]
