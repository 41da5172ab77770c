-- Lists: maps that agree, related lists, permutations.
use mathlib.Core.Path.{◌≡◌, refl, ap₂, subst}
use mathlib.Core.Logic.{◌⊎◌, inl, inr}
use mathlib.Core.List.Memᴰ
use mathlib.Core.List.{List, [], ◌∷◌, ◌++◌, map}
use Rattle.hyperlmntal.specs.Link.{◌∈◌}

pub map-agree : {A B : Type 0} (f g : A → B) (l : List A) → ((a : A) → a ∈ l → f a ≡ g a) → map f l ≡ map g l
map-agree f g [] h = refl
map-agree f g (a ∷ l) h = ap₂ ◌∷◌ (h a (Memᴰ.head refl)) (map-agree f g l (λ b m. h b (Memᴰ.tail m)))

pub map-idle : {A : Type 0} (f : A → A) (l : List A) → ((a : A) → a ∈ l → f a ≡ a) → map f l ≡ l
map-idle f [] h = refl
map-idle f (a ∷ l) h = ap₂ ◌∷◌ (h a (Memᴰ.head refl)) (map-idle f l (λ b m. h b (Memᴰ.tail m)))

-- What holds of all members of a mapped or an appended list.
pub all_map : {A B : Type 0} (f : A → B) (l : List A) (P : B → Type 0) → ((a : A) → a ∈ l → P (f a)) → (b : B) → b ∈ map f l → P b
all_map {A} f l P h b m = let t : (a : A) × (a ∈ l) × (f a ≡ b) = Memᴰ.of_map f l m in subst P t.2 (h t.0 t.1)

pub all_append : {A : Type 0} (k l : List A) (P : A → Type 0) → ((a : A) → a ∈ k → P a) → ((a : A) → a ∈ l → P a) → (a : A) → a ∈ k ++ l → P a
all_append k l P f g a m = side (Memᴰ.append_cases k m)
  where
    side : (a ∈ k) ⊎ (a ∈ l) → P a
    side (inl h) = f a h
    side (inr h) = g a h

-- Nothing appended adds no member.
pub unpadded : {A : Type 0} (l : List A) {a : A} → a ∈ (l ++ []) ++ [] → a ∈ l
unpadded {A} l {a} m = from (Memᴰ.append_cases (l ++ []) m)
  where
    first : (a ∈ l) ⊎ (◌∈◌ {A = A} a []) → a ∈ l
    first (inl i) = i
    first (inr i) = absurd (Memᴰ.not-nil i)

    from : (a ∈ l ++ []) ⊎ (◌∈◌ {A = A} a []) → a ∈ l
    from (inl i) = first (Memᴰ.append_cases l i)
    from (inr i) = absurd (Memᴰ.not-nil i)

-- Lists of one length, related member by member.
pub data Each {A B : Type 0} (R : A → B → Type 0) : List A → List B → Type 0 where
  done : Each R [] []
  more : {a : A} {b : B} {l : List A} {k : List B} → R a b → Each R l k → Each R (a ∷ l) (b ∷ k)

pub data Perm {A : Type 0} : List A → List A → Type 0 where
  empty : Perm [] []
  keep : {a : A} {l k : List A} → Perm l k → Perm (a ∷ l) (a ∷ k)
  swap : {a b : A} {l : List A} → Perm (a ∷ b ∷ l) (b ∷ a ∷ l)
  after : {l k m : List A} → Perm l k → Perm k m → Perm l m

unfoldable pub perm-refl : {A : Type 0} (l : List A) → Perm l l
perm-refl [] = empty
perm-refl (a ∷ l) = keep (perm-refl l)

unfoldable pub perm-sym : {A : Type 0} {l k : List A} → Perm l k → Perm k l
perm-sym empty = empty
perm-sym (keep p) = keep (perm-sym p)
perm-sym swap = swap
perm-sym (after p q) = after (perm-sym q) (perm-sym p)

pub perm-append : {A : Type 0} {l k : List A} (m : List A) → Perm l k → Perm (l ++ m) (k ++ m)
perm-append m empty = perm-refl m
perm-append m (keep p) = keep (perm-append m p)
perm-append m swap = swap
perm-append m (after p q) = after (perm-append m p) (perm-append m q)

pub perm-map : {A B : Type 0} (f : A → B) {l k : List A} → Perm l k → Perm (map f l) (map f k)
perm-map f empty = empty
perm-map f (keep p) = keep (perm-map f p)
perm-map f swap = swap
perm-map f (after p q) = after (perm-map f p) (perm-map f q)

pub perm-front : {A : Type 0} (a : A) (l k : List A) → Perm (a ∷ (l ++ k)) (l ++ (a ∷ k))
perm-front a [] k = perm-refl (a ∷ k)
perm-front a (b ∷ l) k = after swap (keep (perm-front a l k))

pub perm_comm : {A : Type 0} (l k : List A) → Perm (l ++ k) (k ++ l)
perm_comm [] [] = empty
perm_comm [] (b ∷ k) = keep (perm_comm [] k)
perm_comm (a ∷ l) k = after (keep (perm_comm l k)) (perm-front a k l)

module _ {A B : Type 0} {R : A → B → Type 0} where
  pub each-perm : {l : List A} {k m : List B} → Perm k m → Each R l k → (n : List A) × Perm l n × Each R n m
  each-perm empty done = ([], empty, done)
  each-perm (keep p) (more {a = a} {l = l} r e) = let t = each-perm {l = l} p e in (a ∷ t.0, keep t.1, more r t.2)
  each-perm swap (more {a = a} r (more {a = b} {l = l} s e)) = (b ∷ a ∷ l, swap, more s (more r e))
  each-perm (after p q) e = let t = each-perm p e in let u = each-perm q t.2 in (u.0, after t.1 u.1, u.2)

  pub each-sym : {l : List A} {k : List B} → Each R l k → Each (λ b a. R a b) k l
  each-sym done = done
  each-sym (more r e) = more r (each-sym e)

  pub each_append : {l l' : List A} {k k' : List B} → Each R l k → Each R l' k' → Each R (l ++ l') (k ++ k')
  each_append done f = f
  each_append (more r e) f = more r (each_append e f)

pub each-imp : {A B : Type 0} {R S : A → B → Type 0} → ((a : A) (b : B) → R a b → S a b) → {l : List A} {k : List B} → Each R l k → Each S l k
each-imp h done = done
each-imp h (more {a = a} {b = b} r e) = more (h a b r) (each-imp h e)

pub each-trans : {A B C : Type 0} {R : A → B → Type 0} {S : B → C → Type 0} {l : List A} {k : List B} {m : List C} → Each R l k → Each S k m → Each (λ a c. (b : B) × R a b × S b c) l m
each-trans done done = done
each-trans (more {b = b} r e) (more s f) = more (b, r, s) (each-trans e f)

pub each-refl : {A : Type 0} (R : A → A → Type 0) → ((a : A) → R a a) → (l : List A) → Each R l l
each-refl R h [] = done
each-refl R h (a ∷ l) = more (h a) (each-refl R h l)

-- Two maps of one list, and one map of each of two related lists.
pub each_maps : {A B C : Type 0} (f : A → B) (g : A → C) (R : B → C → Type 0) (l : List A) → ((a : A) → a ∈ l → R (f a) (g a)) → Each R (map f l) (map g l)
each_maps f g R [] h = done
each_maps f g R (a ∷ l) h = more (h a (Memᴰ.head refl)) (each_maps f g R l (λ b m. h b (Memᴰ.tail m)))

pub each_map : {A B : Type 0} (g : A → B) (R : A → B → Type 0) (l : List A) → ((a : A) → a ∈ l → R a (g a)) → Each R l (map g l)
each_map g R [] h = done
each_map g R (a ∷ l) h = more (h a (Memᴰ.head refl)) (each_map g R l (λ b m. h b (Memᴰ.tail m)))

pub each-map₂ : {A B C D : Type 0} {R : A → B → Type 0} {S : C → D → Type 0} (f : A → C) (g : B → D) → ((a : A) (b : B) → R a b → S (f a) (g b)) → {l : List A} {k : List B} → Each R l k → Each S (map f l) (map g k)
each-map₂ f g h done = done
each-map₂ f g h (more {a = a} {b = b} r e) = more (h a b r) (each-map₂ f g h e)
