-- Laws of choices, of fresh links and of renaming.
use mathlib.Core.Path.{◌≡◌, refl, ap, ap₂, sym, ◌∙◌, subst}
use mathlib.Core.Logic.{◌⊎◌, inl, inr, ◌≢◌}
use mathlib.Core.List.Memᴰ
use mathlib.Core.List.{List, [], ◌∷◌, ◌++◌, map}
use Prim.Native.Nat.{ℕ, suc, ◌<◌, max}
use native.Mathlib.Omega.{arith}
use Rattle.hyperlmntal.specs.Link.{Link, local, free, ◌≟◌, select, ◌∈◌, member}
use Rattle.hyperlmntal.specs.Template.{Template, null, atom, fusion, molecule, ν, context, without, fn}
use Rattle.hyperlmntal.specs.LinkSubstitution.{height, fresh, avoid, same, update, rename, assign, subst_link, subst_links}
use Rattle.hyperlmntal.proofs.Lists.{map-idle, map-agree}

pub select_yes {ℓ} : {A : Type 0} {B : Type ℓ} (d : Dec A) (a b : B) → A → select d a b ≡ a
select_yes (yes p) a b h = refl
select_yes (no n) a b h = absurd (n h)

pub select_no {ℓ} : {A : Type 0} {B : Type ℓ} (d : Dec A) (a b : B) → ¬ A → select d a b ≡ b
select_no (yes p) a b h = absurd (h p)
select_no (no n) a b h = refl

pub update-at : (σ : Link → Link) (X Y Z : Link) → Z ≡ X → update σ X Y Z ≡ Y
unfolding update
update-at σ X Y Z e = select_yes (Z ≟ X) Y (σ Z) e

pub update-off : (σ : Link → Link) (X Y Z : Link) → Z ≢ X → update σ X Y Z ≡ σ Z
unfolding update
update-off σ X Y Z n = select_no (Z ≟ X) Y (σ Z) n

pub update-update : (σ τ : Link → Link) (X U W Z : Link) → (Z ≢ X → τ Z ≢ U) → update σ U W (update τ X U Z) ≡ update (λ A. σ (τ A)) X W Z
update-update σ τ X U W Z h = at (Z ≟ X)
  where
    at : Dec (Z ≡ X) → update σ U W (update τ X U Z) ≡ update (λ A. σ (τ A)) X W Z
    at (yes e) = update-at σ U W _ (update-at τ X U Z e) ∙ sym (update-at _ X W Z e)
    at (no k) = update-off σ U W _ (λ e. h k (sym (update-off τ X U Z k) ∙ e)) ∙ ap σ (update-off τ X U Z k) ∙ sym (update-off _ X W Z k)

pub without_in : (X : Link) (l : List Link) {Z : Link} → Z ∈ l → Z ≢ X → Z ∈ without X l
without_in X [] m n = m
without_in X (Y ∷ l) {Z} m n = at (Y ≟ X) (Memᴰ.cases_cons m) (λ k. without_in X l k n)
  where
    at : (d : Dec (Y ≡ X)) → (Z ≡ Y) ⊎ (Z ∈ l) → (Z ∈ l → Z ∈ without X l) → Z ∈ select d (without X l) (Y ∷ without X l)
    at (yes e) (inl p) f = absurd (n (p ∙ e))
    at (yes e) (inr k) f = f k
    at (no k) (inl p) f = Memᴰ.head p
    at (no k) (inr q) f = Memᴰ.tail (f q)

pub without-out : (X : Link) (l : List Link) {Z : Link} → Z ∈ without X l → (Z ≢ X) × (Z ∈ l)
without-out X [] m = absurd (Memᴰ.not-nil m)
without-out X (Y ∷ l) {Z} m = at (Y ≟ X) m (λ k. without-out X l k)
  where
    tail : (Z ≢ X) × (Z ∈ l) → (Z ≢ X) × (Z ∈ (Y ∷ l))
    tail t = (t.0, Memᴰ.tail t.1)

    first : Y ≢ X → (Z ≡ Y) ⊎ (Z ∈ without X l) → (Z ∈ without X l → (Z ≢ X) × (Z ∈ l)) → (Z ≢ X) × (Z ∈ (Y ∷ l))
    first n (inl e) f = (λ q. n (sym e ∙ q), Memᴰ.head e)
    first n (inr q) f = tail (f q)

    at : (d : Dec (Y ≡ X)) → Z ∈ select d (without X l) (Y ∷ without X l) → (Z ∈ without X l → (Z ≢ X) × (Z ∈ l)) → (Z ≢ X) × (Z ∈ (Y ∷ l))
    at (yes e) k f = tail (f k)
    at (no n) k f = first n (Memᴰ.cases_cons k) f

-- Fresh links.
below-height : (l : List Link) (n : ℕ) → local n ∈ l → n < height l
below-height [] n m = absurd (Memᴰ.not-nil m)
below-height (local k ∷ l) n m = at (Memᴰ.cases_cons m) (λ i. below-height l n i)
  where
    at : (local n ≡ local k) ⊎ (local n ∈ l) → (local n ∈ l → n < height l) → n < max (suc k) (height l)
    at (inl e) f = let h : n ≡ k = cc in omega arith
    at (inr i) f = let h : n < height l = f i in omega arith
below-height (free k ∷ l) n m = at (Memᴰ.cases_cons m) (λ i. below-height l n i)
  where
    at : (local n ≡ free k) ⊎ (local n ∈ l) → (local n ∈ l → n < height l) → n < height l
    at (inl e) f = absurd (let z : ◌≡◌ {A = ℕ} 0 1 = cc in omega arith)
    at (inr i) f = f i

pub fresh-not : (l : List Link) → ¬ (fresh l ∈ l)
unfolding fresh
fresh-not l m = let h : height l < height l = below-height l (height l) m in omega arith

pub avoid-not : (X : Link) (l : List Link) → ¬ (avoid X l ∈ l)
unfolding avoid
avoid-not X l m = at (member X l) m
  where
    at : (d : Dec (X ∈ l)) → ¬ (select d (fresh l) X ∈ l)
    at (yes p) k = fresh-not l k
    at (no n) k = n k

pub avoid-idle : (X : Link) (l : List Link) → ¬ (X ∈ l) → avoid X l ≡ X
unfolding avoid
avoid-idle X l n = select_no (member X l) (fresh l) X n

-- A renaming depends only on what it does to the free links.
pub rename-agree : (σ τ : Link → Link) (G : Template) → ((Z : Link) → Z ∈ fn G → σ Z ≡ τ Z) → rename σ G ≡ rename τ G
rename-agree σ τ null h = refl
rename-agree σ τ (atom p Xs) h = ap (atom p) (map-agree σ τ Xs h)
rename-agree σ τ (fusion X Y) h = ap₂ fusion (h X (Memᴰ.head refl)) (h Y (Memᴰ.tail (Memᴰ.head refl)))
rename-agree σ τ (molecule G H) h = ap₂ molecule (rename-agree σ τ G (λ Z m. h Z (Memᴰ.append_left (fn H) m))) (rename-agree σ τ H (λ Z m. h Z (Memᴰ.append_right (fn G) m)))
rename-agree σ τ (ν X G) h = ap₂ ν w (rename-agree (update σ X (avoid X (map σ l))) (update τ X (avoid X (map τ l))) G (λ Z m. at Z m (Z ≟ X)))
  where
    l : List Link
    l = fn (ν X G)

    w : avoid X (map σ l) ≡ avoid X (map τ l)
    w = ap (avoid X) (map-agree σ τ l h)

    at : (Z : Link) → Z ∈ fn G → Dec (Z ≡ X) → update σ X (avoid X (map σ l)) Z ≡ update τ X (avoid X (map τ l)) Z
    at Z m (yes e) = update-at σ X _ Z e ∙ w ∙ sym (update-at τ X _ Z e)
    at Z m (no n) = update-off σ X _ Z n ∙ h Z (without_in X (fn G) m n) ∙ sym (update-off τ X _ Z n)
rename-agree σ τ (context x Xs) h = ap (context x) (map-agree σ τ Xs h)

pub rename-idle : (σ : Link → Link) (G : Template) → ((Z : Link) → Z ∈ fn G → σ Z ≡ Z) → rename σ G ≡ G
rename-idle σ null h = refl
rename-idle σ (atom p Xs) h = ap (atom p) (map-idle σ Xs h)
rename-idle σ (fusion X Y) h = ap₂ fusion (h X (Memᴰ.head refl)) (h Y (Memᴰ.tail (Memᴰ.head refl)))
rename-idle σ (molecule G H) h = ap₂ molecule (rename-idle σ G (λ Z m. h Z (Memᴰ.append_left (fn H) m))) (rename-idle σ H (λ Z m. h Z (Memᴰ.append_right (fn G) m)))
rename-idle σ (ν X G) h = ap₂ ν w (rename-idle (update σ X (avoid X l)) G (λ Z m. at Z m (Z ≟ X)))
  where
    l : List Link
    l = map σ (fn (ν X G))

    w : avoid X l ≡ X
    w = avoid-idle X l (λ m. (without-out X (fn G) (subst (λ k. X ∈ k) (map-idle σ (fn (ν X G)) h) m)).0 refl)

    at : (Z : Link) → Z ∈ fn G → Dec (Z ≡ X) → update σ X (avoid X l) Z ≡ Z
    at Z m (yes e) = update-at σ X (avoid X l) Z e ∙ w ∙ sym e
    at Z m (no n) = update-off σ X (avoid X l) Z n ∙ h Z (without_in X (fn G) m n)
rename-idle σ (context x Xs) h = ap (context x) (map-idle σ Xs h)

-- The free links of a renamed template.
abbrev pub Image : (Link → Link) → List Link → Link → Type 0
Image σ l Q = (Z : Link) × (Z ∈ l) × (σ Z ≡ Q)

pub fn-rename : (σ : Link → Link) (G : Template) {Q : Link} → Q ∈ fn (rename σ G) → Image σ (fn G) Q
fn-rename σ null m = absurd (Memᴰ.not-nil m)
fn-rename σ (atom p Xs) m = Memᴰ.of_map σ Xs m
fn-rename σ (fusion X Y) m = Memᴰ.of_map σ (X ∷ Y ∷ []) m
fn-rename σ (molecule G H) {Q} m = side (Memᴰ.append_cases (fn (rename σ G)) m) (λ k. fn-rename σ G k) (λ k. fn-rename σ H k)
  where
    side : (Q ∈ fn (rename σ G)) ⊎ (Q ∈ fn (rename σ H)) → (Q ∈ fn (rename σ G) → Image σ (fn G) Q) → (Q ∈ fn (rename σ H) → Image σ (fn H) Q) → Image σ (fn G ++ fn H) Q
    side (inl k) f g = let t = f k in (t.0, Memᴰ.append_left (fn H) t.1, t.2)
    side (inr k) f g = let t = g k in (t.0, Memᴰ.append_right (fn G) t.1, t.2)
fn-rename σ (ν X G) {Q} m = from (fn-rename (update σ X W) G k.1)
  where
    W : Link
    W = avoid X (map σ (fn (ν X G)))

    k : (Q ≢ W) × (Q ∈ fn (rename (update σ X W) G))
    k = without-out W (fn (rename (update σ X W) G)) m

    at : (Z : Link) → Z ∈ fn G → update σ X W Z ≡ Q → Dec (Z ≡ X) → Image σ (fn (ν X G)) Q
    at Z i q (yes e) = absurd (k.0 (sym q ∙ update-at σ X W Z e))
    at Z i q (no n) = (Z, without_in X (fn G) i n, sym (update-off σ X W Z n) ∙ q)

    from : Image (update σ X W) (fn G) Q → Image σ (fn (ν X G)) Q
    from t = at t.0 t.1 t.2 (t.0 ≟ X)
fn-rename σ (context x Xs) m = Memᴰ.of_map σ Xs m

pub fn-rename-in : (σ : Link → Link) (G : Template) {Z : Link} → Z ∈ fn G → σ Z ∈ fn (rename σ G)
fn-rename-in σ null m = absurd (Memᴰ.not-nil m)
fn-rename-in σ (atom p Xs) m = Memᴰ.map σ m
fn-rename-in σ (fusion X Y) m = Memᴰ.map σ m
fn-rename-in σ (molecule G H) {Z} m = side (Memᴰ.append_cases (fn G) m) (λ k. fn-rename-in σ G k) (λ k. fn-rename-in σ H k)
  where
    side : (Z ∈ fn G) ⊎ (Z ∈ fn H) → (Z ∈ fn G → σ Z ∈ fn (rename σ G)) → (Z ∈ fn H → σ Z ∈ fn (rename σ H)) → σ Z ∈ fn (rename σ G) ++ fn (rename σ H)
    side (inl k) f g = Memᴰ.append_left (fn (rename σ H)) (f k)
    side (inr k) f g = Memᴰ.append_right (fn (rename σ G)) (g k)
fn-rename-in σ (ν X G) {Z} m = without_in W (fn (rename (update σ X W) G)) (Memᴰ.cast (sym (update-off σ X W Z k.0)) (fn-rename-in (update σ X W) G k.1)) (λ e. avoid-not X (map σ (fn (ν X G))) (Memᴰ.cast (sym e) (Memᴰ.map σ m)))
  where
    W : Link
    W = avoid X (map σ (fn (ν X G)))

    k : (Z ≢ X) × (Z ∈ fn G)
    k = without-out X (fn G) m
fn-rename-in σ (context x Xs) m = Memᴰ.map σ m

-- G⟨Y/X⟩.
pub subst_link-idle : (Y X : Link) (G : Template) → ¬ (X ∈ fn G) → subst_link Y X G ≡ G
subst_link-idle Y X G n = rename-idle (update same X Y) G (λ Z m. update-off same X Y Z (λ e. n (Memᴰ.cast (sym e) m)))

pub subst_link-self : (X : Link) (G : Template) → subst_link X X G ≡ G
subst_link-self X G = rename-idle (update same X X) G (λ Z m. at Z (Z ≟ X))
  where
    at : (Z : Link) → Dec (Z ≡ X) → update same X X Z ≡ Z
    at Z (yes e) = update-at same X X Z e ∙ sym e
    at Z (no n) = update-off same X X Z n

pub subst_link-gone : (Y X : Link) (G : Template) → X ≢ Y → ¬ (X ∈ fn (subst_link Y X G))
subst_link-gone Y X G n m = from (fn-rename (update same X Y) G m)
  where
    at : (Z : Link) → update same X Y Z ≡ X → Dec (Z ≡ X) → ⊥
    at Z q (yes e) = n (sym q ∙ update-at same X Y Z e)
    at Z q (no k) = k (sym (update-off same X Y Z k) ∙ q)

    from : Image (update same X Y) (fn G) X → ⊥
    from t = at t.0 t.2 (t.0 ≟ X)

pub subst_link-one : (Y X : Link) (G : Template) → subst_link Y X G ≡ subst_links (Y ∷ []) (X ∷ []) G
unfolding assign
subst_link-one Y X G = refl
