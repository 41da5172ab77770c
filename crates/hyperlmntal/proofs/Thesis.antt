-- The theorems of 004, section 2.2, from the rules alone and for all templates.
use mathlib.Core.Path.{◌≡◌, refl, ap, ap₂, sym, ◌∙◌}
use mathlib.Core.Logic.{inl, inr, ◌≢◌}
use mathlib.Core.List.Memᴰ
use mathlib.Core.List.{[], ◌∷◌, map, map-map}
use Rattle.hyperlmntal.specs.Link.{Link, ◌≟◌, ◌∈◌, member}
use Rattle.hyperlmntal.specs.Template.{Template, null, atom, fusion, molecule, ν, context, fn}
use Rattle.hyperlmntal.specs.LinkSubstitution.{fresh, avoid, same, update, rename, subst_link}
use Rattle.hyperlmntal.specs.Congruence.{◌≅◌, ≅-refl, ≅-sym, ≅-trans, E2, E4, E5, E6, E9}
use Rattle.hyperlmntal.proofs.Links.{Image, update-at, update-off, update-update, without_in, fresh-not, avoid-not, rename-agree, fn-rename, fn-rename-in, subst_link-idle, subst_link-self}
use Rattle.hyperlmntal.proofs.Derived.{≅-≡, E4-right, E4-both, exchange, ν-unused, fusion-absorbed}

-- Both sides of a symmetric fusion are νZ.(Z ⋈ X, Z ⋈ Y).
through : (X Y Z : Link) → Z ≢ X → Z ≢ Y → ν Z (molecule (fusion Z X) (fusion Z Y)) ≅ fusion X Y
through X Y Z nx ny = ≅-trans (fusion-absorbed Z X (fusion Z Y) nx (inl (Memᴰ.head refl))) (≅-≡ (ap₂ fusion (update-at same Z X Z refl) (update-off same Z X Y (λ e. ny (sym e)))))

-- Theorem 2.2.1: X ⋈ Y ≡ Y ⋈ X.
pub fusion-symmetric : (X Y : Link) → fusion X Y ≅ fusion Y X
fusion-symmetric X Y = ≅-trans (≅-sym (through X Y Z nx ny)) (≅-trans (E5 E2) (through Y X Z ny nx))
  where
    Z : Link
    Z = fresh (X ∷ Y ∷ [])

    nx : Z ≢ X
    nx e = fresh-not (X ∷ Y ∷ []) (Memᴰ.head e)

    ny : Z ≢ Y
    ny e = fresh-not (X ∷ Y ∷ []) (Memᴰ.tail (Memᴰ.head e))

-- Theorem 2.2.2: νX.G ≡ νY.G⟨Y/X⟩ where Y is not free in G.
pub alpha-conversion : (X Y : Link) (G : Template) → ¬ (Y ∈ fn G) → ν X G ≅ ν Y (subst_link Y X G)
alpha-conversion X Y G n = at (member X (fn G))
  where
    both : X ∈ fn G → G ≅ ν Y (molecule (fusion X Y) G)
    both m = ≅-trans (≅-sym (ν-unused Y G n)) (≅-trans (≅-≡ (ap (ν Y) (sym (subst_link-idle X Y G n)))) (≅-trans (≅-sym (E6 (inr m))) (E5 (E4 (fusion-symmetric Y X)))))

    at : Dec (X ∈ fn G) → ν X G ≅ ν Y (subst_link Y X G)
    at (no k) = ≅-trans (ν-unused X G k) (≅-trans (≅-sym (ν-unused Y G n)) (≅-≡ (ap (ν Y) (sym (subst_link-idle Y X G k)))))
    at (yes m) = ≅-trans (E5 (both m)) (≅-trans E9 (E5 (fusion-absorbed X Y G (λ e. n (Memᴰ.cast (sym e) m)) (inl m))))

-- Two renamings in a row, and the choice of a bound link, which is the case of ν.
abbrev pub Composes : Template → Type 0
Composes G = (σ τ : Link → Link) → rename σ (rename τ G) ≅ rename (λ Z. σ (τ Z)) G

pub bound-choice : (G : Template) → Composes G → (σ : Link → Link) (X U W : Link) → ¬ (U ∈ map σ (fn (ν X G))) → ¬ (W ∈ map σ (fn (ν X G))) → ν U (rename (update σ X U) G) ≅ ν W (rename (update σ X W) G)
bound-choice G compose σ X U W u w = at (W ≟ U)
  where
    spare : W ≢ U → ¬ (W ∈ fn (rename (update σ X U) G))
    spare n m = from (fn-rename (update σ X U) G m)
      where
        on : (Z : Link) → Z ∈ fn G → update σ X U Z ≡ W → Dec (Z ≡ X) → ⊥
        on Z i q (yes e) = n (sym q ∙ update-at σ X U Z e)
        on Z i q (no k) = w (Memᴰ.cast (sym q ∙ update-off σ X U Z k) (Memᴰ.map σ (without_in X (fn G) i k)))

        from : Image (update σ X U) (fn G) W → ⊥
        from t = on t.0 t.1 t.2 (t.0 ≟ X)

    agree : (Z : Link) → Z ∈ fn G → update same U W (update σ X U Z) ≡ update σ X W Z
    agree Z i = update-update same σ X U W Z (λ k e. u (Memᴰ.cast (sym e) (Memᴰ.map σ (without_in X (fn G) i k))))

    at : Dec (W ≡ U) → ν U (rename (update σ X U) G) ≅ ν W (rename (update σ X W) G)
    at (yes e) = ≅-≡ (ap (λ V'. ν V' (rename (update σ X V') G)) (sym e))
    at (no n) = ≅-trans (alpha-conversion U W (rename (update σ X U) G) (spare n)) (E5 (≅-trans (compose (update same U W) (update σ X U)) (≅-≡ (rename-agree _ (update σ X W) G agree))))

pub rename-rename : (σ τ : Link → Link) (G : Template) → rename σ (rename τ G) ≅ rename (λ Z. σ (τ Z)) G
rename-rename σ τ null = ≅-refl
rename-rename σ τ (atom p Xs) = ≅-≡ (ap (atom p) (map-map σ τ Xs))
rename-rename σ τ (fusion X Y) = ≅-refl
rename-rename σ τ (molecule G H) = E4-both (rename-rename σ τ G) (rename-rename σ τ H)
rename-rename σ τ (ν X G) = ≅-trans (E5 (≅-trans (rename-rename (update σ U T) (update τ X U) G) (≅-≡ (rename-agree _ (update ρ X T) G agree)))) (bound-choice G (λ α β. rename-rename α β G) ρ X T (avoid X (map ρ (fn (ν X G)))) spare (avoid-not X (map ρ (fn (ν X G)))))
  where
    ρ : Link → Link
    ρ Z = σ (τ Z)

    U : Link
    U = avoid X (map τ (fn (ν X G)))

    T : Link
    T = avoid U (map σ (fn (rename τ (ν X G))))

    agree : (Z : Link) → Z ∈ fn G → update σ U T (update τ X U Z) ≡ update ρ X T Z
    agree Z i = update-update σ τ X U T Z (λ k e. avoid-not X (map τ (fn (ν X G))) (Memᴰ.cast (sym e) (Memᴰ.map τ (without_in X (fn G) i k))))

    spare : ¬ (T ∈ map ρ (fn (ν X G)))
    spare m = let t : Image ρ (fn (ν X G)) T = Memᴰ.of_map ρ (fn (ν X G)) m in avoid-not U (map σ (fn (rename τ (ν X G)))) (Memᴰ.cast (sym t.2) (Memᴰ.map σ (fn-rename-in τ (ν X G) t.1)))
rename-rename σ τ (context x Xs) = ≅-≡ (ap (context x) (map-map σ τ Xs))

-- G⟨W/Z⟩⟨X/W⟩ is G⟨X/Z⟩, up to bound links, where W is not free in G.
subst_link-through : (X W Z : Link) (G : Template) → ¬ (W ∈ fn G) → subst_link X W (subst_link W Z G) ≅ subst_link X Z G
subst_link-through X W Z G n = ≅-trans (rename-rename (update same W X) (update same Z W) G) (≅-≡ (rename-agree _ (update same Z X) G agree))
  where
    agree : (A : Link) → A ∈ fn G → update same W X (update same Z W A) ≡ update same Z X A
    agree A i = update-update same same Z W X A (λ k e. n (Memᴰ.cast (sym e) i))

-- Theorem 2.2.3: (X ⋈ Y, G⟨X/Z⟩) ≡ (X ⋈ Y, G⟨Y/Z⟩). Both are νW.(W ⋈ X, (W ⋈ Y, G⟨W/Z⟩)) for a new link W.
pub fusion-renames : (X Y Z : Link) (G : Template) → molecule (fusion X Y) (subst_link X Z G) ≅ molecule (fusion X Y) (subst_link Y Z G)
fusion-renames X Y Z G = ≅-trans (≅-sym (side X Y nx ny)) (≅-trans (E5 exchange) (≅-trans (side Y X ny nx) (E4 (fusion-symmetric Y X))))
  where
    W : Link
    W = fresh (X ∷ Y ∷ fn G)

    nx : W ≢ X
    nx e = fresh-not (X ∷ Y ∷ fn G) (Memᴰ.head e)

    ny : W ≢ Y
    ny e = fresh-not (X ∷ Y ∷ fn G) (Memᴰ.tail (Memᴰ.head e))

    side : (A B : Link) → W ≢ A → W ≢ B → ν W (molecule (fusion W A) (molecule (fusion W B) (subst_link W Z G))) ≅ molecule (fusion A B) (subst_link A Z G)
    side A B na nb = ≅-trans (fusion-absorbed W A _ na (inl (Memᴰ.head refl))) (E4-both (≅-≡ (ap₂ fusion (update-at same W A W refl) (update-off same W A B (λ e. nb (sym e))))) (subst_link-through A W Z G (λ m. fresh-not (X ∷ Y ∷ fn G) (Memᴰ.tail (Memᴰ.tail m)))))

-- Theorem 2.2.4: G ≡ (X ⋈ X, G) where X is free in G.
pub fusion-reflexive : (X : Link) (G : Template) → X ∈ fn G → G ≅ molecule (fusion X X) G
fusion-reflexive X G m = ≅-trans (≅-sym (≅-trans (fusion-absorbed Z X G nx (inr m)) (≅-≡ (subst_link-idle X Z G off)))) (≅-trans loop (≅-trans (E5 exchange) (≅-trans (fusion-absorbed Z X (molecule (fusion Z Z) G) nx (inl (Memᴰ.head refl))) (≅-≡ (ap₂ molecule (ap₂ fusion (update-at same Z X Z refl) (update-at same Z X Z refl)) (subst_link-idle X Z G off))))))
  where
    Z : Link
    Z = fresh (X ∷ fn G)

    nx : Z ≢ X
    nx e = fresh-not (X ∷ fn G) (Memᴰ.head e)

    off : ¬ (Z ∈ fn G)
    off i = fresh-not (X ∷ fn G) (Memᴰ.tail i)

    loop : ν Z (molecule (fusion Z X) G) ≅ ν Z (molecule (fusion Z Z) (molecule (fusion Z X) G))
    loop = ≅-trans (≅-≡ (ap (ν Z) (sym (subst_link-self Z (molecule (fusion Z X) G))))) (≅-sym (E6 (inl (Memᴰ.head refl))))

-- Theorem 2.2.5: X ⋈ Y ≡ (X ⋈ Y, X ⋈ Y).
pub fusion-contraction : (X Y : Link) → fusion X Y ≅ molecule (fusion X Y) (fusion X Y)
fusion-contraction X Y = ≅-trans (fusion-reflexive X (fusion X Y) (Memᴰ.head refl)) (≅-trans E2 (≅-trans (≅-≡ (ap (molecule (fusion X Y)) (sym (put X)))) (≅-trans (fusion-renames X Y W (fusion X W)) (≅-≡ (ap (molecule (fusion X Y)) (put Y))))))
  where
    W : Link
    W = fresh (X ∷ [])

    put : (A : Link) → subst_link A W (fusion X W) ≡ fusion X A
    put A = ap₂ fusion (update-off same W A X (λ e. fresh-not (X ∷ []) (Memᴰ.head (sym e)))) (update-at same W A W refl)

-- Theorem 2.2.6: (X ⋈ Y, Y ⋈ Z) ≡ (X ⋈ Z, (X ⋈ Y, Y ⋈ Z)).
pub fusion-transitive : (X Y Z : Link) → molecule (fusion X Y) (fusion Y Z) ≅ molecule (fusion X Z) (molecule (fusion X Y) (fusion Y Z))
fusion-transitive X Y Z = ≅-trans (E4-right (fusion-contraction Y Z)) (≅-trans (≅-≡ (ap (molecule (fusion X Y)) (sym (put Y)))) (≅-trans (≅-sym (fusion-renames X Y W (molecule (fusion W Z) (fusion Y Z)))) (≅-trans (≅-≡ (ap (molecule (fusion X Y)) (put X))) exchange)))
  where
    W : Link
    W = fresh (Y ∷ Z ∷ [])

    ny : Y ≢ W
    ny e = fresh-not (Y ∷ Z ∷ []) (Memᴰ.head (sym e))

    nz : Z ≢ W
    nz e = fresh-not (Y ∷ Z ∷ []) (Memᴰ.tail (Memᴰ.head (sym e)))

    put : (A : Link) → subst_link A W (molecule (fusion W Z) (fusion Y Z)) ≡ molecule (fusion A Z) (fusion Y Z)
    put A = ap₂ molecule (ap₂ fusion (update-at same W A W refl) (update-off same W A Z nz)) (ap₂ fusion (update-off same W A Y ny) (update-off same W A Z nz))
