-- Congruent templates have the same free link names.
use mathlib.Core.Path.{◌≡◌, refl, sym, ◌∙◌}
use mathlib.Core.Logic.{◌⊎◌, inl, inr, ◌≢◌, ◌↔◌}
use mathlib.Core.List.Memᴰ
use mathlib.Core.List.{List, [], ◌∷◌, ◌++◌, append_assoc}
use Rattle.hyperlmntal.specs.Link.{Link, ◌≟◌, ◌∈◌}
use Rattle.hyperlmntal.specs.Template.{Template, null, fusion, without, fn}
use Rattle.hyperlmntal.specs.LinkSubstitution.{same, update, subst_link}
use Rattle.hyperlmntal.specs.Congruence.{◌≅◌, ≅-refl, ≅-sym, ≅-trans, E1, E2, E3, E4, E5, E6, E7, E8, E9, E10}
use Rattle.hyperlmntal.proofs.Links.{Image, update-at, update-off, without_in, without-out, fn-rename, fn-rename-in}

abbrev pub Within : List Link → List Link → Type 0
Within l k = (Z : Link) → Z ∈ l → Z ∈ k

pub append-within : {l l' k k' : List Link} → Within l l' → Within k k' → Within (l ++ k) (l' ++ k')
append-within {l} {l'} {k} {k'} f g Z m = side (Memᴰ.append_cases l m)
  where
    side : (Z ∈ l) ⊎ (Z ∈ k) → Z ∈ l' ++ k'
    side (inl i) = Memᴰ.append_left k' (f Z i)
    side (inr i) = Memᴰ.append_right l' (g Z i)

append_comm : (l k : List Link) → Within (l ++ k) (k ++ l)
append_comm l k Z m = side (Memᴰ.append_cases l m)
  where
    side : (Z ∈ l) ⊎ (Z ∈ k) → Z ∈ k ++ l
    side (inl i) = Memᴰ.append_right k i
    side (inr i) = Memᴰ.append_left l i

pub without-within : (X : Link) {l k : List Link} → Within l k → Within (without X l) (without X k)
without-within X {l} {k} f Z m = let t = without-out X l m in without_in X k (f Z t.1) t.0

without-twice : (X Y : Link) (l : List Link) → Within (without X (without Y l)) (without Y (without X l))
without-twice X Y l Z m = let t = without-out X (without Y l) m in let u = without-out Y l t.1 in without_in Y (without X l) (without_in X l u.1 t.0) u.0

-- E6: its side condition keeps Y free.
E6-onward : (X Y : Link) (G : Template) → (X ∈ fn G) ⊎ (Y ∈ fn G) → Within (without X (X ∷ Y ∷ fn G)) (without X (fn (subst_link Y X G)))
E6-onward X Y G h Z m = let t = without-out X (X ∷ Y ∷ fn G) m in without_in X (fn (subst_link Y X G)) (first t.0 (Memᴰ.cases_cons t.1)) t.0
  where
    other : Z ≢ X → Z ∈ fn G → Z ∈ fn (subst_link Y X G)
    other n i = Memᴰ.cast (sym (update-off same X Y Z n)) (fn-rename-in (update same X Y) G i)

    renamed : Z ≢ X → Z ≡ Y → (X ∈ fn G) ⊎ (Y ∈ fn G) → Z ∈ fn (subst_link Y X G)
    renamed n e (inl i) = Memᴰ.cast (e ∙ sym (update-at same X Y X refl)) (fn-rename-in (update same X Y) G i)
    renamed n e (inr i) = other n (Memᴰ.cast e i)

    second : Z ≢ X → (Z ≡ Y) ⊎ (Z ∈ fn G) → Z ∈ fn (subst_link Y X G)
    second n (inl e) = renamed n e h
    second n (inr i) = other n i

    first : Z ≢ X → (Z ≡ X) ⊎ (Z ∈ (Y ∷ fn G)) → Z ∈ fn (subst_link Y X G)
    first n (inl e) = absurd (n e)
    first n (inr i) = second n (Memᴰ.cases_cons i)

E6-back : (X Y : Link) (G : Template) → Within (without X (fn (subst_link Y X G))) (without X (X ∷ Y ∷ fn G))
E6-back X Y G Z m = let t = without-out X (fn (subst_link Y X G)) m in without_in X (X ∷ Y ∷ fn G) (from (fn-rename (update same X Y) G t.1)) t.0
  where
    at : (W : Link) → W ∈ fn G → update same X Y W ≡ Z → Dec (W ≡ X) → Z ∈ (X ∷ Y ∷ fn G)
    at W i q (yes e) = Memᴰ.tail (Memᴰ.head (sym q ∙ update-at same X Y W e))
    at W i q (no n) = Memᴰ.tail (Memᴰ.tail (Memᴰ.cast (sym q ∙ update-off same X Y W n) i))

    from : Image (update same X Y) (fn G) Z → Z ∈ (X ∷ Y ∷ fn G)
    from t = at t.0 t.1 t.2 (t.0 ≟ X)

E7-none : (X Y : Link) → Within (without X (without Y (X ∷ Y ∷ []))) []
E7-none X Y Z m = let t = without-out X (without Y (X ∷ Y ∷ [])) m in let u = without-out Y (X ∷ Y ∷ []) t.1 in from t.0 u.0 (Memᴰ.cases_cons u.1)
  where
    from : Z ≢ X → Z ≢ Y → (Z ≡ X) ⊎ (Z ∈ (Y ∷ [])) → Z ∈ []
    from n k (inl e) = absurd (n e)
    from n k (inr i) = absurd (k (Memᴰ.eq_of_singleton i))

E10-onward : (X : Link) (l k : List Link) → Within (without X (l ++ k)) (without X l ++ k)
E10-onward X l k Z m = let t = without-out X (l ++ k) m in side t.0 (Memᴰ.append_cases l t.1)
  where
    side : Z ≢ X → (Z ∈ l) ⊎ (Z ∈ k) → Z ∈ without X l ++ k
    side n (inl i) = Memᴰ.append_left k (without_in X l i n)
    side n (inr i) = Memᴰ.append_right (without X l) i

E10-back : (X : Link) (l k : List Link) → ¬ (X ∈ k) → Within (without X l ++ k) (without X (l ++ k))
E10-back X l k n Z m = side (Memᴰ.append_cases (without X l) m)
  where
    side : (Z ∈ without X l) ⊎ (Z ∈ k) → Z ∈ without X (l ++ k)
    side (inl i) = let t = without-out X l i in without_in X (l ++ k) (Memᴰ.append_left k t.1) t.0
    side (inr i) = without_in X (l ++ k) (Memᴰ.append_right l i) (λ e. n (Memᴰ.cast (sym e) i))

pub congruent-within : {G H : Template} → G ≅ H → Within (fn G) (fn H) × Within (fn H) (fn G)
congruent-within ≅-refl = (λ Z m. m, λ Z m. m)
congruent-within (≅-sym e) = ((congruent-within e).1, (congruent-within e).0)
congruent-within (≅-trans e f) = (λ Z m. (congruent-within f).0 Z ((congruent-within e).0 Z m), λ Z m. (congruent-within e).1 Z ((congruent-within f).1 Z m))
congruent-within E1 = (λ Z m. m, λ Z m. m)
congruent-within (E2 {G = G} {H = H}) = (append_comm (fn G) (fn H), append_comm (fn H) (fn G))
congruent-within (E3 {G = G} {H = H} {K = K}) = (λ Z m. rw append_assoc m, λ Z m. rw append_assoc at m)
congruent-within (E4 e) = (append-within (congruent-within e).0 (λ Z m. m), append-within (congruent-within e).1 (λ Z m. m))
congruent-within (E5 {X = X} e) = (without-within X (congruent-within e).0, without-within X (congruent-within e).1)
congruent-within (E6 {X = X} {Y = Y} {G = G} h) = (E6-onward X Y G h, E6-back X Y G)
congruent-within (E7 {X = X} {Y = Y}) = (E7-none X Y, λ Z m. absurd (Memᴰ.not-nil m))
congruent-within E8 = (λ Z m. m, λ Z m. m)
congruent-within (E9 {X = X} {Y = Y} {G = G}) = (without-twice X Y (fn G), without-twice Y X (fn G))
congruent-within (E10 {X = X} {G = G} {H = H} n) = (E10-onward X (fn G) (fn H), E10-back X (fn G) (fn H) n)

pub congruent-free-names : {G H : Template} → G ≅ H → (X : Link) → (X ∈ fn G) ↔ (X ∈ fn H)
congruent-free-names e X = ((congruent-within e).0 X, (congruent-within e).1 X)

-- A fusion of free links never vanishes, not even of a link with itself.
pub fusion-not-null : (X Y : Link) → ¬ (fusion X Y ≅ null)
fusion-not-null X Y e = Memᴰ.not-nil ((congruent-within e).0 X (Memᴰ.head refl))
