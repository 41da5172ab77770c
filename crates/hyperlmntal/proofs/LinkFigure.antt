-- Link substitution respects congruence, and figure 2.3 of 004 derives it.
use mathlib.Core.Path.{◌≡◌, refl, ap, sym, ◌∙◌, subst}
use mathlib.Core.Logic.{◌⊎◌, inl, inr, ◌≢◌}
use mathlib.Core.List.Memᴰ
use mathlib.Core.List.{List, [], ◌∷◌, ◌++◌, map}
use Prim.Native.Nat.{ℕ, zero, suc, ◌+◌, ◌<◌}
use native.Mathlib.Omega.{arith}
use Rattle.hyperlmntal.specs.Link.{Link, ◌≟◌, ◌∈◌, member}
use Rattle.hyperlmntal.specs.Template.{Template, null, atom, fusion, molecule, ν, context, fn}
use Rattle.hyperlmntal.specs.LinkSubstitution.{fresh, same, update, assign, subst_links, subst_link}
use Rattle.hyperlmntal.specs.LinkFigure.{Figure, of-null, of-atom, of-fusion, of-context, of-molecule, bound, kept, fresh-bound}
use Rattle.hyperlmntal.specs.Congruence.{◌≅◌, ≅-refl, ≅-sym, ≅-trans, E5}
use Rattle.hyperlmntal.proofs.Links.{update-at, update-off, fresh-not, rename-agree, rename-idle, subst_link-idle, subst_link-self, subst_link-one}
use Rattle.hyperlmntal.proofs.CongruentNames.{congruent-within}
use Rattle.hyperlmntal.proofs.Derived.{≅-≡, E4-right, E4-both, fusion-absorbed}
use Rattle.hyperlmntal.proofs.Thesis.{rename-rename}
use Rattle.hyperlmntal.proofs.Ports.{fresh_for, fresh-off}
use Rattle.hyperlmntal.proofs.LinkEquations.{assign-off, assign-range, subst_links-ν, subst_links-bound, subst_links-fresh}

-- Link substitution of one link respects congruence: by E6.
pub subst_link-congruent : (Y X : Link) {G H : Template} → G ≅ H → subst_link Y X G ≅ subst_link Y X H
subst_link-congruent Y X {G} {H} e = at (X ≟ Y) (member X (fn G))
  where
    at : Dec (X ≡ Y) → Dec (X ∈ fn G) → subst_link Y X G ≅ subst_link Y X H
    at (yes q) d = subst (λ Z. subst_link Z X G ≅ subst_link Z X H) q (≅-trans (≅-≡ (subst_link-self X G)) (≅-trans e (≅-≡ (sym (subst_link-self X H)))))
    at (no n) (yes m) = ≅-trans (≅-sym (fusion-absorbed X Y G n (inl m))) (≅-trans (E5 (E4-right e)) (fusion-absorbed X Y H n (inl ((congruent-within e).0 X m))))
    at (no n) (no k) = ≅-trans (≅-≡ (subst_link-idle Y X G k)) (≅-trans e (≅-≡ (sym (subst_link-idle Y X H (λ m. k ((congruent-within e).1 X m))))))

-- Of several links, one after the other, where no Z is a Y.
step : (Z Y : Link) (Zs Ys : List Link) (G : Template) → ¬ (Z ∈ Ys) → subst_links (Z ∷ Zs) (Y ∷ Ys) G ≅ subst_links Zs Ys (subst_link Z Y G)
unfolding assign
step Z Y Zs Ys G n = ≅-trans (≅-≡ (rename-agree (update (assign Zs Ys) Y Z) (λ U. assign Zs Ys (update same Y Z U)) G (λ U m. at U (U ≟ Y)))) (≅-sym (rename-rename (assign Zs Ys) (update same Y Z) G))
  where
    at : (U : Link) → Dec (U ≡ Y) → update (assign Zs Ys) Y Z U ≡ assign Zs Ys (update same Y Z U)
    at U (yes e) = update-at (assign Zs Ys) Y Z U e ∙ sym (ap (assign Zs Ys) (update-at same Y Z U e) ∙ assign-off Zs Ys Z n)
    at U (no k) = update-off (assign Zs Ys) Y Z U k ∙ sym (ap (assign Zs Ys) (update-off same Y Z U k))

apart-congruent : (Zs Ys : List Link) → ((Z : Link) → Z ∈ Zs → ¬ (Z ∈ Ys)) → {G H : Template} → G ≅ H → subst_links Zs Ys G ≅ subst_links Zs Ys H
unfolding assign
apart-congruent [] Ys h {G} {H} e = ≅-trans (≅-≡ (rename-idle (assign [] Ys) G (λ Z m. refl))) (≅-trans e (≅-≡ (sym (rename-idle (assign [] Ys) H (λ Z m. refl)))))
apart-congruent (Z ∷ Zs) [] h {G} {H} e = ≅-trans (≅-≡ (rename-idle (assign (Z ∷ Zs) []) G (λ U m. refl))) (≅-trans e (≅-≡ (sym (rename-idle (assign (Z ∷ Zs) []) H (λ U m. refl)))))
apart-congruent (Z ∷ Zs) (Y ∷ Ys) h {G} {H} e = ≅-trans (step Z Y Zs Ys G (λ m. h Z (Memᴰ.head refl) (Memᴰ.tail m))) (≅-trans (apart-congruent Zs Ys (λ U m k. h U (Memᴰ.tail m) (Memᴰ.tail k)) (subst_link-congruent Z Y e)) (≅-sym (step Z Y Zs Ys H (λ m. h Z (Memᴰ.head refl) (Memᴰ.tail m)))))

-- Of any links, through new ones.
through : (Zs Ys l : List Link) (U : Link) → U ∈ l → assign Zs (fresh_for Zs l) (assign (fresh_for Zs l) Ys U) ≡ assign Zs Ys U
unfolding assign
through [] Ys l U m = refl
through (Z ∷ Zs) [] l U m = assign-off (Z ∷ Zs) (fresh_for (Z ∷ Zs) l) U (λ i. fresh-off (Z ∷ Zs) l U i m)
through (Z ∷ Zs) (Y ∷ Ys) l U m = at (U ≟ Y) (through Zs Ys (fresh l ∷ l) U (Memᴰ.tail m))
  where
    Ws : List Link
    Ws = fresh_for Zs (fresh l ∷ l)

    other : (assign Ws Ys U ≡ U) ⊎ (assign Ws Ys U ∈ Ws) → assign Ws Ys U ≢ fresh l
    other (inl q) e = fresh-not l (Memᴰ.cast (sym e ∙ q) m)
    other (inr i) e = fresh-off Zs (fresh l ∷ l) (assign Ws Ys U) i (Memᴰ.head e)

    at : Dec (U ≡ Y) → assign Zs Ws (assign Ws Ys U) ≡ assign Zs Ys U → update (assign Zs Ws) (fresh l) Z (update (assign Ws Ys) Y (fresh l) U) ≡ update (assign Zs Ys) Y Z U
    at (yes e) h = update-at (assign Zs Ws) (fresh l) Z _ (update-at (assign Ws Ys) Y (fresh l) U e) ∙ sym (update-at (assign Zs Ys) Y Z U e)
    at (no k) h = ap (update (assign Zs Ws) (fresh l) Z) (update-off (assign Ws Ys) Y (fresh l) U k) ∙ update-off (assign Zs Ws) (fresh l) Z (assign Ws Ys U) (other (assign-range Ws Ys U)) ∙ h ∙ sym (update-off (assign Zs Ys) Y Z U k)

pub subst_links-congruent : (Zs Ys : List Link) {G H : Template} → G ≅ H → subst_links Zs Ys G ≅ subst_links Zs Ys H
subst_links-congruent Zs Ys {G} {H} e = ≅-trans (≅-sym (two G (λ U m. Memᴰ.append_left (fn H) m))) (≅-trans (apart-congruent Zs Ws (λ Z m k. fresh-off Zs l Z k (Memᴰ.append_right Ys (Memᴰ.append_left (fn G ++ fn H) m))) (apart-congruent Ws Ys (λ Z m k. fresh-off Zs l Z m (Memᴰ.append_left (Zs ++ (fn G ++ fn H)) k)) e)) (two H (λ U m. Memᴰ.append_right (fn G) m)))
  where
    l : List Link
    l = Ys ++ (Zs ++ (fn G ++ fn H))

    Ws : List Link
    Ws = fresh_for Zs l

    two : (K : Template) → ((U : Link) → U ∈ fn K → U ∈ fn G ++ fn H) → subst_links Zs Ws (subst_links Ws Ys K) ≅ subst_links Zs Ys K
    two K h = ≅-trans (rename-rename (assign Zs Ws) (assign Ws Ys) K) (≅-≡ (rename-agree _ (assign Zs Ys) K (λ U m. through Zs Ys l U (Memᴰ.append_right Ys (Memᴰ.append_right Zs (h U m))))))

-- All that the figure derives is congruent to the definition.
pub figure : {Zs Ys : List Link} {G H : Template} → Figure Zs Ys G H → subst_links Zs Ys G ≅ H
figure of-null = ≅-refl
figure of-atom = ≅-refl
figure of-fusion = ≅-refl
figure of-context = ≅-refl
figure (of-molecule d e) = E4-both (figure d) (figure e)
figure (bound Zs Zs' Ys Ys' Z {X = X} {G = G} l y z d) = ≅-trans (≅-≡ (subst_links-bound Zs Zs' Ys Ys' Z X G l y z)) (E5 (figure d))
figure (kept {Zs = Zs} {Ys = Ys} {X = X} {G = G} y z d) = ≅-trans (≅-≡ (subst_links-ν Zs Ys X G y z)) (E5 (figure d))
figure (fresh-bound {Zs = Zs} {Ys = Ys} {X = X} {W = W} {G = G} n z y d e) = ≅-trans (subst_links-fresh Zs Ys X W G n z y) (E5 (≅-trans (subst_links-congruent Zs Ys (≅-trans (≅-≡ (subst_link-one W X G)) (figure d))) (figure e)))

-- The figure derives something for every template.
abbrev size : Template → ℕ
size null = 0
size (atom p Xs) = 0
size (fusion X Y) = 0
size (molecule G H) = suc (size G + size H)
size (ν X G) = suc (size G)
size (context x Xs) = 0

figure-size : {Zs Ys : List Link} {G H : Template} → Figure Zs Ys G H → size H ≡ size G
figure-size of-null = refl
figure-size of-atom = refl
figure-size of-fusion = refl
figure-size of-context = refl
figure-size (of-molecule d e) = omega (arith, figure-size d, figure-size e)
figure-size (bound Zs Zs' Ys Ys' Z l y z d) = ap suc (figure-size d)
figure-size (kept y z d) = ap suc (figure-size d)
figure-size (fresh-bound n z y d e) = ap suc (figure-size e ∙ figure-size d)

abbrev Derives : ℕ → Type 0
Derives n = (Zs Ys : List Link) (G : Template) → size G < n → (H : Template) × Figure Zs Ys G H

larger : (n : ℕ) → Derives n → Derives (suc n)
larger n f Zs Ys null h = (null, of-null)
larger n f Zs Ys (atom p Xs) h = (atom p (map (assign Zs Ys) Xs), of-atom)
larger n f Zs Ys (fusion X Y) h = (fusion (assign Zs Ys X) (assign Zs Ys Y), of-fusion)
larger n f Zs Ys (molecule G H) h = let t = f Zs Ys G (omega arith) in let u = f Zs Ys H (omega arith) in (molecule t.0 u.0, of-molecule t.1 u.1)
larger n f Zs Ys (ν X G) h = let t = f (W ∷ []) (X ∷ []) G (omega arith) in let u = f Zs Ys t.0 (omega (arith, figure-size t.1)) in (ν W u.0, fresh-bound (λ m. off (Memᴰ.append_left (Zs ++ Ys) m)) (λ m. off (Memᴰ.append_right (fn G) (Memᴰ.append_left Ys m))) (λ m. off (Memᴰ.append_right (fn G) (Memᴰ.append_right Zs m))) t.1 u.1)
  where
    W : Link
    W = fresh (fn G ++ (Zs ++ Ys))

    off : ¬ (W ∈ fn G ++ (Zs ++ Ys))
    off = fresh-not (fn G ++ (Zs ++ Ys))
larger n f Zs Ys (context x Xs) h = (context x (map (assign Zs Ys) Xs), of-context)

derives : (n : ℕ) → Derives n
derives zero Zs Ys G h = absurd (omega arith)
derives (suc n) Zs Ys G h = larger n (derives n) Zs Ys G h

pub figure-derives : (Zs Ys : List Link) (G : Template) → (H : Template) × Figure Zs Ys G H
figure-derives Zs Ys G = derives (suc (size G)) Zs Ys G (omega arith)
