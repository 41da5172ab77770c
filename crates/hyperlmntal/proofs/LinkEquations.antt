-- The equations of link substitution (004, figure 2.3), line by line, and that its two missing conditions are needed.
use mathlib.Core.Path.{◌≡◌, refl, ap, sym, ◌∙◌}
use mathlib.Core.Logic.{◌⊎◌, inl, inr, ◌≢◌}
use mathlib.Core.List.Memᴰ
use mathlib.Core.List.{List, [], ◌∷◌, ◌++◌, map}
use Prim.Native.Nat.{ℕ}
use native.Mathlib.Omega.{arith}
use lib.ListN.{length}
use Rattle.hyperlmntal.specs.Link.{Link, free, ◌≟◌, select, ◌∈◌, member}
use Rattle.hyperlmntal.specs.Template.{Template, null, atom, fusion, molecule, ν, context, fn}
use Rattle.hyperlmntal.specs.LinkSubstitution.{fresh, avoid, same, update, rename, assign, subst_links, subst_link}
use Rattle.hyperlmntal.specs.Congruence.{◌≅◌, ≅-sym, ≅-trans, E5}
use Rattle.hyperlmntal.specs.GraphSubstitution.{Distinct}
use Rattle.hyperlmntal.proofs.Links.{update-at, update-off, without-out, avoid-not, avoid-idle, rename-agree}
use Rattle.hyperlmntal.proofs.CongruentNames.{congruent-within}
use Rattle.hyperlmntal.proofs.Derived.{≅-≡}
use Rattle.hyperlmntal.proofs.Thesis.{bound-choice, rename-rename}

-- X⟨Z⃗/Y⃗⟩ = Zᵢ if X = Yᵢ, for the first such i (in 004 there is one at most).
pub assign-at : (Zs Zs' Ys Ys' : List Link) (Z X : Link) → length Zs ≡ length Ys → ¬ (X ∈ Ys) → assign (Zs ++ (Z ∷ Zs')) (Ys ++ (X ∷ Ys')) X ≡ Z
unfolding assign
assign-at [] Zs' [] Ys' Z X e n = update-at (assign Zs' Ys') X Z X refl
assign-at [] Zs' (T ∷ Ys) Ys' Z X e n = absurd (omega arith)
assign-at (U ∷ Zs) Zs' [] Ys' Z X e n = absurd (omega arith)
assign-at (U ∷ Zs) Zs' (T ∷ Ys) Ys' Z X e n = update-off (assign (Zs ++ (Z ∷ Zs')) (Ys ++ (X ∷ Ys'))) T U X (λ q. n (Memᴰ.head q)) ∙ assign-at Zs Zs' Ys Ys' Z X (omega arith) (λ m. n (Memᴰ.tail m))

-- X⟨Z⃗/Y⃗⟩ = X if X ∉ Y⃗.
pub assign-off : (Zs Ys : List Link) (X : Link) → ¬ (X ∈ Ys) → assign Zs Ys X ≡ X
unfolding assign
assign-off [] Ys X n = refl
assign-off (Z ∷ Zs) [] X n = refl
assign-off (Z ∷ Zs) (Y ∷ Ys) X n = update-off (assign Zs Ys) Y Z X (λ q. n (Memᴰ.head q)) ∙ assign-off Zs Ys X (λ m. n (Memᴰ.tail m))

-- So a link stays or becomes one of Z⃗.
pub assign-range : (Zs Ys : List Link) (X : Link) → (assign Zs Ys X ≡ X) ⊎ (assign Zs Ys X ∈ Zs)
unfolding assign
assign-range [] Ys X = inl refl
assign-range (Z ∷ Zs) [] X = inl refl
assign-range (Z ∷ Zs) (Y ∷ Ys) X = at (X ≟ Y) (assign-range Zs Ys X)
  where
    later : X ≢ Y → (assign Zs Ys X ≡ X) ⊎ (assign Zs Ys X ∈ Zs) → (update (assign Zs Ys) Y Z X ≡ X) ⊎ (update (assign Zs Ys) Y Z X ∈ (Z ∷ Zs))
    later n (inl e) = inl (update-off (assign Zs Ys) Y Z X n ∙ e)
    later n (inr m) = inr (Memᴰ.tail (Memᴰ.cast (update-off (assign Zs Ys) Y Z X n) m))

    at : Dec (X ≡ Y) → (assign Zs Ys X ≡ X) ⊎ (assign Zs Ys X ∈ Zs) → (update (assign Zs Ys) Y Z X ≡ X) ⊎ (update (assign Zs Ys) Y Z X ∈ (Z ∷ Zs))
    at (yes e) h = inr (Memᴰ.head (update-at (assign Zs Ys) Y Z X e))
    at (no n) h = later n h

-- A pair Z/X makes no difference to other links.
pub assign-omit : (Zs Zs' Ys Ys' : List Link) (Z X U : Link) → length Zs ≡ length Ys → U ≢ X → assign (Zs ++ (Z ∷ Zs')) (Ys ++ (X ∷ Ys')) U ≡ assign (Zs ++ Zs') (Ys ++ Ys') U
unfolding assign update
assign-omit [] Zs' [] Ys' Z X U e n = update-off (assign Zs' Ys') X Z U n
assign-omit [] Zs' (T ∷ Ys) Ys' Z X U e n = absurd (omega arith)
assign-omit (T ∷ Zs) Zs' [] Ys' Z X U e n = absurd (omega arith)
assign-omit (T ∷ Zs) Zs' (S ∷ Ys) Ys' Z X U e n = ap (select (U ≟ S) T) (assign-omit Zs Zs' Ys Ys' Z X U (omega arith) n)

-- Templates; σ is ⟨Z⃗/Y⃗⟩. Fusions and contexts are as atoms.
module _ (Zs Ys : List Link) where
  -- 0σ = 0.
  pub subst_links-null : subst_links Zs Ys null ≡ null
  subst_links-null = refl

  -- p(X⃗)σ = p(X₁σ, …, Xₙσ).
  pub subst_links-atom : (p : ℕ) (Xs : List Link) → subst_links Zs Ys (atom p Xs) ≡ atom p (map (assign Zs Ys) Xs)
  subst_links-atom p Xs = refl

  pub subst_links-fusion : (X Y : Link) → subst_links Zs Ys (fusion X Y) ≡ fusion (assign Zs Ys X) (assign Zs Ys Y)
  subst_links-fusion X Y = refl

  pub subst_links-context : (x : ℕ) (Xs : List Link) → subst_links Zs Ys (context x Xs) ≡ context x (map (assign Zs Ys) Xs)
  subst_links-context x Xs = refl

  -- (G₁, G₂)σ = (G₁σ, G₂σ).
  pub subst_links-molecule : (G H : Template) → subst_links Zs Ys (molecule G H) ≡ molecule (subst_links Zs Ys G) (subst_links Zs Ys H)
  subst_links-molecule G H = refl

  -- ν keeps its link X wherever X captures nothing.
  pub subst_links-kept : (X : Link) (G : Template) → ¬ (X ∈ Ys) → ¬ (X ∈ map (assign Zs Ys) (fn (ν X G))) → subst_links Zs Ys (ν X G) ≡ ν X (subst_links Zs Ys G)
  subst_links-kept X G y n = ap (λ W. ν W (rename (update (assign Zs Ys) X W) G)) (avoid-idle X (map (assign Zs Ys) (fn (ν X G))) n) ∙ ap (ν X) (rename-agree (update (assign Zs Ys) X X) (assign Zs Ys) G (λ Z m. at Z (Z ≟ X)))
    where
      at : (Z : Link) → Dec (Z ≡ X) → update (assign Zs Ys) X X Z ≡ assign Zs Ys Z
      at Z (yes e) = update-at (assign Zs Ys) X X Z e ∙ sym (assign-off Zs Ys X y) ∙ ap (assign Zs Ys) (sym e)
      at Z (no k) = update-off (assign Zs Ys) X X Z k

  -- A link that is neither in Z⃗ nor free captures nothing.
  pub uncaptured : (W X : Link) (G : Template) → ¬ (W ∈ Zs) → ¬ (W ∈ fn (ν X G)) → ¬ (W ∈ map (assign Zs Ys) (fn (ν X G)))
  uncaptured W X G z n m = from (Memᴰ.of_map (assign Zs Ys) (fn (ν X G)) m)
    where
      at : (U : Link) → U ∈ fn (ν X G) → assign Zs Ys U ≡ W → (assign Zs Ys U ≡ U) ⊎ (assign Zs Ys U ∈ Zs) → ⊥
      at U i q (inl e) = n (Memᴰ.cast (sym q ∙ e) i)
      at U i q (inr k) = z (Memᴰ.cast (sym q) k)

      from : (U : Link) × (U ∈ fn (ν X G)) × (assign Zs Ys U ≡ W) → ⊥
      from t = at t.0 t.1 t.2 (assign-range Zs Ys t.0)

  -- (νX.G)⟨Z⃗/Y⃗⟩ = νX.G⟨Z⃗/Y⃗⟩ if X ∉ Y⃗ and X ∉ Z⃗.
  pub subst_links-ν : (X : Link) (G : Template) → ¬ (X ∈ Ys) → ¬ (X ∈ Zs) → subst_links Zs Ys (ν X G) ≡ ν X (subst_links Zs Ys G)
  subst_links-ν X G y z = subst_links-kept X G y (uncaptured X X G z (λ m. (without-out X (fn G) m).0 refl))

-- Mutually distinct Y⃗ (definition 2.2.4) have X at one place only.
pub distinct-once : (Ys Ys' : List Link) (X : Link) → Distinct (Ys ++ (X ∷ Ys')) → ¬ (X ∈ Ys ++ Ys')
distinct-once [] Ys' X d m = d.0 m
distinct-once (Y ∷ Ys) Ys' X d m = at (Memᴰ.cases_cons m) (λ i. distinct-once Ys Ys' X d.1 i)
  where
    at : (X ≡ Y) ⊎ (X ∈ Ys ++ Ys') → (X ∈ Ys ++ Ys' → ⊥) → ⊥
    at (inl e) f = d.0 (Memᴰ.append_right Ys (Memᴰ.head (sym e)))
    at (inr i) f = f i

-- X = Yᵢ: the pair Zᵢ/X has no effect on νX.G and may be left out.
pub subst_links-omit : (Zs Zs' Ys Ys' : List Link) (Z X : Link) (G : Template) → length Zs ≡ length Ys → subst_links (Zs ++ (Z ∷ Zs')) (Ys ++ (X ∷ Ys')) (ν X G) ≡ subst_links (Zs ++ Zs') (Ys ++ Ys') (ν X G)
subst_links-omit Zs Zs' Ys Ys' Z X G e = rename-agree (assign (Zs ++ (Z ∷ Zs')) (Ys ++ (X ∷ Ys'))) (assign (Zs ++ Zs') (Ys ++ Ys')) (ν X G) (λ U m. assign-omit Zs Zs' Ys Ys' Z X U e (without-out X (fn G) m).0)

-- (νX.G)⟨Z⃗/Y⃗⟩ = νX.G⟨Z⃗'/Y⃗'⟩ if X = Yᵢ, where Z⃗' and Y⃗' leave out the pair i. X ∉ Y⃗' by distinct-once. The figure does not
-- ask for X ∉ Z⃗', without which X may capture; 004 then wants α-conversion, which is the third case for Z⃗' and Y⃗'.
pub subst_links-bound : (Zs Zs' Ys Ys' : List Link) (Z X : Link) (G : Template) → length Zs ≡ length Ys → ¬ (X ∈ Ys ++ Ys') → ¬ (X ∈ Zs ++ Zs') → subst_links (Zs ++ (Z ∷ Zs')) (Ys ++ (X ∷ Ys')) (ν X G) ≡ ν X (subst_links (Zs ++ Zs') (Ys ++ Ys') G)
subst_links-bound Zs Zs' Ys Ys' Z X G e y z = subst_links-omit Zs Zs' Ys Ys' Z X G e ∙ subst_links-ν (Zs ++ Zs') (Ys ++ Ys') X G y z

-- (νX.G)⟨Z⃗/Y⃗⟩ = νW.(G⟨W/X⟩)⟨Z⃗/Y⃗⟩ if X ∉ Y⃗, X ∈ Z⃗, W ∉ fn(G), W ∉ Z⃗ and W ≠ X: for every such W, up to congruence. The figure
-- forgets W ∉ Y⃗; X ∉ Y⃗, X ∈ Z⃗ and W ≠ X make no difference.
pub subst_links-fresh : (Zs Ys : List Link) (X W : Link) (G : Template) → ¬ (W ∈ fn G) → ¬ (W ∈ Zs) → ¬ (W ∈ Ys) → subst_links Zs Ys (ν X G) ≅ ν W (subst_links Zs Ys (subst_link W X G))
subst_links-fresh Zs Ys X W G n z y = ≅-trans (bound-choice G (λ α β. rename-rename α β G) σ X (avoid X (map σ (fn (ν X G)))) W (avoid-not X (map σ (fn (ν X G)))) (uncaptured Zs Ys W X G z (λ i. n (without-out X (fn G) i).1))) (E5 (≅-trans (≅-≡ (rename-agree (update σ X W) (λ Z. σ (update same X W Z)) G (λ Z m. agree Z (Z ≟ X)))) (≅-sym (rename-rename σ (update same X W) G))))
  where
    σ : Link → Link
    σ = assign Zs Ys

    agree : (Z : Link) → Dec (Z ≡ X) → update σ X W Z ≡ σ (update same X W Z)
    agree Z (yes e) = update-at σ X W Z e ∙ sym (ap σ (update-at same X W Z e) ∙ assign-off Zs Ys W y)
    agree Z (no k) = update-off σ X W Z k ∙ sym (ap σ (update-off same X W Z k))

-- What the figure leaves out is needed; X, Y, W and Q are the links 0 to 3.
-- X ∉ Z⃗': νX.p(X, Y)⟨X/Y⟩ for (νX.p(X, Y))⟨Q, X/X, Y⟩ would capture X.
pub bound-needs : (p : ℕ) → ¬ (subst_links (free 3 ∷ free 0 ∷ []) (free 0 ∷ free 1 ∷ []) (ν (free 0) (atom p (free 0 ∷ free 1 ∷ []))) ≅ ν (free 0) (subst_links (free 0 ∷ []) (free 1 ∷ []) (atom p (free 0 ∷ free 1 ∷ []))))
unfolding assign update avoid fresh member ◌≟◌ native.Mathlib.Decide.ℕ_discrete
bound-needs p e = Memᴰ.not-nil ((congruent-within e).0 (free 0) (Memᴰ.head refl))

-- W ∉ Y⃗: νW.(p(X, Y)⟨W/X⟩)⟨X, Q/Y, W⟩ for (νX.p(X, Y))⟨X, Q/Y, W⟩ would set free the bound link.
pub fresh-needs : (p : ℕ) → ¬ (subst_links (free 0 ∷ free 3 ∷ []) (free 1 ∷ free 2 ∷ []) (ν (free 0) (atom p (free 0 ∷ free 1 ∷ []))) ≅ ν (free 2) (subst_links (free 0 ∷ free 3 ∷ []) (free 1 ∷ free 2 ∷ []) (subst_link (free 2) (free 0) (atom p (free 0 ∷ free 1 ∷ [])))))
unfolding assign update avoid fresh member ◌≟◌ native.Mathlib.Decide.ℕ_discrete
fresh-needs p e = absurd (let q : free 3 ≡ free 0 = Memᴰ.eq_of_singleton ((congruent-within e).1 (free 3) (Memᴰ.head refl)) in let z : ◌≡◌ {A = ℕ} 3 0 = cc in omega arith)
