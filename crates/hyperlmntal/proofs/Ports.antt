-- A vertex with new names for its ports: a(X⃗) is νP⃗.(a(P⃗), P₁ ⋈ X₁, P₂ ⋈ X₂, …).
use mathlib.Core.Path.{◌≡◌, refl, ap, ap₂, sym, ◌∙◌, subst}
use mathlib.Core.Logic.{◌⊎◌, inl, inr}
use mathlib.Core.List.Memᴰ
use mathlib.Core.List.{List, [], ◌∷◌, ◌++◌, map, map-append, append_assoc}
use Rattle.hyperlmntal.specs.Link.{Link, ◌∈◌}
use Rattle.hyperlmntal.specs.Template.{fusion, molecule, ν, fn}
use Rattle.hyperlmntal.specs.LinkSubstitution.{fresh, same, update, rename}
use Rattle.hyperlmntal.specs.Congruence.{◌≅◌, ≅-trans, E5}
use Rattle.hyperlmntal.specs.GraphSubstitution.{Distinct}
use Rattle.hyperlmntal.specs.Hypergraph.{Label, symbol, hole}
use Rattle.hyperlmntal.specs.TermOf.{labelled}
use Rattle.hyperlmntal.proofs.Lists.{Each, done, more, map-idle}
use Rattle.hyperlmntal.proofs.Links.{update-at, update-off, fresh-not, subst_link-idle}
use Rattle.hyperlmntal.proofs.Derived.{≅-≡, E1-right, exchange, fusion-absorbed, νs, Off, νs-≅, νs-inward}
use Rattle.hyperlmntal.proofs.Nets.{Pair, net}

pub fn-labelled : (c : Label) (Xs : List Link) → fn (labelled c Xs) ≡ Xs
fn-labelled (symbol p) Xs = refl
fn-labelled (hole x) Xs = refl

rename-labelled : (σ : Link → Link) (c : Label) (Xs : List Link) → rename σ (labelled c Xs) ≡ labelled c (map σ Xs)
rename-labelled σ (symbol p) Xs = refl
rename-labelled σ (hole x) Xs = refl

-- Lists of one length.
abbrev pub Even : {A B : Type 0} → List A → List B → Type 0
Even {A} {B} l k = Each (λ (a : A) (b : B). Unit {0}) l k

pub even-of-map : {A B C : Type 0} (f : B → C) (l : List A) (k : List B) → Even l (map f k) → Even l k
even-of-map f [] [] done = done
even-of-map f [] (b ∷ k) x = elim x [ ]
even-of-map f (a ∷ l) [] x = elim x [ ]
even-of-map f (a ∷ l) (b ∷ k) (more u e) = more u (even-of-map f l k e)

-- New links for the members of a list, none of them in l.
abbrev pub fresh_for : {A : Type 0} → List A → List Link → List Link
fresh_for [] l = []
fresh_for (a ∷ k) l = fresh l ∷ fresh_for k (fresh l ∷ l)

pub fresh-even : {A : Type 0} (k : List A) (l : List Link) → Even (fresh_for k l) k
fresh-even [] l = done
fresh-even (a ∷ k) l = more tt (fresh-even k (fresh l ∷ l))

pub fresh-off : {A : Type 0} (k : List A) (l : List Link) → Off (fresh_for k l) l
fresh-off [] l Z m i = Memᴰ.not-nil m
fresh-off (a ∷ k) l Z m i = at (Memᴰ.cases_cons m) (λ j. fresh-off k (fresh l ∷ l) Z j (Memᴰ.tail i))
  where
    at : (Z ≡ fresh l) ⊎ (Z ∈ fresh_for k (fresh l ∷ l)) → (Z ∈ fresh_for k (fresh l ∷ l) → ⊥) → ⊥
    at (inl e) f = fresh-not l (Memᴰ.cast (sym e) i)
    at (inr j) f = f j

pub fresh-distinct : {A : Type 0} (k : List A) (l : List Link) → Distinct (fresh_for k l)
fresh-distinct [] l = tt
fresh-distinct (a ∷ k) l = (λ m. fresh-off k (fresh l ∷ l) (fresh l) m (Memᴰ.head refl), fresh-distinct k (fresh l ∷ l))

-- The fusions that tie the new names to the old links.
abbrev pub pairs : List Link → List Link → List Pair
pairs [] Xs = []
pairs (P ∷ Ps) [] = []
pairs (P ∷ Ps) (X ∷ Xs) = (P, X) ∷ pairs Ps Xs

pairs-fn : (Ps Xs : List Link) {Z : Link} → Z ∈ fn (net (pairs Ps Xs)) → (Z ∈ Ps) ⊎ (Z ∈ Xs)
pairs-fn [] Xs m = absurd (Memᴰ.not-nil m)
pairs-fn (P ∷ Ps) [] m = absurd (Memᴰ.not-nil m)
pairs-fn (P ∷ Ps) (X ∷ Xs) {Z} m = from (Memᴰ.cases_cons m) (λ i. pairs-fn Ps Xs i)
  where
    later : (Z ∈ Ps) ⊎ (Z ∈ Xs) → (Z ∈ (P ∷ Ps)) ⊎ (Z ∈ (X ∷ Xs))
    later (inl i) = inl (Memᴰ.tail i)
    later (inr i) = inr (Memᴰ.tail i)

    second : (Z ≡ X) ⊎ (Z ∈ fn (net (pairs Ps Xs))) → (Z ∈ fn (net (pairs Ps Xs)) → (Z ∈ Ps) ⊎ (Z ∈ Xs)) → (Z ∈ (P ∷ Ps)) ⊎ (Z ∈ (X ∷ Xs))
    second (inl e) f = inr (Memᴰ.head e)
    second (inr i) f = later (f i)

    from : (Z ≡ P) ⊎ (Z ∈ (X ∷ fn (net (pairs Ps Xs)))) → (Z ∈ fn (net (pairs Ps Xs)) → (Z ∈ Ps) ⊎ (Z ∈ Xs)) → (Z ∈ (P ∷ Ps)) ⊎ (Z ∈ (X ∷ Xs))
    from (inl e) f = inl (Memᴰ.head e)
    from (inr i) f = second (Memᴰ.cases_cons i) f

off-append : {l k : List Link} {Z : Link} → ¬ (Z ∈ l) → ¬ (Z ∈ k) → ¬ (Z ∈ l ++ k)
off-append {l} {k} {Z} n m i = from (Memᴰ.append_cases l i)
  where
    from : (Z ∈ l) ⊎ (Z ∈ k) → ⊥
    from (inl j) = n j
    from (inr j) = m j

-- The ports Q⃗ are done, the ports P⃗ are to be done.
name-more : (c : Label) (Qs Ps Xs : List Link) → Even Ps Xs → Distinct Ps → Off Ps Xs → Off Ps Qs → νs Ps (molecule (labelled c (Qs ++ Ps)) (net (pairs Ps Xs))) ≅ labelled c (Qs ++ Xs)
name-more c Qs [] [] done apart ox oq = E1-right
name-more c Qs [] (X ∷ Xs) x apart ox oq = elim x [ ]
name-more c Qs (P ∷ Ps) [] x apart ox oq = elim x [ ]
name-more c Qs (P ∷ Ps) (X ∷ Xs) (more u e) apart ox oq = ≅-trans (νs-inward P Ps _) (≅-trans (νs-≅ Ps step) (≅-trans (name-more c (Qs ++ (X ∷ [])) Ps Xs e apart.1 (λ Z m i. ox Z (Memᴰ.tail m) (Memᴰ.tail i)) (λ Z m. off-append (oq Z (Memᴰ.tail m)) (λ i. ox Z (Memᴰ.tail m) (Memᴰ.head (Memᴰ.eq_of_singleton i))))) (≅-≡ (ap (labelled c) (append_assoc Qs (X ∷ []) Xs)))))
  where
    σ : Link → Link
    σ = update same P X

    idle : (l : List Link) → ¬ (P ∈ l) → map σ l ≡ l
    idle l n = map-idle σ l (λ Z m. update-off same P X Z (λ q. n (Memᴰ.cast (sym q) m)))

    ports : map σ (Qs ++ (P ∷ Ps)) ≡ (Qs ++ (X ∷ [])) ++ Ps
    ports = map-append σ Qs (P ∷ Ps) ∙ ap₂ ◌++◌ (idle Qs (oq P (Memᴰ.head refl))) (ap₂ ◌∷◌ (update-at same P X P refl) (idle Ps apart.0)) ∙ sym (append_assoc Qs (X ∷ []) Ps)

    rest : ¬ (P ∈ fn (net (pairs Ps Xs)))
    rest m = from (pairs-fn Ps Xs m)
      where
        from : (P ∈ Ps) ⊎ (P ∈ Xs) → ⊥
        from (inl i) = apart.0 i
        from (inr i) = ox P (Memᴰ.head refl) (Memᴰ.tail i)

    used : P ∈ fn (labelled c (Qs ++ (P ∷ Ps))) ++ fn (net (pairs Ps Xs))
    used = Memᴰ.append_left _ (subst (λ l. P ∈ l) (sym (fn-labelled c (Qs ++ (P ∷ Ps)))) (Memᴰ.append_right Qs (Memᴰ.head refl)))

    step : ν P (molecule (labelled c (Qs ++ (P ∷ Ps))) (molecule (fusion P X) (net (pairs Ps Xs)))) ≅ molecule (labelled c ((Qs ++ (X ∷ [])) ++ Ps)) (net (pairs Ps Xs))
    step = ≅-trans (E5 exchange) (≅-trans (fusion-absorbed P X _ (λ q. ox P (Memᴰ.head refl) (Memᴰ.head q)) (inl used)) (≅-≡ (ap₂ molecule (rename-labelled σ c (Qs ++ (P ∷ Ps)) ∙ ap (labelled c) ports) (subst_link-idle X P (net (pairs Ps Xs)) rest))))

pub name-ports : (c : Label) (Ps Xs : List Link) → Even Ps Xs → Distinct Ps → Off Ps Xs → νs Ps (molecule (labelled c Ps) (net (pairs Ps Xs))) ≅ labelled c Xs
name-ports c Ps Xs e apart ox = name-more c [] Ps Xs e apart ox (λ Z m i. Memᴰ.not-nil i)
