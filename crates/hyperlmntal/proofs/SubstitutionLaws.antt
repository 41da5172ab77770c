-- The equations of graph substitution (004, figure 3.11).
use mathlib.Core.Path.{◌≡◌, refl, ap, ap₂, sym, ◌∙◌, subst}
use mathlib.Core.Logic.{◌⊎◌, inl, inr}
use mathlib.Core.List.Memᴰ
use mathlib.Core.List.{List, [], ◌++◌, map, append-nil}
use mathlib.Core.Option.{some, none}
use Prim.Native.Nat.{ℕ}
use lib.ListN.{length}
use Rattle.hyperlmntal.specs.Link.{Link, ◌≟◌, ◌∈◌}
use Rattle.hyperlmntal.specs.Template.{Template, null, atom, fusion, molecule, ν, context, Graph, fn}
use Rattle.hyperlmntal.specs.LinkSubstitution.{avoid, same, update, rename, subst_links}
use Rattle.hyperlmntal.specs.GraphSubstitution.{Entry, Substitution, lookup, fill, loose, substitute_by, substitute}
use Rattle.hyperlmntal.proofs.Lists.{map-agree, map-idle}
use Rattle.hyperlmntal.proofs.Links.{without_in, without-out, avoid-idle, update-at, update-off, rename-idle}

map_same : (Xs : List Link) → map same Xs ≡ Xs
map_same Xs = map-idle same Xs (λ X m. refl)

pub substitute-null : (θ : Substitution) → substitute θ null ≡ null
substitute-null θ = refl

pub substitute-atom : (θ : Substitution) (p : ℕ) (Xs : List Link) → substitute θ (atom p Xs) ≡ atom p Xs
substitute-atom θ p Xs = ap (atom p) (map_same Xs)

pub substitute-fusion : (θ : Substitution) (X Y : Link) → substitute θ (fusion X Y) ≡ fusion X Y
substitute-fusion θ X Y = refl

pub substitute-molecule : (θ : Substitution) (G H : Template) → substitute θ (molecule G H) ≡ molecule (substitute θ G) (substitute θ H)
substitute-molecule θ G H = refl

pub substitute-filled : (θ : Substitution) (x : ℕ) (Xs : List Link) (e : Entry Template) → lookup x (length Xs) θ ≡ some e → substitute θ (context x Xs) ≡ subst_links Xs e.ports e.body
substitute-filled θ x Xs e p = ap₂ (λ o l. fill o x l) p (map_same Xs)

pub substitute-kept : (θ : Substitution) (x : ℕ) (Xs : List Link) → lookup x (length Xs) θ ≡ none → substitute θ (context x Xs) ≡ context x Xs
substitute-kept θ x Xs p = ap₂ (λ o l. fill o x l) p (map_same Xs)

-- Only what the renaming does to the free links matters.
pub substitute_by-agree : (σ τ : Link → Link) (θ : Substitution) (T : Template) → ((Z : Link) → Z ∈ fn T → σ Z ≡ τ Z) → substitute_by σ θ T ≡ substitute_by τ θ T
substitute_by-agree σ τ θ null h = refl
substitute_by-agree σ τ θ (atom p Xs) h = ap (atom p) (map-agree σ τ Xs h)
substitute_by-agree σ τ θ (fusion X Y) h = ap₂ fusion (h X (Memᴰ.head refl)) (h Y (Memᴰ.tail (Memᴰ.head refl)))
substitute_by-agree σ τ θ (molecule G H) h = ap₂ molecule (substitute_by-agree σ τ θ G (λ Z m. h Z (Memᴰ.append_left (fn H) m))) (substitute_by-agree σ τ θ H (λ Z m. h Z (Memᴰ.append_right (fn G) m)))
substitute_by-agree σ τ θ (ν X G) h = ap₂ ν w (substitute_by-agree (update σ X (avoid X (map σ l ++ loose θ))) (update τ X (avoid X (map τ l ++ loose θ))) θ G (λ Z m. at Z m (Z ≟ X)))
  where
    l : List Link
    l = fn (ν X G)

    w : avoid X (map σ l ++ loose θ) ≡ avoid X (map τ l ++ loose θ)
    w = ap (λ k. avoid X (k ++ loose θ)) (map-agree σ τ l h)

    at : (Z : Link) → Z ∈ fn G → Dec (Z ≡ X) → update σ X (avoid X (map σ l ++ loose θ)) Z ≡ update τ X (avoid X (map τ l ++ loose θ)) Z
    at Z m (yes e) = update-at σ X _ Z e ∙ w ∙ sym (update-at τ X _ Z e)
    at Z m (no n) = update-off σ X _ Z n ∙ h Z (without_in X (fn G) m n) ∙ sym (update-off τ X _ Z n)
substitute_by-agree σ τ θ (context x Xs) h = ap (fill (lookup x (length Xs) θ) x) (map-agree σ τ Xs h)

-- A bound link stays that captures nothing: always where the fillings' free links are their ports.
pub substitute-ν : (θ : Substitution) (X : Link) (T : Template) → ¬ (X ∈ loose θ) → substitute θ (ν X T) ≡ ν X (substitute θ T)
substitute-ν θ X T n = ap₂ ν w (substitute_by-agree (update same X (avoid X l)) same θ T (λ Z m. at Z (Z ≟ X)))
  where
    l : List Link
    l = map same (fn (ν X T)) ++ loose θ

    side : (X ∈ map same (fn (ν X T))) ⊎ (X ∈ loose θ) → ⊥
    side (inl i) = (without-out X (fn T) (subst (λ k. X ∈ k) (map_same (fn (ν X T))) i)).0 refl
    side (inr i) = n i

    w : avoid X l ≡ X
    w = avoid-idle X l (λ m. side (Memᴰ.append_cases (map same (fn (ν X T))) m))

    at : (Z : Link) → Dec (Z ≡ X) → update same X (avoid X l) Z ≡ Z
    at Z (yes e) = update-at same X (avoid X l) Z e ∙ w ∙ sym e
    at Z (no k) = update-off same X (avoid X l) Z k

-- Nothing to substitute.
pub substitute_by-nothing : (σ : Link → Link) (T : Template) → substitute_by σ [] T ≡ rename σ T
substitute_by-nothing σ null = refl
substitute_by-nothing σ (atom p Xs) = refl
substitute_by-nothing σ (fusion X Y) = refl
substitute_by-nothing σ (molecule G H) = ap₂ molecule (substitute_by-nothing σ G) (substitute_by-nothing σ H)
substitute_by-nothing σ (ν X G) = ap (λ j. ν (avoid X j) (substitute_by (update σ X (avoid X j)) [] G)) (append-nil (map σ (fn (ν X G)))) ∙ ap (ν (avoid X (map σ (fn (ν X G))))) (substitute_by-nothing (update σ X (avoid X (map σ (fn (ν X G))))) G)
substitute_by-nothing σ (context x Xs) = refl

pub substitute-nothing : (T : Template) → substitute [] T ≡ T
substitute-nothing T = substitute_by-nothing same T ∙ rename-idle same T (λ Z m. refl)

-- A graph has nothing to substitute.
pub substitute_by-graph : (θ : Substitution) → loose θ ≡ [] → (T : Template) → Graph T → (σ : Link → Link) → substitute_by σ θ T ≡ rename σ T
substitute_by-graph θ e null g σ = refl
substitute_by-graph θ e (atom p Xs) g σ = refl
substitute_by-graph θ e (fusion X Y) g σ = refl
substitute_by-graph θ e (molecule G H) g σ = ap₂ molecule (substitute_by-graph θ e G g.0 σ) (substitute_by-graph θ e H g.1 σ)
substitute_by-graph θ e (ν X G) g σ = ap (λ j. ν (avoid X j) (substitute_by (update σ X (avoid X j)) θ G)) (ap (λ k. map σ (fn (ν X G)) ++ k) e ∙ append-nil (map σ (fn (ν X G)))) ∙ ap (ν (avoid X (map σ (fn (ν X G))))) (substitute_by-graph θ e G g (update σ X (avoid X (map σ (fn (ν X G))))))
substitute_by-graph θ e (context x Xs) g σ = absurd g

pub substitute-graph : (θ : Substitution) → loose θ ≡ [] → (T : Template) → Graph T → substitute θ T ≡ T
substitute-graph θ e T g = substitute_by-graph θ e T g same ∙ rename-idle same T (λ Z m. refl)
