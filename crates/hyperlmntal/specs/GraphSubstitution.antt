-- Graph substitution: the contexts of a template give way to fillings.
use Rattle.std.specs.Prelude.{◌≡◌, ◌↔◌, List, [], ◌∷◌, ◌++◌, map, ℕ, length}
use Rattle.std.proofs.Math.Option.{Option, some, none}
use Rattle.std.proofs.Math.Decide.{ℕ_discrete}
use Rattle.hyperlmntal.specs.Link.{Link, select, ◌∈◌}
use Rattle.hyperlmntal.specs.Template.{Template, null, atom, fusion, molecule, ν, context, without, fn}
use Rattle.hyperlmntal.specs.Congruence.{◌≅◌}
use Rattle.hyperlmntal.specs.LinkSubstitution.{avoid, same, update, subst_links}

-- T/y[Y⃗] (004, figure 3.11): the filling T for the contexts of number y with as many links as Y⃗; T is of type B.
pub record Entry (B : Type 0) : Type 0 where
  pub number : ℕ
  pub ports : List Link
  pub body : B

-- A graph substitution θ (001; 004, figure 3.11, for several contexts at once): a list of fillings.
abbrev pub Substitution : Type 0
Substitution = List (Entry Template)

-- x/n = y/|Y⃗|, decided (004, figure 3.11, third rule).
unfoldable pub same_functor : {B : Type 0} (x n : ℕ) (e : Entry B) → Dec ((x ≡ e.number) × (n ≡ length e.ports))
same_functor x n e = both (ℕ_discrete x e.number) (ℕ_discrete n (length e.ports))
  where
    both : Dec (x ≡ e.number) → Dec (n ≡ length e.ports) → Dec ((x ≡ e.number) × (n ≡ length e.ports))
    both (yes p) (yes q) = yes (p, q)
    both (yes p) (no k) = no (λ t. k t.1)
    both (no k) d = no (λ t. k t.0)

-- The entry for contexts of number x with n links, the first if there are several (004, figure 3.11, third rule).
abbrev pub lookup : {B : Type 0} → ℕ → ℕ → List (Entry B) → Option (Entry B)
lookup x n [] = none
lookup x n (e ∷ θ) = select (same_functor x n e) (some e) (lookup x n θ)

-- x[X⃗]θ, given the entry for x/|X⃗| if there is one (001; 004, figure 3.11, third rule): T⟨X⃗/Y⃗⟩, or x[X⃗] as it is.
abbrev pub fill : Option (Entry Template) → ℕ → List Link → Template
fill none x Xs = context x Xs
fill (some e) x Xs = subst_links Xs e.ports e.body

-- The links of a list that are not in another: for `loose`.
abbrev pub minus : List Link → List Link → List Link
minus l [] = l
minus l (X ∷ k) = without X (minus l k)

-- The free link names of the fillings that are not ports: none for exact fillings; no ν may capture them (004: θ is capture-avoiding).
abbrev pub loose : Substitution → List Link
loose [] = []
loose (e ∷ θ) = minus (fn e.body) e.ports ++ loose θ

-- Tθ (004, figure 3.11) with the free links of T renamed by σ at the same time; a bound link that would capture is renamed.
abbrev pub substitute_by : (Link → Link) → Substitution → Template → Template
substitute_by σ θ null = null
substitute_by σ θ (atom p Xs) = atom p (map σ Xs)
substitute_by σ θ (fusion X Y) = fusion (σ X) (σ Y)
substitute_by σ θ (molecule G H) = molecule (substitute_by σ θ G) (substitute_by σ θ H)
substitute_by σ θ (ν X G) = ν (avoid X (map σ (fn (ν X G)) ++ loose θ)) (substitute_by (update σ X (avoid X (map σ (fn (ν X G)) ++ loose θ))) θ G)
substitute_by σ θ (context x Xs) = fill (lookup x (length Xs) θ) x (map σ Xs)

-- Tθ (001; 004, figure 3.11, first five rules): all contexts at once.
abbrev pub substitute : Substitution → Template → Template
substitute θ T = substitute_by same θ T

-- Mutually distinct links (004, definition 2.2.4).
abbrev pub Distinct : List Link → Type 0
Distinct [] = Unit {0}
Distinct (X ∷ l) = ¬ (X ∈ l) × Distinct l

-- A filling whose free link names are exactly its ports (001: fn(G) = {X⃗} in Rd-β).
pub record Exact (e : Entry Template) : Type 0 where
  pub distinct : Distinct e.ports
  pub names : (Z : Link) → (Z ∈ fn e.body) ↔ (Z ∈ e.ports)

-- A substitution with exact fillings only (001, Rd-β and pattern matching).
abbrev pub AllExact : Substitution → Type 0
AllExact θ = (e : Entry Template) → e ∈ θ → Exact e

-- Substitutions that put congruent fillings for the same contexts, entry by entry (001: graphs up to ≡).
abbrev pub AllCongruent : Substitution → Substitution → Type 0
AllCongruent [] [] = Unit {0}
AllCongruent [] (f ∷ η) = ⊥
AllCongruent (e ∷ θ) [] = ⊥
AllCongruent (e ∷ θ) (f ∷ η) = (e.number ≡ f.number) × (e.ports ≡ f.ports) × (e.body ≅ f.body) × AllCongruent θ η
