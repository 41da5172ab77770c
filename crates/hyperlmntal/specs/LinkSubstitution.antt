-- Link substitution without capture: renaming of the free links of a term.
use Rattle.std.specs.Prelude.{List, [], ◌∷◌, map, ℕ, suc, max}
use Rattle.hyperlmntal.specs.Link.{Link, local, free, ◌≟◌, select, member}
use Rattle.hyperlmntal.specs.Template.{Template, null, atom, fusion, molecule, ν, context, fn}

-- More than the number of every local link of the list: for `fresh`.
abbrev pub height : List Link → ℕ
height [] = 0
height (local n ∷ l) = max (suc n) (height l)
height (free n ∷ l) = height l

-- A link that is not in the list (W in 004, figure 2.3).
unfoldable pub fresh : List Link → Link
fresh l = local (height l)

-- X itself where it is not in the list, else a link that is not (second and third case of ν in 004, figure 2.3).
unfoldable pub avoid : Link → List Link → Link
avoid X l = select (member X l) (fresh l) X

-- The renaming that changes nothing.
abbrev pub same : Link → Link
same X = X

-- σ, but X goes to Y (id with X ↦ Y in 004, theorem 2.4.16).
unfoldable pub update : (Link → Link) → Link → Link → Link → Link
update σ X Y Z = select (Z ≟ X) Y (σ Z)

-- Gσ for any renaming σ of links, at once; a bound link that would capture is renamed (004, definition 2.2.4).
abbrev pub rename : (Link → Link) → Template → Template
rename σ null = null
rename σ (atom p Xs) = atom p (map σ Xs)
rename σ (fusion X Y) = fusion (σ X) (σ Y)
rename σ (molecule G H) = molecule (rename σ G) (rename σ H)
rename σ (ν X G) = ν (avoid X (map σ (fn (ν X G)))) (rename (update σ X (avoid X (map σ (fn (ν X G))))) G)
rename σ (context x Xs) = context x (map σ Xs)

-- X⟨Z⃗/Y⃗⟩ (004, figure 2.3, first line): Zᵢ for the first Yᵢ that is X, else X.
unfoldable pub assign : List Link → List Link → Link → Link
assign [] Ys X = X
assign (Z ∷ Zs) [] X = X
assign (Z ∷ Zs) (Y ∷ Ys) X = update (assign Zs Ys) Y Z X

-- G⟨Z⃗/Y⃗⟩ (004, definition 2.2.4).
abbrev pub subst_links : List Link → List Link → Template → Template
subst_links Zs Ys G = rename (assign Zs Ys) G

-- G⟨Y/X⟩ (004, definition 2.2.4, for one link; E6 in figure 2.4).
abbrev pub subst_link : Link → Link → Template → Template
subst_link Y X G = rename (update same X Y) G
