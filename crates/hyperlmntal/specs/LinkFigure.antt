-- Link substitution as figure 2.3 of 004 derives it: a second definition, which `subst_links` is held to.
use Rattle.std.specs.Prelude.{◌≡◌, List, [], ◌∷◌, ◌++◌, map, ℕ, length}
use Rattle.hyperlmntal.specs.Link.{Link, ◌∈◌}
use Rattle.hyperlmntal.specs.Template.{Template, null, atom, fusion, molecule, ν, context, fn}
use Rattle.hyperlmntal.specs.LinkSubstitution.{assign}

-- G⟨Z⃗/Y⃗⟩ = H (004, figure 2.3), with the two conditions that it leaves out: X ∉ Z⃗' in `bound`, W ∉ Y⃗ in `fresh-bound`.
-- `fresh-bound` asks for none of X ∉ Y⃗, X ∈ Z⃗, W ≠ X: a bound link may be renamed wherever 004 wants α-conversion.
pub data Figure : List Link → List Link → Template → Template → Type 0 where
  of-null : {Zs Ys : List Link} → Figure Zs Ys null null
  of-atom : {Zs Ys : List Link} {p : ℕ} {Xs : List Link} → Figure Zs Ys (atom p Xs) (atom p (map (assign Zs Ys) Xs))
  of-fusion : {Zs Ys : List Link} {X Y : Link} → Figure Zs Ys (fusion X Y) (fusion (assign Zs Ys X) (assign Zs Ys Y))
  of-context : {Zs Ys : List Link} {x : ℕ} {Xs : List Link} → Figure Zs Ys (context x Xs) (context x (map (assign Zs Ys) Xs))
  of-molecule : {Zs Ys : List Link} {G H G' H' : Template} → Figure Zs Ys G G' → Figure Zs Ys H H' → Figure Zs Ys (molecule G H) (molecule G' H')
  bound : (Zs Zs' Ys Ys' : List Link) (Z : Link) {X : Link} {G H : Template} → length Zs ≡ length Ys → ¬ (X ∈ Ys ++ Ys') → ¬ (X ∈ Zs ++ Zs') → Figure (Zs ++ Zs') (Ys ++ Ys') G H → Figure (Zs ++ (Z ∷ Zs')) (Ys ++ (X ∷ Ys')) (ν X G) (ν X H)
  kept : {Zs Ys : List Link} {X : Link} {G H : Template} → ¬ (X ∈ Ys) → ¬ (X ∈ Zs) → Figure Zs Ys G H → Figure Zs Ys (ν X G) (ν X H)
  fresh-bound : {Zs Ys : List Link} {X W : Link} {G K H : Template} → ¬ (W ∈ fn G) → ¬ (W ∈ Zs) → ¬ (W ∈ Ys) → Figure (W ∷ []) (X ∷ []) G K → Figure Zs Ys K H → Figure Zs Ys (ν X G) (ν W H)
