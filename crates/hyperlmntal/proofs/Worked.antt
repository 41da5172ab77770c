-- Terms of 001 and 004 and the first starred cases of document 01: what is congruent, and what is not.
use mathlib.Core.Path.{◌≡◌, refl}
use mathlib.Core.Logic.{inl, inr}
use mathlib.Core.List.Memᴰ
use mathlib.Core.List.{List, [], ◌∷◌}
use Prim.Native.Nat.{ℕ}
use Rattle.hyperlmntal.specs.Link.{Link, local, free, ◌≟◌, ◌∈◌, member}
use Rattle.hyperlmntal.specs.Template.{Template, null, atom, fusion, molecule, ν, context}
use Rattle.hyperlmntal.specs.LinkSubstitution.{update, avoid, fresh, assign}
use Rattle.hyperlmntal.specs.Congruence.{◌≅◌, ≅-sym, ≅-trans, E2, E4, E5, E6, E7, E9}
use Rattle.hyperlmntal.specs.GraphSubstitution.{same_functor, substitute}
use Rattle.hyperlmntal.proofs.Derived.{E4-right, ν-unused, E10-right, fusion-absorbed}
use Rattle.hyperlmntal.proofs.Thesis.{alpha-conversion, fusion-renames, fusion-contraction}
use Rattle.hyperlmntal.proofs.TellApart.{No, fails, some-dec, same-node, root, linked, label-dec, leads-dec, apart-names, apart-links, apart-vertices, apart-count}

-- Atom names, with the numbers of document 01's sheets.
abbrev cons : ℕ
cons = 10

abbrev nil : ℕ
nil = 11

abbrev one : ℕ
one = 21

abbrev two : ℕ
two = 22

abbrev leaf : ℕ
leaf = 30

abbrev nought : ℕ
nought = 31

-- Free links.
abbrev X : Link
X = free 0

abbrev Y : Link
Y = free 1

abbrev L : Link
L = free 2

abbrev R : Link
R = free 3

-- Links to bind.
abbrev W : Link
W = local 0

abbrev Z : Link
Z = local 1

abbrev Z₁ : Link
Z₁ = local 2

abbrev Z₂ : Link
Z₂ = local 3

-- νA.(Cons(A, B, C), p(A)), that is Cons(p, B, C): a list of one element p.
abbrev single : ℕ → Link → Link → Link → Template
single p A B C = ν A (molecule (atom cons (A ∷ B ∷ C ∷ [])) (atom p (A ∷ [])))

-- νZ.(νZ₁.(Cons(Z₁, Z, X), p(Z₁)), νZ₂.(Cons(Z₂, Y, Z), q(Z₂))), that is Cons(p, Cons(q, Y), X).
abbrev pair : ℕ → ℕ → Template
pair p q = ν Z (molecule (single p Z₁ Z X) (single q Z₂ Y Z))

-- νWZ.(G, Cons(Z, Y, W), H).
abbrev popping : Template → Template → Template
popping G H = ν W (ν Z (molecule G (molecule (atom cons (Z ∷ Y ∷ W ∷ [])) H)))

-- νWZ.(Cons(Z, A, B), 1(Z)).
abbrev lone : Link → Link → Template
lone A B = ν W (ν Z (molecule (atom cons (Z ∷ A ∷ B ∷ [])) (atom one (Z ∷ []))))

-- The pattern νWZ.(y[W, X], Cons(Z, Y, W), z[Z]) with G for y[W, X] and H for z[Z].
abbrev matched : Template → Template → Template
matched G H = substitute (record { number = 1; ports = W ∷ X ∷ []; body = G } ∷ record { number = 2; ports = Z ∷ []; body = H } ∷ []) (popping (context 1 (W ∷ X ∷ [])) (context 2 (Z ∷ [])))

-- Cons(1, y[Y], X) with G for y[Y, X].
abbrev appended : Template → Template
appended G = substitute (record { number = 1; ports = Y ∷ X ∷ []; body = G } ∷ []) (ν Z (molecule (single one Z₁ Z X) (context 1 (Y ∷ Z ∷ []))))

-- νW.(Leaf(W, A, R), Zero(W)), that is Leaf(Zero, A, R).
abbrev leaf_of : Link → Template
leaf_of A = ν W (molecule (atom leaf (W ∷ A ∷ R ∷ [])) (atom nought (W ∷ [])))

pub record Worked : Type 0 where
  -- 001, structural congruence, by E2, E4 and E5. Not with 1 and 2 exchanged.
  pub reordered : pair one two ≅ ν Z (molecule (ν Z₁ (molecule (atom one (Z₁ ∷ [])) (atom cons (Z₁ ∷ Z ∷ X ∷ [])))) (single two Z₂ Y Z))
  pub exchanged : ¬ (pair one two ≅ pair two one)
  -- 004, examples 2.2.1 and 2.3.2: νY.(Cons(Y, X), Nil(Y)), whatever its local link and the order. Not with the links of Cons exchanged.
  pub listed : ν Y (molecule (atom cons (Y ∷ X ∷ [])) (atom nil (Y ∷ []))) ≅ ν Z (molecule (atom nil (Z ∷ [])) (atom cons (Z ∷ X ∷ [])))
  pub listed-turned : ¬ (ν Y (molecule (atom cons (Y ∷ X ∷ [])) (atom nil (Y ∷ []))) ≅ ν Y (molecule (atom cons (X ∷ Y ∷ [])) (atom nil (Y ∷ []))))
  -- 001, fusion: νWZ.(W ⋈ X, Cons(Z, Y, W), 1(Z)) is νWZ.(Cons(Z, Y, X), 1(Z)). Not with Y for X, nor with Y and X exchanged.
  pub fused : popping (fusion W X) (atom one (Z ∷ [])) ≅ lone Y X
  pub fused-other : ¬ (popping (fusion W X) (atom one (Z ∷ [])) ≅ lone Y Y)
  pub fused-turned : ¬ (popping (fusion W X) (atom one (Z ∷ [])) ≅ lone X Y)
  -- 001, pattern matching: Cons(1, Cons(2, Y), X) matches with Cons(1, W, X) for y[W, X] and 2(Z) for z[Z]. Not with 1 and 2 exchanged.
  pub found : pair one two ≅ matched (single one Z₁ W X) (atom two (Z ∷ []))
  pub found-exchanged : ¬ (pair one two ≅ matched (single two Z₁ W X) (atom one (Z ∷ [])))
  -- 001, the corner case: Cons(1, Y, X) matches with the supplied fusion W ⋈ X for y[W, X]; 001's own middle line, which has X in
  -- Cons, is congruent too. Not with nothing for y[W, X].
  pub supplied : matched (fusion W X) (atom one (Z ∷ [])) ≡ popping (fusion W X) (atom one (Z ∷ []))
  pub supplied-free : lone Y X ≅ ν W (ν Z (molecule (fusion W X) (molecule (atom cons (Z ∷ Y ∷ X ∷ [])) (atom one (Z ∷ [])))))
  pub corner : lone Y X ≅ matched (fusion W X) (atom one (Z ∷ []))
  pub corner-empty : ¬ (lone Y X ≅ matched null (atom one (Z ∷ [])))
  -- 001, β-reduction: Cons(1, y[Y], X) with Cons(2, Y, X) for y[Y, X] is Cons(1, Cons(2, Y), X), not Cons(2, Cons(1, Y), X).
  pub joined : appended (single two Z₂ Y X) ≡ pair one two
  pub joined-exchanged : ¬ (appended (single two Z₂ Y X) ≅ pair two one)
  -- The same where Z is bound in the filling too: nothing is captured.
  pub uncaught : appended (single two Z Y X) ≅ pair one two
  pub captured : ¬ (appended (single two Z Y X) ≅ ν Z (molecule (single one Z₁ Z X) (single two Z Y Z)))
  -- 001, graph substitution: null for y[X] fills y[Y]. It fills no y[X, Y] and no z[X].
  pub filled : substitute (record { number = 1; ports = X ∷ []; body = null } ∷ []) (context 1 (Y ∷ [])) ≡ null
  pub unfilled : ¬ (substitute (record { number = 1; ports = X ∷ []; body = null } ∷ []) (context 1 (X ∷ Y ∷ [])) ≅ null)
  pub unfilled-other : ¬ (substitute (record { number = 1; ports = X ∷ []; body = null } ∷ []) (context 2 (X ∷ [])) ≅ null)
  -- A context is no atom.
  pub context-not-atom : ¬ (atom one (X ∷ []) ≅ context one (X ∷ []))
  -- E7: a closed fusion vanishes. One that is not closed stays, even of a link with itself.
  pub closed : ν X (ν Y (fusion X Y)) ≅ null
  pub half-closed : ¬ (ν X (fusion X Y) ≅ null)
  pub loop : ¬ (fusion X X ≅ null)
  -- 004, at theorem 2.2.3: (X ⋈ L, Leaf(Zero, X, R)) is (X ⋈ L, Leaf(Zero, L, R)). Not without the fusion.
  pub renamed : molecule (fusion X L) (leaf_of X) ≅ molecule (fusion X L) (leaf_of L)
  pub unrenamed : ¬ (leaf_of X ≅ leaf_of L)
  -- 004, at theorem 2.2.5: fusions are a set, atoms are not.
  pub fusion-twice : fusion X Y ≅ molecule (fusion X Y) (fusion X Y)
  pub atom-twice : ¬ (atom one (X ∷ []) ≅ molecule (atom one (X ∷ [])) (atom one (X ∷ [])))
  -- Document 01: `F 1 1` is the empty sheet. `E 1 5` is not, but the mark alone.
  pub F11 : ν (local 1) (fusion (local 1) (local 1)) ≅ null
  pub E15 : ¬ (ν (local 1) (fusion (local 1) (free 5)) ≅ null)
  pub E15-free : ν (local 1) (fusion (local 1) (free 5)) ≅ fusion (free 5) (free 5)
  -- Document 01: `E 1 5`, `E 1 6` connects the marks. `E 1 5`, `E 2 6` does not.
  pub E15-E16 : ν (local 1) (molecule (fusion (local 1) (free 5)) (fusion (local 1) (free 6))) ≅ fusion (free 5) (free 6)
  pub E15-E26 : ¬ (ν (local 1) (molecule (fusion (local 1) (free 5)) (fusion (local 1) (free 6))) ≅ ν (local 1) (ν (local 2) (molecule (fusion (local 1) (free 5)) (fusion (local 2) (free 6)))))

-- Not free, by computing.
off : {A : Link} {l : List Link} → No (member A l) → ¬ (A ∈ l)
off {A} {l} n = fails (member A l) n

pub worked : Worked
unfolding same_functor update assign avoid fresh member ◌≟◌ some-dec same-node root linked label-dec leads-dec mathlib.Core.Logic.Dec.and native.Mathlib.Decide.ℕ_discrete
worked = record {
  reordered = E5 (E4 (E5 E2));
  exchanged = apart-vertices X 2 cons 0 one 0 tt tt;
  listed = ≅-trans (alpha-conversion Y Z (molecule (atom cons (Y ∷ X ∷ [])) (atom nil (Y ∷ []))) (off tt)) (E5 E2);
  listed-turned = apart-vertices X 1 cons 0 nil 0 tt tt;
  fused = absorbed;
  fused-other = apart-names X tt tt;
  fused-turned = apart-vertices X 2 cons 0 one 0 tt tt;
  found = ≅-trans (alpha-conversion Z W (molecule (single one Z₁ Z X) (single two Z₂ Y Z)) (off tt)) (E5 (≅-trans (E4-right (alpha-conversion Z₂ Z (molecule (atom cons (Z₂ ∷ Y ∷ W ∷ [])) (atom two (Z₂ ∷ []))) (off tt))) (≅-sym (E10-right (off tt)))));
  found-exchanged = apart-vertices X 2 cons 0 one 0 tt tt;
  supplied = refl;
  supplied-free = ≅-trans E9 (≅-trans (E5 (≅-sym (E6 {X = W} {Y = X} {G = molecule (atom cons (Z ∷ Y ∷ X ∷ [])) (atom one (Z ∷ []))} (inr (Memᴰ.tail (Memᴰ.tail (Memᴰ.head refl))))))) E9);
  corner = ≅-sym absorbed;
  corner-empty = apart-names X tt tt;
  joined = refl;
  joined-exchanged = apart-vertices X 2 cons 0 one 0 tt tt;
  uncaught = E5 (E4-right (alpha-conversion Z₁ Z₂ (molecule (atom cons (Z₁ ∷ Y ∷ Z ∷ [])) (atom two (Z₁ ∷ []))) (off tt)));
  captured = apart-vertices X 2 cons 1 cons 2 tt tt;
  filled = refl;
  unfilled = apart-names X tt tt;
  unfilled-other = apart-names X tt tt;
  context-not-atom = apart-vertices X 0 one 0 one 0 tt tt;
  closed = E7;
  half-closed = apart-names Y tt tt;
  loop = apart-names X tt tt;
  renamed = fusion-renames X L Z (leaf_of Z);
  unrenamed = apart-names X tt tt;
  fusion-twice = fusion-contraction X Y;
  atom-twice = apart-count tt;
  F11 = ≅-trans (≅-sym (ν-unused (local 1) (ν (local 1) (fusion (local 1) (local 1))) (off tt))) E7;
  E15 = apart-names (free 5) tt tt;
  E15-free = ≅-trans (E5 (fusion-contraction (local 1) (free 5))) (fusion-absorbed (local 1) (free 5) (fusion (local 1) (free 5)) (fails (local 1 ≟ free 5) tt) (inl (Memᴰ.head refl)));
  E15-E16 = fusion-absorbed (local 1) (free 5) (fusion (local 1) (free 6)) (fails (local 1 ≟ free 5) tt) (inl (Memᴰ.head refl));
  E15-E26 = apart-links (free 5) (free 6) tt tt;
}
  where
    absorbed : popping (fusion W X) (atom one (Z ∷ [])) ≅ lone Y X
    absorbed = ≅-trans E9 (≅-trans (E5 (E6 (inl (Memᴰ.tail (Memᴰ.tail (Memᴰ.head refl)))))) E9)
