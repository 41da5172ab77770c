-- What this crate is for, in one place and in reading order; each proof names the module that has it.
use mathlib.Core.Path.{◌≡◌}
use mathlib.Core.Logic.{◌↔◌}
use mathlib.Core.List.{List}
use Prim.Native.Nat.{ℕ}
use Rattle.hyperlmntal.specs.Link.{Link, ◌∈◌}
use Rattle.hyperlmntal.specs.Template.{Template, null, fusion, molecule, ν, fn}
use Rattle.hyperlmntal.specs.LinkSubstitution.{rename, subst_links, subst_link}
use Rattle.hyperlmntal.specs.LinkFigure.{Figure}
use Rattle.hyperlmntal.specs.Congruence.{◌≅◌}
use Rattle.hyperlmntal.specs.GraphSubstitution.{Substitution, AllExact, AllCongruent, substitute}
use Rattle.hyperlmntal.specs.Hypergraph.{Flat, name, nodes, map_flat, rename_node, flat}
use Rattle.hyperlmntal.specs.Numbered.{flat_n}
use Rattle.hyperlmntal.specs.Isomorphism.{Isomorphic}
use Rattle.hyperlmntal.specs.DenotedSubstitution.{fill_flat, denoted_all, denoted_all_n}
use Rattle.hyperlmntal.specs.TermOf.{term_of, Marked}
use Rattle.hyperlmntal.proofs.Thesis as Thesis
use Rattle.hyperlmntal.proofs.LinkFigure as LinkFigure
use Rattle.hyperlmntal.proofs.FreeNames as FreeNames
use Rattle.hyperlmntal.proofs.CongruentNames as CongruentNames
use Rattle.hyperlmntal.proofs.Soundness as Soundness
use Rattle.hyperlmntal.proofs.Completeness as Completeness
use Rattle.hyperlmntal.proofs.Numbering as Numbering
use Rattle.hyperlmntal.proofs.Substitution as Substitution
use Rattle.hyperlmntal.proofs.ExactPorts as ExactPorts
use Rattle.hyperlmntal.proofs.CongruentSubstitution as CongruentSubstitution
use Rattle.hyperlmntal.proofs.Denoting as Denoting

-- H1: congruent terms denote isomorphic hypergraphs (004, theorem 2.5.2).
pub congruent-isomorphic : {G H : Template} → G ≅ H → Isomorphic (flat G) (flat H)
congruent-isomorphic e = Soundness.congruent-isomorphic e

-- H2: terms that denote isomorphic hypergraphs are congruent; 004, section 2.7, leaves it open.
pub isomorphic-congruent : {G H : Template} → Isomorphic (flat G) (flat H) → G ≅ H
isomorphic-congruent i = Completeness.isomorphic-congruent i

-- H1 and H2: congruence of terms is isomorphism of the hypergraphs that they denote.
pub congruent-iff-isomorphic : {G H : Template} → (G ≅ H) ↔ Isomorphic (flat G) (flat H)
congruent-iff-isomorphic = Completeness.congruent-iff-isomorphic

-- H3: a template under a graph substitution denotes its hypergraph filled with those of the fillings.
pub flat-substitution : (θ : Substitution) (T : Template) → Isomorphic (flat (substitute θ T)) (fill_flat (denoted_all θ) (flat T))
flat-substitution θ T = Substitution.flat-substitution θ T

-- H3 for exact fillings, with numbered local links.
pub flat_n-substitution : (θ : Substitution) → AllExact θ → (T : Template) → Isomorphic (flat_n (substitute θ T)) (fill_flat (denoted_all_n θ) (flat_n T))
flat_n-substitution θ exact T = ExactPorts.flat_n-substitution θ exact T

-- Graph substitution with exact fillings respects congruence of templates.
pub substitute-congruent : (θ : Substitution) → AllExact θ → {T U : Template} → T ≅ U → substitute θ T ≅ substitute θ U
substitute-congruent θ exact e = CongruentSubstitution.substitute-congruent θ exact e

-- It respects congruence of the fillings too.
pub fillings-congruent : (θ η : Substitution) → AllExact θ → AllCongruent θ η → {T U : Template} → T ≅ U → substitute θ T ≅ substitute η U
fillings-congruent θ η exact c e = CongruentSubstitution.fillings-congruent θ η exact c e

-- 004, theorem 2.2.1: fusions are symmetric.
pub fusion-symmetric : (X Y : Link) → fusion X Y ≅ fusion Y X
fusion-symmetric X Y = Thesis.fusion-symmetric X Y

-- 004, theorem 2.2.2: α-conversion.
pub alpha-conversion : (X Y : Link) (G : Template) → ¬ (Y ∈ fn G) → ν X G ≅ ν Y (subst_link Y X G)
alpha-conversion X Y G n = Thesis.alpha-conversion X Y G n

-- 004, theorem 2.2.3: a fusion renames free links.
pub fusion-renames : (X Y Z : Link) (G : Template) → molecule (fusion X Y) (subst_link X Z G) ≅ molecule (fusion X Y) (subst_link Y Z G)
fusion-renames X Y Z G = Thesis.fusion-renames X Y Z G

-- 004, theorem 2.2.4: fusions are reflexive.
pub fusion-reflexive : (X : Link) (G : Template) → X ∈ fn G → G ≅ molecule (fusion X X) G
fusion-reflexive X G m = Thesis.fusion-reflexive X G m

-- 004, theorem 2.2.5: the same fusion twice is that fusion.
pub fusion-contraction : (X Y : Link) → fusion X Y ≅ molecule (fusion X Y) (fusion X Y)
fusion-contraction X Y = Thesis.fusion-contraction X Y

-- 004, theorem 2.2.6: fusions are transitive.
pub fusion-transitive : (X Y Z : Link) → molecule (fusion X Y) (fusion Y Z) ≅ molecule (fusion X Z) (molecule (fusion X Y) (fusion Y Z))
fusion-transitive X Y Z = Thesis.fusion-transitive X Y Z

-- All that figure 2.3 of 004 derives, with the side conditions that it leaves out, is congruent to link substitution as defined.
pub figure : {Zs Ys : List Link} {G H : Template} → Figure Zs Ys G H → subst_links Zs Ys G ≅ H
figure d = LinkFigure.figure d

-- The figure derives a result for every template and all links.
pub figure-derives : (Zs Ys : List Link) (G : Template) → (H : Template) × Figure Zs Ys G H
figure-derives Zs Ys G = LinkFigure.figure-derives Zs Ys G

-- Link substitution respects congruence.
pub subst_links-congruent : (Zs Ys : List Link) {G H : Template} → G ≅ H → subst_links Zs Ys G ≅ subst_links Zs Ys H
subst_links-congruent Zs Ys e = LinkFigure.subst_links-congruent Zs Ys e

-- Congruent terms have the same free link names.
pub congruent-free-names : {G H : Template} → G ≅ H → (X : Link) → (X ∈ fn G) ↔ (X ∈ fn H)
congruent-free-names e X = CongruentNames.congruent-free-names e X

-- A fusion of a free link with itself is not null, nor is any other fusion of free links.
pub fusion-not-null : (X Y : Link) → ¬ (fusion X Y ≅ null)
fusion-not-null X Y = CongruentNames.fusion-not-null X Y

-- A term has the free link names of its hypergraph.
pub flat-names : (G : Template) (X : Link) → (X ∈ fn G) ↔ (name X ∈ nodes (flat G))
flat-names G X = FreeNames.flat-names G X

-- Renaming a term renames the free link names of its hypergraph (004, theorem 2.4.16).
pub flat-rename : (σ : Link → Link) (G : Template) → flat (rename σ G) ≡ map_flat (rename_node σ) (flat G)
flat-rename σ G = FreeNames.flat-rename σ G

-- Graph substitution with exact fillings keeps the free link names.
pub substitute-free-names : (θ : Substitution) → AllExact θ → (T : Template) (X : Link) → (X ∈ fn (substitute θ T)) ↔ (X ∈ fn T)
substitute-free-names θ exact T X = ExactPorts.substitute-free-names θ exact T X

-- Numbers or places for local links make no difference.
pub numbered-isomorphic : (G : Template) → Isomorphic (flat G) (flat_n G)
numbered-isomorphic G = Numbering.numbered-isomorphic G

-- The term of a hypergraph denotes it.
pub term_of-isomorphic : (F : Flat ℕ) → Marked F → Isomorphic F (flat (term_of F))
term_of-isomorphic F marked = Denoting.term_of-isomorphic F marked

-- Hypergraphs are isomorphic exactly when their terms are congruent (004, section 2.7, step 1, both ways).
pub terms-congruent : (F K : Flat ℕ) → Marked F → Marked K → Isomorphic F K ↔ (term_of F ≅ term_of K)
terms-congruent F K f k = Denoting.terms-congruent F K f k

-- From a term to its hypergraph and back is a congruent term (004, section 2.7, step 2).
pub term_of-flat_n : (G : Template) → Marked (flat_n G) → term_of (flat_n G) ≅ G
term_of-flat_n G marked = Denoting.term_of-flat_n G marked
