-- Terms: graphs and templates, and their free link names.
use Rattle.std.specs.Prelude.{List, [], ◌∷◌, ◌++◌, ℕ}
use Rattle.hyperlmntal.specs.Link.{Link, ◌≟◌, select}

-- Graphs (001; 004, figure 2.1) and, with graph contexts x[X⃗], templates (001; 004, figure 3.8); a context is a blank of a figure.
pub data Template : Type 0 where
  null : Template
  atom : ℕ → List Link → Template
  fusion : Link → Link → Template
  molecule : Template → Template → Template
  ν : Link → Template → Template
  context : ℕ → List Link → Template

-- A graph is a template without graph contexts (004, figure 2.1).
abbrev pub Graph : Template → Type 0
Graph null = Unit {0}
Graph (atom p Xs) = Unit {0}
Graph (fusion X Y) = Unit {0}
Graph (molecule G H) = Graph G × Graph H
Graph (ν X G) = Graph G
Graph (context x Xs) = ⊥

-- The links of a list other than X (fn(G) \ {X} in 004, figure 2.2).
abbrev pub without : Link → List Link → List Link
without X [] = []
without X (Y ∷ l) = select (Y ≟ X) (without X l) (Y ∷ without X l)

-- Free link names (004, figure 2.2; those of a context are its links).
abbrev pub fn : Template → List Link
fn null = []
fn (atom p Xs) = Xs
fn (fusion X Y) = X ∷ Y ∷ []
fn (molecule G H) = fn G ++ fn H
fn (ν X G) = without X (fn G)
fn (context x Xs) = Xs
