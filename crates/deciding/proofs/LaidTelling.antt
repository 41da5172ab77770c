-- What atoms that are laid out say of the figure links, for every sheet and figure whose atoms they are.
use Prim.Native.Nat.{ℕ, ◌+◌, ◌-◌, ◌<◌}
use mathlib.Core.Path.{◌≡◌, ◌∙◌, subst}
use mathlib.Core.Logic.{◌≢◌}
use mathlib.Core.List.{List}
use native.Mathlib.Omega.{arith}
use lib.ListN.{take, get_or}
use Rattle.rows.specs.declared.Atom.{Atom}
use Rattle.rows.specs.declared.Sheet as form
use Rattle.network.specs.NetIn.{net_in, atom_at}
use Rattle.network.specs.Ready.{Ready, AtomsIn}
use Rattle.candidates.specs.Laid.{laid_atom, LaidOut}
use Rattle.completing.specs.Leaf.{NoneWith}
use Rattle.deciding.specs.Links.{PlacesIn, Clash, Told}
use Rattle.deciding.specs.Agrees.{AtomsAgreeTo}
use Rattle.deciding.proofs.Telling.{good-name, good-count, told-next, clash-none, agree-next}

-- what the first i atoms say
abbrev pub Said : List ℕ → List ℕ → ℕ → List ℕ → List ℕ → List ℕ → ℕ → Type 0
Said laid parts m atoms before to i = (sheet figure : form.Sheet) → LaidOut sheet laid sheet.atom_count → LaidOut figure parts m → AtomsIn sheet figure.atom_count atoms → Told sheet figure atoms before → Told sheet figure atoms to × AtomsAgreeTo sheet figure atoms to i

-- x is figure atom i, and y the sheet atom it goes to
module _ (laid parts : List ℕ) (m : ℕ) (atoms : List ℕ) (i : ℕ) (less : i < m) (x y : Atom) (mine : x ≡ laid_atom parts i) (there : y ≡ laid_atom laid (get_or atoms i 0 - 1)) where
  module _ (sheet figure : form.Sheet) (os : LaidOut sheet laid sheet.atom_count) (of : LaidOut figure parts m) (a : AtomsIn sheet figure.atom_count atoms) where
    ready : Ready sheet figure
    ready = record { sheet-fit = os.fit; figure-fit = of.fit; sheet-normal = os.normal; figure-normal = of.normal }

    few : i < figure.atom_count
    few = omega (arith, less, of.count)

    -- of the rows, so of the atoms
    of-atoms : (P : Atom → Atom → Type 0) → P x y → P (atom_at figure i) (atom_at sheet (get_or atoms i 0 - 1))
    of-atoms P p = subst (λ (w : Atom). P w (atom_at sheet (get_or atoms i 0 - 1))) (mine ∙ of.atoms i less) (subst (P x) (there ∙ os.atoms (get_or atoms i 0 - 1) (omega (arith, a.within i few))) p)

    pub laid-name : x.name ≢ y.name → NoneWith (net_in sheet) (net_in figure) (take figure.atom_count atoms)
    laid-name d = good-name sheet figure ready atoms a i few (of-atoms (λ (v w : Atom). v.name ≢ w.name) d)

    pub laid-count : x.count ≢ y.count → NoneWith (net_in sheet) (net_in figure) (take figure.atom_count atoms)
    laid-count d = good-count sheet figure ready atoms a i few (of-atoms (λ (v w : Atom). v.count ≢ w.count) d)

    module _ (same : x.count ≡ y.count) (to : List ℕ) (t : Told sheet figure atoms to) where
      counts : (atom_at figure i).count ≡ (atom_at sheet (get_or atoms i 0 - 1)).count
      counts = of-atoms (λ (v w : Atom). v.count ≡ w.count) same

      pub laid-clash : Clash to x.links y.links x.count → NoneWith (net_in sheet) (net_in figure) (take figure.atom_count atoms)
      laid-clash c = clash-none sheet figure ready atoms a i few counts to t (of-atoms (λ (v w : Atom). Clash to v.links w.links v.count) c)

      laid_next : x.name ≡ y.name → (r : List ℕ) → PlacesIn to x.links y.links x.count r → AtomsAgreeTo sheet figure atoms to i → Told sheet figure atoms r × AtomsAgreeTo sheet figure atoms r (i + 1)
      laid_next name r p w = let q = of-atoms (λ (v u : Atom). PlacesIn to v.links u.links v.count r) p in
          (told-next sheet figure ready atoms a i few counts to t r q, agree-next sheet figure ready atoms a i few to r w (of-atoms (λ (v u : Atom). v.name ≡ u.name) name) counts q)

  pub said-next : (before to r : List ℕ) → x.name ≡ y.name → x.count ≡ y.count → PlacesIn to x.links y.links x.count r → Said laid parts m atoms before to i → Said laid parts m atoms before r (i + 1)
  said-next before to r name same p s sheet figure os of a b = let w = s sheet figure os of a b in
      laid_next sheet figure os of a same to w.0 name r p w.1
