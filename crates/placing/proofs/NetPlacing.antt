-- Theorem D on nets: fillings turn a normal pattern into a normal sheet exactly when some placing is good.
use mathlib.Core.Logic.{◌↔◌}
use mathlib.Core.List.{List}
use Rattle.hyperlmntal.specs.Congruence.{◌≅◌, ≅-sym, ≅-trans}
use Rattle.placing.specs.Net.{Net, net_term, Normal, NormalSheet, NormalPattern}
use Rattle.placing.specs.Placing.{Placing, Good}
use Rattle.placing.specs.Fillings.{Filling, Fits, fillings_of, normal_fillings_of}
use Rattle.placing.specs.Holding.{holding}
use Rattle.placing.proofs.Reduction.{holding-congruent}
use Rattle.placing.proofs.FillingsFit.{fillings-fit}
use Rattle.placing.proofs.PlacedAtoms.{placed-isomorphic}
use Rattle.placing.proofs.Origins.{Solution}
use Rattle.placing.proofs.Landing.{placing_of}
use Rattle.placing.proofs.OwnLinks.{good}
use Rattle.placing.proofs.NormalFillings.{normal-fit, normal-holding}

-- The fillings of a good placing fit, and the figure holding them is congruent to the sheet.
pub placing-fillings : (S F : Net) → NormalSheet S → NormalPattern F → (p : Placing) → Good S F p → Fits F (fillings_of S p F) × (holding F (fillings_of S p F) ≅ net_term S)
placing-fillings S F s f p g =
    let fit = fillings-fit S p F s.normal f.normal f.different g in (
      fit,
      (holding-congruent S F (fillings_of S p F) fit).1
          (placed-isomorphic (record { sheet = S; figure = F; placing = p; sheet-normal = s.normal; no-contexts = s.no-contexts; figure-normal = f.normal; numbers = f.from_one; apart = f.different; good = g })),
    )

-- So do the same fillings, each as normal text of its own.
pub placing-normal-fillings : (S F : Net) → NormalSheet S → NormalPattern F → (p : Placing) → Good S F p → Fits F (normal_fillings_of S p F) × (holding F (normal_fillings_of S p F) ≅ net_term S)
placing-normal-fillings S F s f p g =
    let t = placing-fillings S F s f p g in
    (normal-fit F (fillings_of S p F) t.0, ≅-trans (≅-sym (normal-holding F (fillings_of S p F) t.0 (net_term F))) t.1)

-- Fillings of any size that fit, and with which the figure is congruent to the sheet, give a good placing. Here several blanks may
-- have one number.
pub fillings-placing : (S F : Net) → NormalSheet S → Normal F → (θ : List Filling) → Fits F θ → holding F θ ≅ net_term S → (p : Placing) × Good S F p
fillings-placing S F s f θ fit e =
    let C : Solution = record { sheet = S; figure = F; fillings = θ; sheet-normal = s.normal; no-contexts = s.no-contexts; figure-normal = f; fits = fit; same = (holding-congruent S F θ fit).0 e } in
    (placing_of C, good C)

-- Theorem D: a figure can be filled to a sheet exactly when some placing is good.
pub fillings-iff-placing : (S F : Net) → NormalSheet S → NormalPattern F → ((θ : List Filling) × Fits F θ × (holding F θ ≅ net_term S)) ↔ ((p : Placing) × Good S F p)
fillings-iff-placing S F s f =
    (λ t. fillings-placing S F s f.normal t.0 t.1 t.2, λ t. let u = placing-fillings S F s f t.0 t.1 in (fillings_of S t.0 F, u.0, u.1))
