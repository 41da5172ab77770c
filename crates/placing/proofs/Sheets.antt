-- Two sheets: a figure without contexts. A good placing of it in a sheet is then there exactly when the two are the same.
use mathlib.Core.Path.{◌≡◌, sym, ap, subst}
use mathlib.Core.Logic.{◌↔◌}
use mathlib.Core.List.Memᴰ
use mathlib.Core.List.{[], map}
use Rattle.hyperlmntal.specs.Congruence.{◌≅◌}
use Rattle.hyperlmntal.specs.Link.{◌∈◌}
use Rattle.hyperlmntal.proofs.SubstitutionLaws.{substitute-nothing}
use Rattle.placing.specs.Net.{NetCell, Net, net_term, Apart, NormalSheet, NormalPattern}
use Rattle.placing.specs.Placing.{Placing, Good}
use Rattle.placing.specs.Fillings.{Fits, by_number, filling_for, fillings_of}
use Rattle.placing.specs.Holding.{holding}
use Rattle.placing.proofs.NetPlacing.{placing-fillings, fillings-placing}

none_in : (F : Net) → F.contexts ≡ [] → (c : NetCell) → ¬ (c ∈ F.contexts)
none_in F e c m = Memᴰ.not-nil (subst (λ l. c ∈ l) e m)

-- A sheet is a pattern without blanks,
pub sheet-pattern : (F : Net) → NormalSheet F → NormalPattern F
sheet-pattern F f = record { normal = f.normal; from_one = λ c m. absurd (none_in F f.no-contexts c m); different = subst Apart (sym f.no-contexts) tt }

-- the empty list of fillings fits it,
pub fits-nothing : (F : Net) → F.contexts ≡ [] → Fits F []
fits-nothing F e = record { for-each = λ c m. absurd (none_in F e c m); one = λ f g m. absurd (Memᴰ.not-nil m); exact = λ f m. absurd (Memᴰ.not-nil m); from_one = λ f m. absurd (Memᴰ.not-nil m) }

-- and every placing gives that list.
pub fillings-nothing : (S F : Net) (p : Placing) → F.contexts ≡ [] → fillings_of S p F ≡ []
unfolding by_number
fillings-nothing S F p e = ap (λ l. map (filling_for S p) (by_number l)) e

pub holding-nothing : (F : Net) → holding F [] ≡ net_term F
holding-nothing F = substitute-nothing (net_term F)

-- Some placing of one sheet in another is good exactly when the two are congruent.
pub sheets-placing : (S F : Net) → NormalSheet S → NormalSheet F → ((p : Placing) × Good S F p) ↔ (net_term F ≅ net_term S)
sheets-placing S F s f = (onward, λ e. fillings-placing S F s f.normal [] (fits-nothing F f.no-contexts) (subst (λ T. T ≅ net_term S) (sym (holding-nothing F)) e))
  where
    onward : (p : Placing) × Good S F p → net_term F ≅ net_term S
    onward t =
        let u = placing-fillings S F s (sheet-pattern F f) t.0 t.1 in
        subst (λ T. T ≅ net_term S) (holding-nothing F) (subst (λ θ. holding F θ ≅ net_term S) (fillings-nothing S F t.0 f.no-contexts) u.1)
