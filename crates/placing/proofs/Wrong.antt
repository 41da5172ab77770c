-- The wrong notions of Wrong, with the one change undone, are the product's.
use mathlib.Core.Path.{◌≡◌, refl}
use mathlib.Core.Logic.{◌↔◌}
use Rattle.placing.specs.Net.{Net}
use Rattle.placing.specs.Placing.{Placing, SameMarks, Inside, Good}
use Rattle.placing.specs.Fillings.{port_rows, fillings_of}
use Rattle.placing.specs.Wrong.{GoodBy, SharingLinked, OwnOr, fillings_by}

module _ (S F : Net) (p : Placing) where
  -- With the conditions of Good it is Good.
  pub good-by : GoodBy S F p (SameMarks S F p) (SharingLinked S F p) (OwnOr S F p (Inside S F p)) ↔ Good S F p
  good-by =
      (λ g. record { sending = g.sending; across = g.across; same-marks = g.same-marks; linked = g.linked; own-links = g.own-links }, λ g. record { sending = g.sending; across = g.across; same-marks = g.same-marks; linked = g.linked; own-links = g.own-links })

-- With the product's own rows for the ports the fillings are the product's.
pub fillings-by : (S : Net) (p : Placing) (F : Net) → fillings_by S p (port_rows S p) F ≡ fillings_of S p F
fillings-by S p F = refl
