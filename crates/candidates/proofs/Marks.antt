-- A net's marks in arrays.
use Prim.Native.Nat.{ℕ}
use mathlib.Core.Path.{refl, subst}
use mathlib.Core.List.{List}
use native.Mathlib.Omega.{arith}
use lib.ListN.{get_or}
use Rattle.rows.specs.Limits.{sheet_link_limit}
use Rattle.rows.specs.declared.Sheet.{Sheet as NormalForm}
use Rattle.placing.specs.Net.{Range, Normal}
use Rattle.network.specs.NetIn.{net_in, Fit}
use Rattle.candidates.specs.Marks.{MarkLinks, MarksIn}

-- its own arrays
pub own-marks : (net : NormalForm) → Fit net → Normal (net_in net) → MarksIn net net.marks net.marked net.mark_count
own-marks net f n = record { count = refl; fit = f; normal = n; same-marks = refl; same-marked = refl }

pub mark-links : (net : NormalForm) (marks marked : List ℕ) (n : ℕ) → MarksIn net marks marked n → MarkLinks marked n
mark-links net marks marked n o = record {
  few = omega (arith, o.fit.mark-count, o.count);
  numbered = λ p h. let r = o.fit.marked p (omega (arith, h, o.count)) in subst (λ (l : List ℕ). Range sheet_link_limit (get_or l p 0)) o.same-marked (r.0, omega (arith, r.1, o.fit.class-count));
}
