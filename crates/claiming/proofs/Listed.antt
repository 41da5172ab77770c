-- A figure filled from a list that has a filling for each of its contexts.
use Prim.Native.Nat.{ℕ, suc}
use mathlib.Core.Path.{◌≡◌}
use mathlib.Core.List.Memᴰ
use mathlib.Core.List.{List, [], ◌∷◌}
use Rattle.rows.specs.Packed.{ports_of}
use Rattle.rows.specs.declared.Context.{Context}
use Rattle.reading.specs.Graph.{graph_of}
use Rattle.sheet.specs.Reading.{no_ports}
use Rattle.sheet.specs.declared.kind.Kind.TheVariants.{Figure}
use Rattle.sheet.specs.HeldLimits.{Every}
use Rattle.sheet.proofs.read.HeldLimits.{held-within}
use Rattle.placing.specs.Filled.{filled_graph}
use Rattle.filling.specs.Read.{list_held, filling_read, fillings_read}
use Rattle.filling.specs.Fill.{figure_held, first_lacking}
use Rattle.filling.proofs.Exact.{none-lacking}
use Rattle.filling.proofs.ResultNet.{Atoms}
use Rattle.filling.proofs.Answers.{rowed}
use Rattle.finding.proofs.Blanks.{Covering, ports-found}
use Rattle.claiming.proofs.FilledAtoms.{filled-atoms}

covers : (list : List ℕ) (l : List Context) → Every (λ (c : Context). ports_of (list_held list).contexts c.number ≡ suc c.count) l → Every (Covering (fillings_read list)) l
covers list [] p = tt
covers list (c ∷ l) p =
    let t = ports-found (list_held list).contexts c.number c.count p.0 in
    ((filling_read list t.0, Memᴰ.map (filling_read list) t.1, t.2, t.3), covers list l p.1)

-- A filled figure with a filling for each context has atoms only.
pub listed-atoms : (figure list : List ℕ) → first_lacking (list_held list).contexts (figure_held figure).contexts ≡ 0 → Atoms (filled_graph (graph_of (figure_held figure)) (fillings_read list)).atoms
listed-atoms figure list full =
    let r = (held-within Figure no_ports figure).ranges.contexts in
    filled-atoms Figure (figure_held figure) (fillings_read list) r
    (covers list (figure_held figure).contexts (none-lacking (list_held list).contexts (figure_held figure).contexts (rowed Figure (figure_held figure).contexts r) full))
