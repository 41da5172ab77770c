use Prim.Native.Nat.{ℕ, ◌*◌}
use mathlib.Core.Path.{sym, ◌∙◌, ap, subst}
use lib.ListN.{length, replicate, length-replicate}
use Rattle.rows.specs.Limits.{sheet_link_limit, context_room}
use Rattle.candidates.specs.PortSets.{set_at}
use Rattle.stepping.specs.Flags.{PortOfRow}
use Rattle.stepping.proofs.Tables.{Marked, marked_start, marked_more, zeros-not}
use Rattle.stepping.proofs.lookup.port_table.Goals as goal

pub loop-d-init : goal.loop-d-init
loop-d-init c = let a = c.args in (
  ap length c.requires.2 ∙ length-replicate {A = ℕ} (context_room * sheet_link_limit) 0,
  subst (Marked (λ p. ⊥) (λ d. PortOfRow a.numbers.now a.count (set_at a.contexts d) a.to.now a.none) 0) (sym c.requires.2)
      (marked_start (λ p. ⊥) (λ d. PortOfRow a.numbers.now a.count (set_at a.contexts d) a.to.now a.none) (replicate (context_room * sheet_link_limit) 0) (λ p. ((λ q. zeros-not (context_room * sheet_link_limit) p q), (λ b. absurd b)))),
)

pub loop-d-preserved : goal.loop-d-preserved
loop-d-preserved c = let l = c.loop-d in
    let a = c.args in
    (c.port_rows.ensures.0, marked_more (λ p. ⊥) (λ d. PortOfRow a.numbers.now a.count (set_at a.contexts d) a.to.now a.none) l.d l.table c.port_rows.new.table l.invariant.1 c.port_rows.ensures.1)
