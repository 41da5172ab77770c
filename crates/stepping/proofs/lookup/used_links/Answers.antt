use mathlib.Core.Path.{refl}
use lib.ListN.{replicate}
use Rattle.rows.specs.Limits.{sheet_link_limit}
use Rattle.stepping.specs.Flags.{SentTo}
use Rattle.stepping.proofs.Tables.{marked_start, zeros-not}
use Rattle.stepping.proofs.lookup.used_links.Goals as goal

pub loop-x-init : goal.loop-x-init
loop-x-init c = (refl, marked_start (λ p. ⊥) (SentTo c.args.to.now c.args.none) (replicate sheet_link_limit 0) (λ p. ((λ q. zeros-not sheet_link_limit p q), (λ b. absurd b))))
