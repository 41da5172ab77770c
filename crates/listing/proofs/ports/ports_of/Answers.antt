use borrow.Author.Rules.{rules}
use mathlib.Core.Path.{refl}
use native.Mathlib.Omega.{arith}
use Rattle.rows.specs.Format.{most_links}
use Rattle.rows.specs.Packed.{padded}
use Rattle.rows.proofs.Padding.{stored_next}
use Rattle.listing.specs.Writing.{stands_at}
use Rattle.listing.proofs.ports.ports_of.Goals as goal

pub loop-k-init : goal.loop-k-init
unfolding padded
loop-k-init c = (search rules, search rules, refl)

pub loop-k-preserved : goal.loop-k-preserved
loop-k-preserved c = let l = c in
    let a = l.args in (
      omega arith,
      l.loop-k.invariant.1,
      rw c.stands_on.ensures (stored_next most_links (stands_at a.sheet_links a.links_to.now) a.links l.loop-k.ports l.loop-k.k l.loop-k.invariant.2 (omega arith) (omega arith)),
    )
