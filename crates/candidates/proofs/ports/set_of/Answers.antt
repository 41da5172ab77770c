use borrow.Author.Rules.{rules}
use Prim.Native.Nat.{ℕ}
use mathlib.Core.Path.{◌≡◌, subst}
use native.Mathlib.Omega.{arith}
use lib.ListN.{get_or}
use Rattle.rows.specs.Limits.{sheet_link_limit}
use Rattle.placing.specs.Net.{Range}
use Rattle.candidates.proofs.PortRows.{Placed, placed-none, placed-next, placed-all}
use Rattle.candidates.proofs.ports.set_of.Goals as goal

-- the link at place k
link-there : (c : goal.In-loop-k) → Range sheet_link_limit (get_or c.args.links c.loop-k.k 0)
link-there c = c.requires.numbered c.loop-k.k c.loop-k-test.true

pub loop-k-init : goal.loop-k-init
loop-k-init c = (search rules, placed-none c.args.links)

pub overflow_sub-links : goal.overflow_sub-links
overflow_sub-links c = (link-there c).0

pub overflow_cast-links : goal.overflow_cast-links
overflow_cast-links c = omega (arith, (link-there c).0, (link-there c).1)

pub with-more-requires : goal.with-more-requires
with-more-requires c = omega (arith, (link-there c).0, (link-there c).1)

pub loop-k-preserved : goal.loop-k-preserved
loop-k-preserved c = let l = c in
    (omega arith, placed-next l.args.links l.loop-k.k l.loop-k.set c.with-more.result l.loop-k.invariant.1 (link-there c.before) c.with-more.ensures)

pub returns : goal.returns
returns c = let l = c in
    let a = l.args in
    let e : l.loop-k.k ≡ a.count = omega arith in
    placed-all a.links a.count l.loop-k.set l.requires.there (subst (λ (n : ℕ). Placed a.links n l.loop-k.set) e l.loop-k.invariant.1)
