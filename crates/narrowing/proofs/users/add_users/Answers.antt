use Prim.Native.Nat.{ℕ, ◌*◌, ◌<◌}
use mathlib.Core.Path.{◌≡◌, subst}
use native.Mathlib.Omega.{arith}
use lib.ListN.{length-set}
use Rattle.rows.specs.Format.{most_links}
use Rattle.rows.specs.Limits.{sheet_link_limit}
use Rattle.rows.specs.declared.Atom.{Atom}
use Rattle.network.specs.NetIn.{Used}
use Rattle.candidates.proofs.Digits.{alone-in, alone-only}
use Rattle.narrowing.proofs.Adding.{spot, Added, added_more}
use Rattle.narrowing.proofs.users.add_users.Goals as goal

-- place k is in the table
room : (there : Atom) (k : ℕ) → Used sheet_link_limit there.count there.links → k < there.count → spot there k < most_links * sheet_link_limit
room there k u h = let r = u.numbered k h in omega (arith, r.0, r.1, u.few)

pub loop-k-preserved : goal.loop-k-preserved
loop-k-preserved c =
    let s = c.args in (
      simp length-set c.loop-k.invariant.0,
      added_more s.there s.t s.users.now c.loop-k.users c.loop-k.k c.loop-k.invariant.1 (omega (arith, room s.there c.loop-k.k c.requires.0 c.loop-k-test.true, c.loop-k.invariant.0)) c.one.result (alone-in _ _ c.one.ensures) (alone-only _ _ c.one.ensures),
    )

pub returns : goal.returns
returns c =
    let s = c.args in
    let e : c.loop-k.k ≡ s.there.count = omega arith in
    let a = subst (Added s.there s.t s.users.now c.loop-k.users) e c.loop-k.invariant.1 in
    record { width = c.loop-k.invariant.0; kept = a.kept; there = a.has; only = a.only }
