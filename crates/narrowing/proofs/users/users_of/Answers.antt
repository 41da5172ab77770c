use Prim.Native.Nat.{ℕ, ◌*◌}
use mathlib.Core.Path.{sym, ◌∙◌, ap, subst}
use mathlib.Core.List.{List}
use lib.ListN.{length, length-replicate}
use Rattle.rows.specs.Format.{most_links}
use Rattle.rows.specs.Limits.{sheet_link_limit}
use Rattle.rows.specs.declared.Atom.{Atom}
use Rattle.narrowing.specs.Users.{UsersIn}
use Rattle.narrowing.proofs.Adding.{Added, users-none, users-more}
use Rattle.narrowing.proofs.users.users_of.Goals as goal

pub loop-t-init : goal.loop-t-init
loop-t-init c = let laid = c.args.laid.now in (
  ap length c.requires.1 ∙ length-replicate {A = ℕ} (most_links * sheet_link_limit) 0,
  subst (λ (l : List ℕ). UsersIn laid 0 l) (sym c.requires.1) (users-none laid (most_links * sheet_link_limit)),
)

pub loop-t-preserved : goal.loop-t-preserved
loop-t-preserved c =
    let t = c.loop-t.t in
    let laid = c.args.laid.now in
    let more = c.add_users.new.users in
    let a = c.add_users.ensures in
    let there = c.laid_atom-there in
    let added : Added there.result t c.loop-t.users more there.result.count = record { kept = a.kept; has = a.there; only = a.only } in (
      a.width,
      users-more laid t c.loop-t.users more (c.requires.0.atoms t c.loop-t-test.true) c.loop-t.invariant.1 (subst (λ (w : Atom). Added w t c.loop-t.users more w.count) there.ensures added),
    )
