use Rattle.std.proofs.Common.{◌+◌, ◌*◌, get_or}
use Rattle.rows.specs.Limits.{sheet_link_limit}
use Rattle.candidates.specs.Words.{In}
use Rattle.colours.proofs.PieceCode.{some-none, some_more}
use Rattle.colours.proofs.pieces.on_link.Goals as goal

pub loop-k-init : goal.loop-k-init
loop-k-init c = some-none (λ h v. In (get_or c.args.users.now (h * sheet_link_limit + c.args.y) 0) v)

pub loop-k-preserved : goal.loop-k-preserved
loop-k-preserved c = let s = c.args in
    some_more (λ h v. In (get_or s.users.now (h * sheet_link_limit + s.y) 0) v) c.loop-k.all (get_or s.users.now (c.loop-k.k * sheet_link_limit + s.y) 0) c.loop-k.k c.loop-k.invariant (λ u. (λ m. m, λ m. m))
