use Rattle.std.proofs.Common.{◌≡◌, ℕ, ◌+◌, ◌-◌, ◌*◌, ◌↔◌, get_or, subst, arith}
use Rattle.rows.specs.Format.{most_links}
use Rattle.rows.specs.Limits.{sheet_link_limit}
use Rattle.rows.specs.declared.Atom.{Atom}
use Rattle.candidates.specs.Laid.{laid_atom, link_of}
use Rattle.candidates.specs.Words.{In}
use Rattle.colours.proofs.PieceCode.{Some, some-none, some_more, share-users}
use Rattle.colours.proofs.pieces.beside.Goals as goal

pub loop-k-init : goal.loop-k-init
loop-k-init c = some-none _

pub loop-k-preserved : goal.loop-k-preserved
loop-k-preserved c = some_more _ c.loop-k.all c.on_link-all.result c.loop-k.k c.loop-k.invariant c.on_link-all.ensures

pub returns : goal.returns
returns c = let P : Atom → ℕ → ℕ → Type 0 = λ z h v. Some (λ i x. In (get_or c.args.users.now (i * sheet_link_limit + (link_of z h - 1)) 0) x) most_links v in
    let e : c.loop-k.k ≡ c.laid_atom-atom.result.count = omega arith in
    λ net o w u.
    let f : In c.loop-k.all u ↔ Some (P (laid_atom c.args.laid.now c.args.t)) (laid_atom c.args.laid.now c.args.t).count u =
    subst (λ (z : Atom). In c.loop-k.all u ↔ Some (P z) z.count u) c.laid_atom-atom.ensures (subst (λ (z : ℕ). In c.loop-k.all u ↔ Some (P c.laid_atom-atom.result) z u) e (c.loop-k.invariant u)) in
    let g = share-users net c.args.laid.now c.args.n o c.args.users.now w c.args.t c.requires.1 u in
    (λ m. g.0 (f.0 m), λ q. f.1 (g.1 q))
