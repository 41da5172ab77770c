-- The row holds the atom, and nothing else has changed.
use Prim.Native.Nat.{◌+◌, ◌*◌}
use lib.ListN.{set, length-set}
use lib.Seq.{get_or-set_same, get_or-set_other}
use mathlib.Core.Path.{◌∙◌}
use native.Mathlib.Omega.{arith}
use Rattle.rows.specs.Format.{field_count}
use Rattle.candidates.proofs.Laying.{laid-row}
use Rattle.candidates.proofs.laid.lay_atom.Goals as goal

pub returns : goal.returns
returns c = let s = c in
    let l = s.args.laid.now in
    let a = s.args.atom in
    let at = s.args.i * field_count in
    let one = set l at a.name in
    let f = c.lay_links.ensures in (
      f.0,
      laid-row _ s.args.i a s.requires.1
          (f.2 at (λ k h e. omega (arith, e)) ∙ get_or-set_other one (at + 1) at a.count 0 (λ e. omega (arith, e)) ∙ get_or-set_same l at a.name 0 (omega (arith, s.requires.0, s.requires.2)))
          (f.2 (at + 1) (λ k h e. omega (arith, e)) ∙ get_or-set_same one (at + 1) a.count 0 (simp length-set (omega (arith, s.requires.0, s.requires.2)))) f.1,
      (λ q d. f.2 q (λ k h e. d (2 + k) (omega (arith, h)) e) ∙ get_or-set_other one (at + 1) q a.count 0 (λ e. d 1 (omega arith) e) ∙ get_or-set_other l at q a.name 0 (λ e. d 0 (omega arith) (omega (arith, e)))),
    )
