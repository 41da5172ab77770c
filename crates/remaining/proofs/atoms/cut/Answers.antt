use mathlib.Core.Path.{◌∙◌}
use native.Mathlib.Omega.{arith}
use lib.Bits.{bit_and}
use lib.ListN.{get_or, length-set}
use Rattle.stepping.proofs.Walking.{atom-few, node-touches, atom_of}
use Rattle.remaining.proofs.AllowLaws.{chain_next, allows-cut}
use Rattle.remaining.proofs.atoms.cut.Goals as goal

pub loop-v-preserved : goal.loop-v-preserved
loop-v-preserved c = let s = c in
    let a = s.args in
    let l = c.loop-v in
    let t = c.loop-v-test.true in
    let few = atom-few l.v (l.invariant.1 t) l.invariant.0 in (
      s.requires.2.within l.v,
      s.requires.2.above l.v,
      length-set l.words (atom_of l.v) (bit_and (get_or l.words (atom_of l.v) 0) a.word) ∙ l.invariant.2,
      λ S n k. let w = l.invariant.3 S n k in
          let o = w.0 t in (
            (λ e. (k.nodes.within l.v, chain_next S n a.chains.now k a.y l.v o.0 o.1 e)),
            λ taken digits u v. allows-cut S taken digits l.words a.y (atom_of l.v) a.word (omega (arith, few, l.invariant.2)) (node-touches S a.y l.v o.1) u (w.1 taken digits u v),
          ),
    )

pub returns : goal.returns
returns c = (c.loop-v.invariant.2, λ S n k. (c.loop-v.invariant.3 S n k).1)
