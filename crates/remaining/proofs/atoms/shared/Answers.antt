use Prim.Native.Nat.{ℕ}
use mathlib.Core.Path.{subst}
use lib.ListN.{get_or}
use Rattle.remaining.specs.Allowing.{KeptBy}
use Rattle.stepping.proofs.Walking.{atom_of}
use Rattle.remaining.proofs.AllowLaws.{chain_first, chain_next, shared_start, shared-next}
use Rattle.remaining.proofs.atoms.shared.Goals as goal

pub loop-v-init : goal.loop-v-init
loop-v-init c = let s = c in
    let a = s.args in
    (s.requires.1.within a.y, s.requires.1.above a.y, λ S n k. ((λ e. (k.nodes.within a.y, chain_first S n a.chains.now k a.y s.requires.0 e)), shared_start S a.taken.now a.words.now a.table.now a.y))

pub loop-v-preserved : goal.loop-v-preserved
loop-v-preserved c = let s = c in
    let a = s.args in
    let l = c.loop-v in
    let t = c.loop-v-test.true in (
      s.requires.1.within l.v,
      s.requires.1.above l.v,
      λ S n k. let w = l.invariant.2 S n k in
          let o = w.0 t in (
            (λ e. (k.nodes.within l.v, chain_next S n a.chains.now k a.y l.v o.0 o.1 e)),
            shared-next S a.taken.now a.words.now a.table.now a.y l.word l.v c.kept_by-word.result o.1 w.1
                (subst (λ (z : ℕ). KeptBy l.word (get_or a.taken.now (atom_of l.v) 0) z c.kept_by-word.result) c.closure_of.ensures c.kept_by-word.ensures),
          ),
    )

pub returns : goal.returns
returns c = λ S n k. (c.loop-v.invariant.2 S n k).1
