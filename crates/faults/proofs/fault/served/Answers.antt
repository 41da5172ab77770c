use mathlib.Core.Path.{◌≡◌, refl}
use mathlib.Core.Logic.{◌⊎◌, inl, inr, ⊎_elim}
use native.Mathlib.Omega.{arith}
use lib.ListN.{get_or}
use Rattle.std.proofs.lemmas.Result.{err_from_is_err_and}
use Rattle.stepping.specs.Contexts.{number_of}
use Rattle.faults.specs.Gives.{given}
use Rattle.stepping.proofs.Tables.{below_next}
use Rattle.faults.proofs.Serving.{held-as, given-start, other_at, all-given}
use Rattle.faults.proofs.fault.served.Goals as goal
use Rattle.faults.proofs.fault.served.Goals.{then-taken-j-ne1+then-done-j-ne1+in_ok-one_more, then-taken-j-ne1+else-done-j-ne1, else-taken-j-ne1}

pub loop-j-init : goal.loop-j-init
loop-j-init c = (refl, refl, λ S F q held t f. (given-start S F q, λ i h. absurd (omega arith)))

pub returns-in_err-one_more : goal.returns-in_err-one_more
returns-in_err-one_more c = let l = c.loop-j in
    let a = c.args in
    let m = c.in_err-one_more in
    λ choices same S F q held t f.
    let o = other_at S F q a.atoms t.around.atom-count a.taken f l.j (omega (arith, c.loop-j-test.true)) c.if-taken-j-ne1.true in
    let p = err_from_is_err_and c.from_residual.result c.from_residual.ensures.1 in
    rw (p.1, p.2) (m.ensures.at S F q (held-as S F a.laid.now a.atoms a.links (number_of choices) (λ i. get_or a.numbers.now i 0) a.rows same held) t o)

pub loop-j-preserved : goal.loop-j-preserved
loop-j-preserved c = let l = c.loop-j in
    let a = c.args in
    elim c.if-taken-j-ne1.branch [
      | then-taken-j-ne1+then-done-j-ne1+in_ok-one_more w ↦
          let e = w.in_ok-one_more.ensures in
          rw (w.contexts-is, w.done-is) (
            e.done-room,
            e.contexts-room,
            λ S F q held t f.
                let o = l.invariant.2 S F q held t f in
                let v = e.at S F q held t (other_at S F q a.atoms t.around.atom-count a.taken f l.j (omega arith) w.if-taken-j-ne1.true) in (
                  v.least o.0,
                  below_next (λ i. (get_or a.taken i 0 ≡ 1) ⊎ (get_or w.one_more.new.done i 0 ≡ 1)) l.j (λ i h. ⊎_elim (λ e. inl e) (λ e. inr (v.done i (inl e))) (o.1 i h)) (inr (v.done l.j (inr refl))),
                ),
          )
      | then-taken-j-ne1+else-done-j-ne1 w ↦ rw (w.contexts-is, w.done-is) (l.invariant.0, l.invariant.1, λ S F q held t f. let o = l.invariant.2 S F q held t f in (o.0, below_next (λ i. (get_or a.taken i 0 ≡ 1) ⊎ (get_or l.done i 0 ≡ 1)) l.j o.1 (inr w.if-done-j-ne1.false)))
      | else-taken-j-ne1 w ↦ rw (w.contexts-is, w.done-is) (l.invariant.0, l.invariant.1, λ S F q held t f. let o = l.invariant.2 S F q held t f in (o.0, below_next (λ i. (get_or a.taken i 0 ≡ 1) ⊎ (get_or l.done i 0 ≡ 1)) l.j o.1 (inl w.if-taken-j-ne1.false)))
    ]

pub returns : goal.returns
returns c = let l = c.loop-j in
    let a = c.args in
    let e : l.j ≡ a.atoms = omega arith in
    λ choices same S F q held t f. let o = l.invariant.2 S F q (held-as S F a.laid.now a.atoms a.links (number_of choices) (λ i. get_or a.numbers.now i 0) a.rows same held) t f in all-given S F q a.atoms t.around.atom-count a.taken f (given l.contexts l.done) l.invariant.1 (λ i h. o.1 i (omega arith)) o.0
