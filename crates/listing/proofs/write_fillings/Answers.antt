use borrow.Author.Rules.{rules}
use Prim.Native.Nat.{◌+◌}
use mathlib.Core.Path.{refl, ◌∙◌, ap}
use native.Mathlib.Omega.{arith}
use lib.ListN.{length, length-append}
use Rattle.network.specs.NetIn.{context_in, context_at}
use Rattle.listing.specs.Writing.{filling_bytes, list_bytes}
use Rattle.listing.proofs.Listed.{text_to, text-put, text-next, text-room, text-all, links-used, stands-low}
use Rattle.listing.proofs.write_fillings.Goals as goal

pub loop-i-init : goal.loop-i-init
unfolding list_bytes
loop-i-init c = (omega arith, refl, refl, refl)

pub put_filling-at-requires : goal.put_filling-at-requires
put_filling-at-requires c = let t = c.context_ranked-j in
    let l = c.loop-i in
    let a = c.args in
    let d = context_in (context_at a.figure t.result) in
    let next = text-next a.sheet a.figure c.requires.ready.0 a.links_to a.given c.requires.ready.2 c.requires.ready.3 c.requires.ready.4 l.i (omega arith) d t.ensures.1 in record {
      fit = (
        c.requires.ready.0.sheet-fit,
        search rules,
        c.requires.ready.2,
        c.requires.ready.4.names,
        links-used a.sheet a.figure c.requires.ready.0 c.requires.ready.4.ports a.links_to c.requires.ready.1 t.result t.ensures.0,
        c.requires.ready.4.numbers t.result t.ensures.0,
      );
      by_index = stands-low a.sheet a.figure c.requires.ready.0 c.requires.ready.4.ports a.links_to c.requires.ready.1 t.result t.ensures.0;
      context_in_bounds = omega (
        arith,
        l.invariant.1,
        l.invariant.2,
        ap length next,
        length-append (text_to a.sheet a.figure a.links_to a.given l.i) (filling_bytes a.sheet a.links_to a.given d),
        text-room a.sheet a.figure c.requires.ready.0 a.links_to a.given c.requires.ready.2 c.requires.ready.3 c.requires.ready.4 (l.i + 1),
        c.requires.slip_length_in_bounds,
      );
    }

pub loop-i-preserved : goal.loop-i-preserved
loop-i-preserved c = let p = c.put_filling-at in
    let t = c.context_ranked-j in
    let l = c.loop-i in
    let h = c.loop-i-test.true in
    let a = c.args in
    let d = context_in (context_at a.figure t.result) in
    let next = text-next a.sheet a.figure c.requires.ready.0 a.links_to a.given c.requires.ready.2 c.requires.ready.3 c.requires.ready.4 l.i (omega arith) d t.ensures.1 in
    let text = text_to a.sheet a.figure a.links_to a.given l.i in
    let more = filling_bytes a.sheet a.links_to a.given d in
    let room = text-room a.sheet a.figure c.requires.ready.0 a.links_to a.given c.requires.ready.2 c.requires.ready.3 c.requires.ready.4 (l.i + 1) in (
      omega arith,
      p.auto.out ∙ l.invariant.1,
      omega (arith, p.ensures.value, l.invariant.2, ap length next, length-append text more),
      rw next (text-put a.out.now p.new.out text more l.at l.invariant.2 (omega (arith, ap length next, length-append text more, room, c.requires.slip_length_in_bounds)) (rw l.invariant.3 at p.ensures.out_after)),
    )

pub returns : goal.returns
returns c = let l = c.loop-i in
    let a = c.args in record {
      by_index = λ atoms. l.invariant.2 ∙ ap length (text-all a.sheet a.figure c.requires.ready.0 a.links_to a.given c.requires.ready.2 c.requires.ready.3 c.requires.ready.4 atoms l.i (omega arith));
      by_index_2 = λ atoms. rw (text-all a.sheet a.figure c.requires.ready.0 a.links_to a.given c.requires.ready.2 c.requires.ready.3 c.requires.ready.4 atoms l.i (omega arith)) at l.invariant.3;
    }
