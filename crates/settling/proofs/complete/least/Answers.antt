use mathlib.Core.Path.{refl}
use native.Mathlib.Omega.{arith}
use Rattle.candidates.proofs.PortRows.{ports-of}
use Rattle.settling.proofs.Trying.{over-of, tables-of}
use Rattle.settling.proofs.Whole.{several-of, least-none, least-some, least-faulty, closed_none, closed_some}
use Rattle.settling.proofs.complete.least.Goals as goal

pub returns-in_default : goal.returns-in_default
returns-in_default c =
    let a = c.args in
    λ sheet figure n l. closed_none sheet figure n.ready a.taken.now a.to.now a.flags.now c.requires.1 (λ x h. c.none_open.ensures.0 c.if-none_open.true x (omega (arith, h, n.contexts-in.link-count))) _ (c.in_default.ensures sheet figure (over-of c.chains.new.table c.chains.ensures n l))

pub returns-then-none_open : goal.returns-then-none_open
returns-then-none_open c =
    let a = c.args in
    λ sheet figure n l. closed_some sheet figure n.ready a.taken.now a.to.now a.flags.now c.requires.1 (λ x h. c.none_open.ensures.0 c.if-none_open.true x (omega (arith, h, n.contexts-in.link-count))) c.in-Ok.given (c.in-Ok.ensures sheet figure (over-of c.chains.new.table c.chains.ensures n l)) l

pub kinds-kind-requires : goal.kinds-kind-requires
kinds-kind-requires c = (c.args.nets.count, ports-of c.requires.0.2.contexts-in)

pub standing-words-requires : goal.standing-words-requires
standing-words-requires c = (c.args.nets.count, ports-of c.requires.0.2.contexts-in)

pub several-tried-requires : goal.several-tried-requires
several-tried-requires c = ports-of c.requires.0.2.contexts-in

pub completable-requires : goal.completable-requires
completable-requires c =
    let p = c.requires in
    ((p.0.0, p.0.1, (tables-of c.kinds-kind.result c.standing-words.result c.kinds-kind.ensures c.standing-words.ensures (over-of c.chains.new.table c.chains.ensures p.0.2 p.0.3))), c.several-tried.ensures.0)

pub returns-then-not-completable : goal.returns-then-not-completable
returns-then-not-completable c =
    let a = c.args in
    let d = c.completable in
    λ sheet figure n l. let t = tables-of c.kinds-kind.result c.standing-words.result c.kinds-kind.ensures c.standing-words.ensures (over-of c.chains.new.table c.chains.ensures n l) in
    least-none sheet figure n.ready a.taken.now a.to.now a.flags.now c.several-tried.result (several-of figure a.nets.count a.flags.now c.several-tried.result n.contexts-in.link-count (c.several-tried.ensures.1 figure n.contexts-in)) _ 192 refl d.result (d.ensures sheet figure t) c.if-not-completable.true

pub settled-links_to-requires : goal.settled-links_to-requires
settled-links_to-requires c =
    let p = c.requires in
    ((p.0.0, p.0.1, (tables-of c.kinds-kind.result c.standing-words.result c.kinds-kind.ensures c.standing-words.ensures (over-of c.chains.new.table c.chains.ensures p.0.2 p.0.3))), p.1, c.several-tried.ensures.0, (192, refl))

pub returns-in_default-find : goal.returns-in_default-find
returns-in_default-find c =
    let a = c.args in
    let d = c.completable in
    let s = c.settled-links_to in
    λ sheet figure n l. let t = tables-of c.kinds-kind.result c.standing-words.result c.kinds-kind.ensures c.standing-words.ensures (over-of c.chains.new.table c.chains.ensures n l) in
    least-faulty sheet figure n.ready a.taken.now a.to.now a.flags.now c.several-tried.result (several-of figure a.nets.count a.flags.now c.several-tried.result n.contexts-in.link-count (c.several-tried.ensures.1 figure n.contexts-in)) _ 192 refl d.result (d.ensures sheet figure t) c.if-not-completable.false s.result (s.ensures sheet figure t) _ (c.in_default-find.ensures sheet figure (over-of c.chains.new.table c.chains.ensures n (s.ensures sheet figure t).links-in))

pub returns : goal.returns
returns c =
    let a = c.args in
    let d = c.completable in
    let s = c.settled-links_to in
    λ sheet figure n l. let t = tables-of c.kinds-kind.result c.standing-words.result c.kinds-kind.ensures c.standing-words.ensures (over-of c.chains.new.table c.chains.ensures n l) in
    least-some sheet figure n.ready a.taken.now a.to.now a.flags.now c.several-tried.result (several-of figure a.nets.count a.flags.now c.several-tried.result n.contexts-in.link-count (c.several-tried.ensures.1 figure n.contexts-in)) _ 192 refl d.result (d.ensures sheet figure t) c.if-not-completable.false s.result (s.ensures sheet figure t) c.in-Ok-find.given (c.in-Ok-find.ensures sheet figure (over-of c.chains.new.table c.chains.ensures n (s.ensures sheet figure t).links-in))
