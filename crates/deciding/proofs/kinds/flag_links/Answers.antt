use Prim.Native.Nat.{◌<◌}
use mathlib.Core.Path.{sym, ◌∙◌}
use Rattle.rows.specs.Limits.{sheet_link_limit}
use Rattle.candidates.proofs.Halves.{without-smaller}
use Rattle.deciding.proofs.FlagLaws.{flagging-start, flagging-next, flagging-end}
use Rattle.deciding.proofs.kinds.flag_links.Goals as goal

pub loop-rest-init : goal.loop-rest-init
loop-rest-init c = flagging-start c.args.set c.args.flags.now c.requires.1

pub loop-rest-smaller : goal.loop-rest-smaller
loop-rest-smaller c =
    let f = c.first_link-x.ensures in without-smaller _ _ f.0 _ c.without_link-less.ensures f.1

pub loop-rest-preserved : goal.loop-rest-preserved
loop-rest-preserved c =
    let f = c.first_link-x in
    let l = c.loop-rest in
    let small : f.result < sheet_link_limit = c.requires.0 f.result f.ensures.0 (l.invariant.part f.result f.ensures.0 f.ensures.1) in
    flagging-next c.args.set l.rest l.flags l.invariant f.result f.ensures.0 small f.ensures.1 c.without_link-less.result c.without_link-less.ensures

pub returns : goal.returns
returns c =
    let l = c.loop-rest in
    flagging-end c.args.set l.rest l.flags (sym c.is_empty.ensures ∙ c.loop-rest-test.false) l.invariant
