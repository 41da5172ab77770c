use Prim.Native.Nat.{suc}
use mathlib.Core.Path.{subst}
use native.Mathlib.Numerals.{add-one}
use native.Mathlib.Omega.{arith}
use Rattle.network.specs.NetIn.{net_in}
use Rattle.network.specs.Ready.{state_in}
use Rattle.completing.specs.Known.{Touches}
use Rattle.stepping.proofs.Chaining.{laid_in}
use Rattle.settling.proofs.Beyond.{beyond-keeps}
use Rattle.settling.proofs.neighbours.bar_beyond.Goals as goal

pub returns : goal.returns
returns c =
    let a = c.args in
    let p = c.requires in
    let z = c.in_ok-z.z in (
      omega (arith, c.if-nets-z.false),
      λ sheet figure to flags w e. beyond-keeps sheet figure a.nets a.laid.now a.chains.now a.kinds.now a.used.now to w a.taken.now flags e a.x a.y a.t z p.1 p.2 (omega (arith, c.if-nets-z.false)) a.bars.now (c.barred.ensures.0 c.if-not-barred.false)
          (λ atoms f. c.in_ok-z.ensures.1 sheet figure (state_in figure atoms to) w.nets-in.laid_out w.chains-in (w.used-by atoms) f
          (subst (Touches (net_in sheet) (suc a.t)) (add-one a.y) ((c.stands.ensures c.if-not-stands.false).1 (net_in sheet) (laid_in sheet a.laid.now a.nets.atoms w.nets-in.laid_out))))
          c.bar.new.bars c.bar.ensures,
    )
