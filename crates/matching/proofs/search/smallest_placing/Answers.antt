-- The search from the beginning, of the sheet and the figure with their atoms as they are laid out.
use Prim.Native.Nat.{ℕ}
use mathlib.Core.Path.{◌∙◌, refl, sym, ap, subst}
use mathlib.Core.List.{List}
use native.Mathlib.Omega.{arith}
use borrow.Author.Rules.{rules}
use lib.ListN.{take, replicate}
use Rattle.rows.specs.Limits.{sheet_atom_limit}
use Rattle.network.specs.NetIn.{net_in}
use Rattle.network.specs.Ready.{AtomsIn}
use Rattle.candidates.specs.Frames.{whole}
use Rattle.candidates.proofs.Framing.{whole-laid}
use Rattle.matching.specs.Search.{search_from}
use Rattle.matching.proofs.Leftover.{leftover}
use Rattle.matching.proofs.SearchTurns.{nothing-begun}
use Rattle.matching.proofs.SearchWhole.{no-atoms, placed-smallest, whole-ready, found-whole}
use Rattle.matching.proofs.search.smallest_placing.Goals as goal

pub returns-then-leaves_some : goal.returns-then-leaves_some
returns-then-leaves_some c =
    let a = c.args in
    let h = c.leaves_some.ensures.0 c.if-leaves_some.true in
    let chosen : List ℕ = replicate sheet_atom_limit 0 in
    placed-smallest a.sheet a.figure c.requires c.nothing.result (search (rules, c.nothing.type_inv)) (search (rules, c.nothing.type_inv))
    (nothing-begun a.sheet a.figure c.requires chosen 0 (omega arith) (no-atoms a.sheet chosen refl) (leftover a.sheet a.figure c.requires h.0 h.1) c.nothing.result c.nothing.ensures)

pub leaf-requires : goal.leaf-requires
leaf-requires c =
    let s = c.lay_out-net in
    let f = c.lay_out-part in
    let o = s.ensures.laid_out in
    let q = f.ensures.laid_out in
    (whole-ready _ _ _ _ o q _ _ s.ensures.frame f.ensures.frame, subst (λ (k : ℕ). AtomsIn (whole s.result s.new.laid) k (replicate sheet_atom_limit 0)) (sym c.if-part-eq0.true) (no-atoms (whole s.result s.new.laid) (replicate sheet_atom_limit 0) refl), whole-laid _ _ o _ s.ensures.frame, whole-laid _ _ q _ f.ensures.frame)

pub returns-then-part-eq0 : goal.returns-then-part-eq0
returns-then-part-eq0 c =
    let s = c.lay_out-net in
    let f = c.lay_out-part in
    found-whole c.args.sheet c.args.figure _ _ s.ensures.laid_out f.ensures.laid_out _ _ s.ensures.frame f.ensures.frame c.leaf.result (search (rules, c.leaf.type_inv)) (search (rules, c.leaf.type_inv))
    (c.leaf.ensures ∙ ap (λ (k : ℕ). search_from (net_in (whole s.result s.new.laid)) (net_in (whole f.result f.new.laid)) (take k (replicate sheet_atom_limit 0))) c.if-part-eq0.true)

pub search_all-requires : goal.search_all-requires
search_all-requires c =
    let s = c.lay_out-net in
    let f = c.lay_out-part in
    let o = s.ensures.laid_out in
    let q = f.ensures.laid_out in
    (whole-ready _ _ _ _ o q _ _ s.ensures.frame f.ensures.frame, whole-laid _ _ o _ s.ensures.frame, whole-laid _ _ q _ f.ensures.frame)

pub returns : goal.returns
returns c =
    let s = c.lay_out-net in
    let f = c.lay_out-part in
    found-whole c.args.sheet c.args.figure _ _ s.ensures.laid_out f.ensures.laid_out _ _ s.ensures.frame f.ensures.frame c.search_all.result (search (rules, c.search_all.type_inv)) (search (rules, c.search_all.type_inv)) c.search_all.ensures
