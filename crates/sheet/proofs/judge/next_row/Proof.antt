use borrow.Author.Rules.{rules}
use Prim.Native.Nat.{◌*◌}
use mathlib.Core.Path.{sym, ◌∙◌}
use lib.ListN.{drop}
use Rattle.rows.specs.Format.{row_width}
use Rattle.sheet.proofs.read.Walk.{whole-fits}
use Rattle.sheet.proofs.read.Judged.{next-made}
use Rattle.sheet.proofs.judge.next_row.Statement.{statement}
use Rattle.sheet.proofs.judge.next_row.Tie as tie

mul-is-ragged : tie.Need-overflow_mul-k
mul-is-ragged c = search rules

is-ragged-requires : tie.Need-is_ragged-cut-requires
is-ragged-requires c κs = search rules

mul-row-at : tie.Need-overflow_mul-k-2
mul-row-at c = search rules

row-at-requires : tie.Need-row_at-row-requires
row-at-requires c κs = let s = c in
    λ e. whole-fits s.args.text.now (s.args.k * row_width) s.requires.1 (sym c.is_ragged-cut.ensures ∙ e)

early-answer-requires : tie.Need-early_answer-answer-requires
early-answer-requires c κs = search rules

returns : tie.Need-returns
returns c = let a = c.args in
    let x = c.early_answer-answer in
    let r = c.row_at-row in
    let g = c.is_ragged-cut in
    next-made a.kind a.heads a.k (drop (a.k * row_width) a.text.now) g.result r.result x.result g.ensures r.ensures x.ensures

pub next_row_spec : {M : Type 1} → statement M
next_row_spec =
    tie.close
    (tie.spec
    mul-is-ragged
    is-ragged-requires
    mul-row-at
    row-at-requires
    early-answer-requires
    returns)
