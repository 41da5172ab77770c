-- A word has no digit beyond its width.
use Rattle.std.proofs.Common.{rules, ◌<◌, ◌^◌, get_or}
use Rattle.candidates.specs.Words.{word_digits}
use Rattle.candidates.proofs.NextDigit.{within_word}
use Rattle.candidates.proofs.forced.next_from.Goals as goal

pub returns-in_default-2 : goal.returns-in_default-2
returns-in_default-2 c =
    let row = get_or c.args.atoms.now c.args.k 0 in
    let fits : row < 2 ^ word_digits = search (rules, c.type_inv.atoms) in
    λ u h l i. c.in_default.ensures u h (within_word row u fits i) i
