use Rattle.candidates.specs.Words.{word_digits}
use Rattle.colours.proofs.SizeCode.{ones_below}
use Rattle.colours.proofs.pieces.size_of.Goals as goal

pub returns : goal.returns
returns c = ones_below word_digits c.args.piece c.ranges.piece.fits
