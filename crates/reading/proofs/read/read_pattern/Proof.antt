use borrow.Author.Rules.{rules}
use mathlib.Core.Path.{refl, ◌∙◌}
use Rattle.sheet.specs.Reading.{no_ports}
use Rattle.sheet.specs.declared.kind.Kind.TheVariants.{Pattern}
use Rattle.reading.proofs.normal.NormalReady.{sheet-read}
use Rattle.reading.proofs.read.read_pattern.Statement.{statement}
use Rattle.reading.proofs.read.read_pattern.Tie as tie

read-text-requires : tie.Need-read_text-requires
read-text-requires c κs = search rules

returns : tie.Need-returns
returns c = let a = c.args in
    c.read_text.ensures ∙ sheet-read Pattern no_ports a.text.now refl

pub read_pattern_spec : {M : Type 1} → statement M
read_pattern_spec = tie.close (tie.spec read-text-requires returns)
