use borrow.Author.Rules.{rules}
use mathlib.Core.Path.{refl, ◌∙◌}
use Rattle.sheet.specs.Reading.{no_ports}
use Rattle.sheet.specs.declared.kind.Kind.TheVariants.{Plain}
use Rattle.reading.proofs.normal.NormalReady.{sheet-read}
use Rattle.reading.proofs.read.read_sheet.Statement.{statement}
use Rattle.reading.proofs.read.read_sheet.Tie as tie

read-text-requires : tie.Need-read_text-requires
read-text-requires c κs = search rules

returns : tie.Need-returns
returns c = let a = c.args in
    c.read_text.ensures ∙ sheet-read Plain no_ports a.text.now refl

pub read_sheet_spec : {M : Type 1} → statement M
read_sheet_spec = tie.close (tie.spec read-text-requires returns)
