use borrow.Author.Rules.{rules}
use mathlib.Core.Path.{refl, ◌∙◌}
use Rattle.sheet.specs.declared.kind.Kind.TheVariants.{Replacement}
use Rattle.reading.proofs.normal.NormalReady.{sheet-read}
use Rattle.reading.proofs.read.read_replacement.Statement.{statement}
use Rattle.reading.proofs.read.read_replacement.Tie as tie

read-text-requires : tie.Need-read_text-requires
read-text-requires c κs = search rules

returns : tie.Need-returns
returns c = let a = c.args in
    c.read_text.ensures ∙ sheet-read Replacement a.pattern a.text.now refl

pub read_replacement_spec : {M : Type 1} → statement M
read_replacement_spec = tie.close (tie.spec read-text-requires returns)
