-- Document 01, 'Normal text': what the rows of a sheet or of a pattern hold, and its normal net.
use Rattle.std.specs.Prelude.{ℕ, List}
use Rattle.rows.specs.Held.{Held}
use Rattle.rows.specs.declared.Context.{Context}
use Rattle.sheet.specs.Reading.{outcome_of, no_ports}
use Rattle.sheet.specs.declared.kind.Kind.TheVariants.{Plain, Pattern}
use Rattle.placing.specs.Net.{Net, normal_net}

-- what the rows of a sheet's text, and of a pattern's, hold
abbrev pub sheet_held : List ℕ → Held
sheet_held sheet = (outcome_of Plain no_ports sheet).held

abbrev pub pattern_held : List ℕ → Held
pattern_held pattern = (outcome_of Pattern no_ports pattern).held

-- the normal nets of the two texts
abbrev pub sheet_net : List ℕ → Net
sheet_net sheet = normal_net (sheet_held sheet)

abbrev pub pattern_net : List ℕ → Net
pattern_net pattern = normal_net (pattern_held pattern)

-- the number and the port count of a B row
abbrev pub text_blank : Context → ℕ × ℕ
text_blank c = (c.number, c.count)
