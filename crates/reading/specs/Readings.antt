-- What the readers of sheets and figures hand back.
use Rattle.rows.specs.Packed.{port_table}
use Rattle.sheet.specs.Reading.{Outcome}
use Rattle.reading.specs.NormalSheet.{packed_normal}
use Rattle.reading.specs.declared.read.Reading.{Reading}

-- the answer, the normal form of what the text holds, and the table of ports
abbrev pub sheet_read : Outcome → Reading
sheet_read o = record { answer = o.answer; normal = packed_normal o.held; ports = port_table o.held.contexts }
