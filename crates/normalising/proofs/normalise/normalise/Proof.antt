-- `normalise::normalise` meets its contract: a short slip, a text that is refused, and one that passed. Assumes nothing.
use mathlib.Core.Path.{◌≡◌, ◌∙◌, sym, ap}
use native.Mathlib.Omega.{arith}
use Rattle.sheet.specs.Reading.{outcome_of, no_ports}
use Rattle.reading.specs.NormalSheet.{packed_normal}
use Rattle.reading.specs.declared.read.Reading.{Reading}
use Rattle.normalising.specs.declared.normalise.Normalised.TheVariants.{Written}
use Rattle.reading.proofs.normal.NormalReady.{sheet-read}
use Rattle.normalising.proofs.normalise.Normalising.{slip-short, slip-refused, slip-written, read-writable}
use borrow.Author.Rules.{rules}
use Rattle.normalising.proofs.normalise.normalise.Statement.{statement}
use Rattle.normalising.proofs.normalise.normalise.Tie as tie

returns : tie.Need-returns-then-out-lt-SLIP
returns c = let s = c in
    slip-short s.args.kind s.args.text.now s.args.out.now c.if-out-lt-SLIP.true

read-text-requires : tie.Need-read_text-reading-requires
read-text-requires c κs = search rules

enum_told : tie.Need-enum_told-1
enum_told c = search rules

-- what was read is a sheet or a figure, so this is its normal form
normal : (r : tie.After-read_text-reading) → let a = r.args in r.read_text-reading.result.normal ≡ packed_normal (outcome_of a.kind no_ports a.text.now).held
normal r = let s = r in
    ap (λ (x : Reading). x.normal) (r.read_text-reading.ensures ∙ sheet-read s.args.kind no_ports s.args.text.now s.requires)

write-normal-requires : tie.Need-write_normal-bytes-requires
write-normal-requires c κs = let r = c in
    let s = r in
    let w = read-writable s.args.kind s.args.text.now s.requires r.read_text-reading.result.normal (normal r.before.before.before) in
    (w.0, omega (arith, w.1, r.if-out-lt-SLIP.false))

enum-known-answer : tie.Need-enum_known-answer
enum-known-answer c = search rules

same_length : tie.Need-shape_of-out
same_length c = search rules

returns-2 : tie.Need-returns-in-Passed
returns-2 c = let w = c in
    let r = w in
    let a = r.args in
    let p = sym (ap (λ (x : Reading). x.answer) r.read_text-reading.ensures) ∙ w.in-Passed.is in
    let t = slip-written a.kind a.text.now a.out.now r.if-out-lt-SLIP.false p r.read_text-reading.result.normal (normal r.before.before.before.before.before.before) in
    (ap Written w.write_normal-bytes.ensures.0 ∙ t.0, w.write_normal-bytes.ensures.1 ∙ t.1)

returns-3 : tie.Need-returns-in-Refused
returns-3 c = let r = c in
    let s = r in
    let p = sym (ap (λ (x : Reading). x.answer) r.read_text-reading.ensures) ∙ c.in-Refused.is in
    slip-refused s.args.kind s.args.text.now s.args.out.now r.if-out-lt-SLIP.false c.in-Refused.why c.in-Refused.row p

pub normalise_spec : {M : Type 1} → statement M
normalise_spec =
    tie.close
    (tie.spec
    returns
    read-text-requires
    enum_told
    write-normal-requires
    enum-known-answer
    same_length
    returns-2
    returns-3)
