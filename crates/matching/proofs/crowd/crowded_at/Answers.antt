use mathlib.Core.Path.{refl}
use mathlib.Core.List.{List}
use Prim.Native.Nat.{ℕ}
use Rattle.network.specs.Ready.{Ready}
use Rattle.candidates.specs.Frames.{whole}
use Rattle.candidates.specs.Laid.{LaidOut}
use Rattle.candidates.specs.declared.frame.Frame.{Frame}
use Rattle.candidates.proofs.Framing.{whole-contexts}
use Rattle.candidates.proofs.PortRows.{ports-of}
use Rattle.stepping.specs.Chains.{ChainsIn}
use Rattle.stepping.specs.Standing.{Standing}
use Rattle.ways.specs.Nodes.{NodeOf}
use Rattle.matching.proofs.crowd.crowded_at.Goals as goal

node : (sheet figure : Frame) (laid parts chains words : List ℕ) → Ready (whole sheet laid) (whole figure parts) → LaidOut (whole sheet laid) laid sheet.atom_count → LaidOut (whole figure parts) parts figure.atom_count
    → ChainsIn (whole sheet laid) chains → Standing (whole figure parts) words → NodeOf (whole sheet laid) (whole figure parts) sheet.atom_count sheet.class_count figure.class_count laid chains figure.atom_count parts words figure.marked figure.mark_count
node sheet figure laid parts chains words ready os of h w = record { ready = ready; sheet-links = refl; figure-links = refl; sheet-out = os; chains-in = h; figure-out = of; standing = w; figure-marked = refl; figure-marks = refl }

pub standing-words-requires : goal.standing-words-requires
standing-words-requires c =
    (_, ports-of (whole-contexts c.args.figure c.args.parts.now c.requires.0.figure-fit))

pub crowded-requires : goal.crowded-requires
crowded-requires c =
    let a = c.args in
    let r = c.requires in
    let sheet = whole a.sheet a.laid.now in
    let figure = whole a.figure a.parts.now in
    (sheet, figure, node a.sheet a.figure a.laid.now a.parts.now _ _ r.0 r.1 r.2 (c.chains.ensures sheet r.1) (c.standing-words.ensures figure _ (whole-contexts a.figure a.parts.now r.0.figure-fit)))

pub returns : goal.returns
returns c =
    let a = c.args in
    let r = c.requires in
    let sheet = whole a.sheet a.laid.now in
    let figure = whole a.figure a.parts.now in
    c.crowded.ensures sheet figure (node a.sheet a.figure a.laid.now a.parts.now _ _ r.0 r.1 r.2 (c.chains.ensures sheet r.1) (c.standing-words.ensures figure _ (whole-contexts a.figure a.parts.now r.0.figure-fit)))
