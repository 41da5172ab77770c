use Rattle.std.proofs.Common.{ℕ, List, length, get_or, ap, ◌∙◌}
use lib.ListN.{length-replicate}
use Rattle.rows.specs.Limits.{sheet_atom_limit}
use Rattle.rows.proofs.Padding.{get_d-filled}
use Rattle.candidates.specs.Frames.{whole}
use Rattle.candidates.proofs.Laying.{laid-rowed}
use Rattle.candidates.proofs.Marks.{own-marks}
use Rattle.colours.proofs.Coloured.{first-agree}
use Rattle.colours.proofs.colour.first_colours.Goals as goal

pub sizes_of-requires : goal.sizes_of-requires
sizes_of-requires c =
    (laid-rowed (whole c.args.net c.args.laid.now) c.args.laid.now _ c.requires.0, c.requires.1, ap length c.requires.2 ∙ length-replicate {A = ℕ} sheet_atom_limit 0, λ t. ap (λ (l : List ℕ). get_or l t 0) c.requires.2 ∙ get_d-filled {A = ℕ} 0 sheet_atom_limit t)

pub returns : goal.returns
returns c = let net = whole c.args.net c.args.laid.now in
    let marks = own-marks net c.requires.0.fit c.requires.0.normal in
    (c.first_atoms.ensures.0, c.first_links.ensures.0, (_, c.sizes_of.ensures.1 net c.requires.0, first-agree net c.args.laid.now _ c.requires.0 c.sizes_of.new.sizes c.first_atoms.new.atoms c.first_links.new.links c.first_atoms.ensures.1 (c.first_links.ensures.1 net marks)))
