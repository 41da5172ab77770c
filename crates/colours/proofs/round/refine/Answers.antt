use Rattle.colours.proofs.RoundCode.{refined}
use Rattle.colours.proofs.round.refine.Goals as goal

pub returns : goal.returns
returns c = (c.next_atoms.ensures.0, c.next_links.ensures.0, refined c.args.laid.now c.args.n c.args.c c.args.atoms.now c.args.links.now c.next_atoms.new.atoms c.next_links.new.links c.add_all.new.around c.add_all.ensures.1 c.next_atoms.ensures.1 c.next_links.ensures.1)
