use borrow.Author.Rules.{rules}
use Rattle.linking.proofs.take.add_link.Statement.{statement}
use Rattle.linking.proofs.take.add_link.Tie as tie

place-link-requires : tie.Need-place_link-p-requires
place-link-requires c κs = search rules

count-with-requires : tie.Need-count_with-requires
count-with-requires c κs = search rules

same_length : tie.Need-shape_of-links
same_length c = search rules

same-length-2 : tie.Need-shape_of-classes
same-length-2 c = search rules

returns : tie.Need-returns
returns c = (c.count_with.ensures.0, λ w wired k. rw c.count_with.ensures.1 (c.place_link-p.ensures.1 w wired k).1, rw c.count_with.ensures.1 c.place_link-p.ensures.2)

pub add_link_spec : {M : Type 1} → statement M
add_link_spec =
    tie.close (tie.spec place-link-requires count-with-requires same_length same-length-2 returns)
