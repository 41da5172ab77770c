use Rattle.std.proofs.Common.{◌≡◌, ℕ, ◌<◌, ◌≤◌, ◌≢◌, take, sym, refl, ◌∙◌, arith}
use Rattle.network.proofs.NetIn.{used-length, used-at}
use Rattle.candidates.specs.Laid.{link_of}
use Rattle.colours.specs.Colours.{first_at}
use Rattle.colours.proofs.MixLaws.{first-at}
use Rattle.rows.specs.Limits.{sheet_link_limit}
use Rattle.rows.specs.declared.Atom.{Atom}
use Rattle.network.specs.NetIn.{Used}
use Rattle.colours.proofs.atom.first_place.Goals as goal

-- the first place is h, where h has the link and no place before it
first-there : (a : Atom) (k h : ℕ) → Used sheet_link_limit a.count a.links → k < a.count → h ≤ k → ((g : ℕ) → g < h → link_of a g ≢ link_of a k) → link_of a h ≡ link_of a k
    → h ≡ first_at (link_of a k) (take a.count a.links)
first-there a k h u m b n e =
    sym (first-at (link_of a k) (take a.count a.links) h (omega (arith, used-length sheet_link_limit a.count a.links u)) (used-at sheet_link_limit a.count a.links u h (omega arith) ∙ e)
    (λ g i q. n g i (sym (used-at sheet_link_limit a.count a.links u g (omega arith)) ∙ q)))

pub returns-then-atom-h : goal.returns-then-atom-h
returns-then-atom-h c = first-there c.args.atom c.args.k c.loop-h.h c.requires.0 c.requires.1 (omega arith) c.loop-h.invariant c.if-atom-h.true

pub returns : goal.returns
returns c = first-there c.args.atom c.args.k c.args.k c.requires.0 c.requires.1 (omega arith) (λ g b. c.loop-h.invariant g (omega arith)) refl
