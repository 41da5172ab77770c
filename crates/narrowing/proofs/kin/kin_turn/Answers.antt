-- The atom that has link x decides where it goes.
use Rattle.std.proofs.Common.{◌≡◌, ℕ, true, Option, None, Some, IfSome, is_some, sym, ◌∙◌}
use Rattle.narrowing.proofs.Turns.{kin-narrows}
use Rattle.narrowing.proofs.kin.kin_turn.Goals as goal

-- what is there
there : {P : ℕ → Type 0} → (o : Option ℕ) → is_some o ≡ true → IfSome o P → (i : ℕ) × P i
there None e p = cc
there (Some i) e p = (i, p)

pub returns-then-is_some : goal.returns-then-is_some
returns-then-is_some c =
    let a = c.args in
    let w = there c.owner_of.result (sym c.is_some.ensures ∙ c.if-is_some.true) c.owner_of.ensures in
    λ sheet n figure m atoms users. let u = users.only w.0 w.1.0 a.x w.1.1 c.requires.0 w.1.2 in kin-narrows a.kin.now sheet n figure m atoms a.links.now c.alone_link.new.links a.x w.0 w.1.0 u.0 u.1 u.2 c.alone_link.ensures
