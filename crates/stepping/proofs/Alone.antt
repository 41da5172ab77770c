-- Links of which no two go to one sheet link.
use Prim.Native.Nat.{ℕ, ◌-◌, ◌<◌}
use mathlib.Core.Path.{◌≡◌, subst}
use mathlib.Core.Logic.{◌≢◌}
use mathlib.Core.List.{List}
use lib.ListN.{get_or}
use Rattle.candidates.specs.declared.ports.PortSet.{PortSet}
use Rattle.network.specs.Reach.{Reach, stay}
use Rattle.stepping.specs.Labels.{Tie, AllAlone, MeetTied}

module _ (to : List ℕ) (none : ℕ) where
  -- where link i goes is flagged
  abbrev Flagged : List ℕ → ℕ → Type 0
  Flagged met i = get_or to i 0 ≢ none → get_or met (get_or to i 0 - 1) 0 ≡ 1

  -- no two of the first x links meet, and where they go is flagged
  abbrev pub AloneTo : ℕ → List ℕ → Type 0
  AloneTo x met = AllAlone x to none × ((i : ℕ) → i < x → Flagged met i)

-- then no steps are asked for
pub alone-tied : (sets : List PortSet) (rows links : ℕ) (to : List ℕ) (none : ℕ) → AllAlone links to none → MeetTied sets rows links to none
alone-tied sets rows links to none a x z w m = subst (Reach (Tie sets rows to) x) (a x z w m) stay
