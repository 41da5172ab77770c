-- The laws of tests that are joined by or, and of a test that is turned round.
use mathlib.Core.Path.{◌≡◌, refl}
use mathlib.Core.Bool as bool
use mathlib.Core.Bool.{Bool, true, false, true≢false}
use Rattle.rows.specs.Pick.{or, not}

-- The code's negation is the definitions' one.
pub not-not : (b : Bool) → bool.not b ≡ not b
not-not true = refl
not-not false = refl

pub not-false : (b : Bool) → not b ≡ false → b ≡ true
not-false true e = refl
not-false false e = absurd (true≢false e)

pub or-true : (b : Bool) → or b true ≡ true
or-true true = refl
or-true false = refl

pub or-none : (b : Bool) → or b false ≡ b
or-none true = refl
or-none false = refl

pub or-false : (a b : Bool) → or a b ≡ false → (a ≡ false) × (b ≡ false)
or-false true b e = absurd (true≢false e)
or-false false b e = (refl, e)
