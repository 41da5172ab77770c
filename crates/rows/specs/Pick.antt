-- A choice by a test.
use Rattle.std.specs.Prelude.{Bool, true, false}

abbrev pub pick {ℓ} : {A : Type ℓ} → Bool → A → A → A
pick true a b = a
pick false a b = b

abbrev pub not : Bool → Bool
not b = pick b false true

abbrev pub and : Bool → Bool → Bool
and a b = pick a b false

abbrev pub or : Bool → Bool → Bool
or a b = pick a true b
