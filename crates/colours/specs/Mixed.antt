-- The functions that mix numbers, as code computes them. No law asks what they are.
use Rattle.std.specs.Prelude.{ℕ, ◌+◌, ◌*◌, ◌/◌, ◌%◌, ◌^◌, List, [], ◌∷◌, bit_or, bit_xor}
use Rattle.colours.specs.Colours.{Mixing}

abbrev pub half : ℕ
half = 4294967296

abbrev pub word_size : ℕ
word_size = 2 ^ 64

-- by two odd factors, for the lower and the upper half of a word
unfoldable pub scattered : ℕ → ℕ
scattered x = bit_xor (x % half * 2654435761) (x / half * 2246822519)

unfoldable pub mixed : ℕ → ℕ → ℕ
mixed a b = scattered (bit_xor a b)

-- one number after the other
unfoldable pub mixed_all : ℕ → List ℕ → ℕ
mixed_all a [] = a
mixed_all a (b ∷ l) = mixed_all (mixed a b) l

-- a name, or a mark, does not stay the small number that it is
abbrev pub seed : ℕ
seed = 11400714819323198485

unfoldable pub joined_marks : List ℕ → ℕ
joined_marks [] = 0
joined_marks (m ∷ l) = bit_or (mixed seed m) (joined_marks l)

abbrev pub mixing : Mixing
mixing = record {
  atom_first = λ name size shape. mixed_all (mixed (mixed seed name) size) shape;
  link_first = joined_marks;
  atom_next = mixed_all;
  at_place = λ c k. mixed c (k + 1);
  link_next = λ c s. mixed c (s % word_size);
}
