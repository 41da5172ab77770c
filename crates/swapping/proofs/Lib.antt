-- Fillings of a placing, as a list that would be read again.
pub mod ReplacementBlanks
pub mod ListWhole
pub mod GivenPart
-- The code.
pub mod GivenTurns
pub mod GivenParts
pub mod SwapCode
