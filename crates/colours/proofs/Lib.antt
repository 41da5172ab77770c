-- A good placing without contexts.
pub mod Bijection
pub mod Sent
-- What it keeps.
pub mod PieceLaws
pub mod ColourLaws
-- Numbers mixed, one after the other.
pub mod MixLaws
pub mod SumLaws
pub mod MarkLaws
-- Colours in arrays.
pub mod PieceCode
pub mod SizeCode
pub mod RoundCode
pub mod Coloured
-- An example, computed.
pub mod Worked
