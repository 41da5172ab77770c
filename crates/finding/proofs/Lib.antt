-- Blanks that have fillings.
pub mod Blanks
-- The code.
pub mod PlaceCode
