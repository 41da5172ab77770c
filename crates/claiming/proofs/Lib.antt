-- Filled figures.
pub mod FilledAtoms
pub mod Listed
-- The code.
pub mod ClaimCode
