-- The rows of a filling.
pub mod FillingRows
pub mod Given
pub mod Texts
-- Contexts by number.
pub mod Ranks
-- A slip has room.
pub mod Room
-- One turn of each loop.
pub mod Atoms
pub mod Steps
-- One filling, and the list.
pub mod Filled
pub mod Listed
