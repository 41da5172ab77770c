-- Digits of words.
pub mod Digits
pub mod Halves
pub mod Members
pub mod Staying
mod NextDigit
pub mod Walking
mod Forcing
-- What a good placing does at links and atoms.
pub mod GoodPlaces
pub mod Kinship
pub mod NetRows
pub mod Sending
pub mod Hopeless
-- Atoms laid out in one array, and marks.
pub mod Laying
pub mod PortRows
pub mod Framing
pub mod Marks
pub mod Filling
