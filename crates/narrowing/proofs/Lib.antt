-- Steps on the arrays keep good placings in the sets.
pub mod Obeying
pub mod Turns
-- A choice of the search.
pub mod Choice
-- Atoms that have a link, and those that may not have one.
pub mod Adding
pub mod Barring
