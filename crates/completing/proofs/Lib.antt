-- Lists, and what is decided.
pub mod Lists
pub mod Decide
-- Faults, and what they need.
pub mod Kept
pub mod Needs
-- One link settled.
pub mod Put
pub mod Interchange
-- Links that need not be tried.
pub mod OneRow
-- Sheet links that need not be tried.
pub mod Shifted
pub mod Neighbours
-- Without a fault.
pub mod Completed
pub mod NoFault
pub mod Completing
-- A component, grown by a loop.
pub mod Growing
-- The least completion.
pub mod Settling
pub mod SettlingLoop
pub mod State
pub mod Leaf
-- What is known of the completions.
pub mod Known
pub mod Remaining
pub mod Barring
-- Ways between two halves of the contexts.
pub mod Halves
pub mod Ways
