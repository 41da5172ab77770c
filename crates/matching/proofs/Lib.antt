pub mod SearchLaws
pub mod Pruning
pub mod SearchTurns
pub mod SearchWhole
mod Forcing
mod Searching
pub mod Leftover
