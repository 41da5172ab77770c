-- Words and halves.
pub mod Words
pub mod Sorting
-- Ways, followed and counted.
pub mod Steps
pub mod Trails
pub mod Refusing
-- Tables of a search node.
pub mod Telling
pub mod Guarding
pub mod GuardedLinks
pub mod Crowding
