-- What a line says, from what is computed of its texts.
pub mod Ending
pub mod Placing
pub mod Computed
-- The table.
pub mod Starred
