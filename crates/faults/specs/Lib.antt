pub mod Grows
pub mod Gives
pub mod Parts
pub mod Finds
