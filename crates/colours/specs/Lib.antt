pub mod Colours
pub mod Pieces
pub mod Mixed
pub mod Arrays
