pub mod Graph
pub mod Normal
pub mod Labels
pub mod Agrees
pub mod NormalSheet
pub mod Made
pub mod Readings
