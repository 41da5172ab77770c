pub mod Halves
pub mod Agrees
pub mod Trails
pub mod Nodes
pub mod Flow
