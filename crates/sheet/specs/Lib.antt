pub mod Kinds
pub mod HeldLimits
pub mod Reading
pub mod Steps
pub mod Answer
pub mod Filling
