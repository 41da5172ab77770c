pub mod Begun
pub mod NetIn
pub mod Ready
pub mod Sums
pub mod Reach
