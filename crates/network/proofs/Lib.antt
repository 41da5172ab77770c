pub mod NetIn
pub mod SamePorts
pub mod Nowhere
pub mod NetRead
pub mod Swapped
pub mod Sums
pub mod Reaching
