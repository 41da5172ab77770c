pub mod Swap
pub mod Inputs
pub mod Given
pub mod FilledFrom
