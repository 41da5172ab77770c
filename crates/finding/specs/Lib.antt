pub mod Place
pub mod Passed
pub mod Inputs
