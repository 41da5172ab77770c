pub mod Claim
pub mod Inputs
