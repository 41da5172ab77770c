pub mod Passed
pub mod Demand
