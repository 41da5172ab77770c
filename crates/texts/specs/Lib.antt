pub mod Texts
pub mod Reached
pub mod NormalOrder
pub mod Fitting
