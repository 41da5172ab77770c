pub mod Completed
pub mod Completes
pub mod Beyond
