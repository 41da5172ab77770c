pub mod Joining
pub mod Allowing
