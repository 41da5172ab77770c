pub mod Users
pub mod Steps
