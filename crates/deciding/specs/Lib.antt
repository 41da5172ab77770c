pub mod Agrees
pub mod Bars
pub mod Flags
pub mod Kinds
pub mod Links
pub mod Several
