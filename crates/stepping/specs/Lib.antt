pub mod Labels
pub mod Flags
pub mod Contexts
pub mod Chains
pub mod Standing
pub mod Plain
