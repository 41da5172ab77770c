pub mod Count
pub mod Steps
