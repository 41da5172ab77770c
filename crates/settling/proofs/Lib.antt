pub mod States
pub mod Trying
pub mod Beyond
pub mod SettleLaws
pub mod Starting
pub mod Whole
