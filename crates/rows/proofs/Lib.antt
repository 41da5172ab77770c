pub mod Bools
pub mod RowLaws
pub mod RowRange
pub mod BlankField
pub mod Lists
pub mod Padding
pub mod Ports
pub mod Rows
