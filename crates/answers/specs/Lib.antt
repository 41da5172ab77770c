pub mod Done
pub mod Compared
pub mod Claimed
pub mod AnswerRow
pub mod Values
