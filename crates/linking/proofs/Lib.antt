pub mod Wired
pub mod Loops
pub mod Arrays
pub mod RowLinks
pub mod Hints
pub mod RowMarks
pub mod TakeRow
