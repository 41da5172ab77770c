-- A component.
pub mod Marks
pub mod AtomRows
pub mod Growing
pub mod Whole
pub mod Parting
pub mod Serving
-- What is found.
pub mod Finding
