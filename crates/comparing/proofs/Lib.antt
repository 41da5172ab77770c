pub mod Comparing
pub mod Theorems
pub mod WorkedCompare
