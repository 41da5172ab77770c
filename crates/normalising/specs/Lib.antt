pub mod NormalText
pub mod NormalRows
