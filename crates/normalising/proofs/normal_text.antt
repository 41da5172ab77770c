pub mod NormalRows
pub mod NormalWritten
