pub mod read
