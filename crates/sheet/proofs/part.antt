pub mod FillingLaws
pub mod HeadRows
