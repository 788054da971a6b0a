pub mod Append
pub mod Building
pub mod CellBack
pub mod ReadBack
