pub mod CellBytes
pub mod Draft
pub mod Written
