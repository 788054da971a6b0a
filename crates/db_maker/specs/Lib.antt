pub mod Made
pub mod Pages
pub mod Parts
pub mod Rows
