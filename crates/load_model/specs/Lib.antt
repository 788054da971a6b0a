pub mod Open
pub mod Stands
