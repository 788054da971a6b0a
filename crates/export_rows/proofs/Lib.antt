pub mod ColumnSteps
pub mod CursorSteps
pub mod Handing
pub mod ItemText
pub mod SchemaText
pub mod TreeText
pub mod Zeros
