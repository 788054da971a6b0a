pub mod Causes
pub mod Order
pub mod Pins
pub mod Marks
pub mod Chain
pub mod Turn
pub mod Cursor
