pub mod Parts
pub mod Setting
pub mod Tried
pub mod Word
pub mod Wording
