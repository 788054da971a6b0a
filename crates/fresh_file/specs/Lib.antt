pub mod Added
pub mod Draws
pub mod Fresh
pub mod Head
pub mod Held
pub mod Salted
pub mod Sealed
pub mod State
