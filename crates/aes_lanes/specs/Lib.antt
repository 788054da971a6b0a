pub mod Bits
pub mod Planes
pub mod Gates
pub mod Steps
pub mod States
pub mod Transposed
pub mod Blocks
