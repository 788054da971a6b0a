pub mod Ahead
pub mod Answer
pub mod Chain
pub mod Room
pub mod Salvage
pub mod Scan
pub mod Text
