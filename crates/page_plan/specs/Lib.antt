pub mod Planned
pub mod Stops
