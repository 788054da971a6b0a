pub mod Put
pub mod Stops
