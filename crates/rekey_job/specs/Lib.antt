pub mod Draws
pub mod Rekeyed
pub mod Rewritten
pub mod Stops
