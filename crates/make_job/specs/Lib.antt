pub mod Free
pub mod Made
pub mod Stops
pub mod Written
