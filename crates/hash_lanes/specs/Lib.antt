pub mod Lanes
pub mod Messages
pub mod Sha1Lanes
