pub mod Maps
pub mod Trunks
pub mod Settled
pub mod Beside
