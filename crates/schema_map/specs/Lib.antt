pub mod Root
pub mod Part
pub mod Schema
pub mod Parts
pub mod Started
pub mod Census
pub mod Alone
