pub mod Causes
pub mod Lines
pub mod Report
pub mod Schema
