pub mod Bytes
pub mod Sums
pub mod Header
pub mod Frames
pub mod Logs
pub mod Examples
