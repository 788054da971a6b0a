pub mod Bytes
pub mod Causes
pub mod Files
pub mod Images
pub mod Moments
pub mod OnlyRead
pub mod Silent
