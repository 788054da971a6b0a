pub mod Joined
pub mod Laid
pub mod Parts
pub mod Sha1Parts
pub mod Sha1Windows
pub mod Windows
pub mod Written
