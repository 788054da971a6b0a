pub mod Lending
pub mod Pages
pub mod Frames
pub mod Index
pub mod Tied
pub mod Cache
