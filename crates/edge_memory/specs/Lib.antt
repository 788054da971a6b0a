pub mod Gate
pub mod Image
pub mod Log
pub mod LogLaws
pub mod MemDisk
pub mod Memory
pub mod Picks
pub mod Replay
