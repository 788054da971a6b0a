pub mod Blank
pub mod Entries
pub mod Naming
pub mod FreeLast
pub mod Effects
pub mod CallerLemmas
pub mod Options
mod Newest
