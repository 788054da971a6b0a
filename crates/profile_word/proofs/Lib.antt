pub mod Examples
pub mod Gathering
pub mod Listing
pub mod PartLaws
pub mod TriedLaws
