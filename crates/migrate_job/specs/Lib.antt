pub mod Bound
pub mod Copied
pub mod Copying
pub mod Migrated
pub mod Stops
