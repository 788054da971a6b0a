pub mod Answers
pub mod Committed
pub mod Committing
pub mod Counting
pub mod Fresh
mod Lookups
pub mod Places
pub mod PutOver
pub mod Recovered
pub mod Runs
pub mod Shared
pub mod Sound
pub mod Standing
pub mod Written
