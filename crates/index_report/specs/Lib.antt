pub mod Verdicts
pub mod Summary
pub mod Lines
pub mod Report
pub mod Agreeing
