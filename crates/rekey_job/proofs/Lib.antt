pub mod Checked
pub mod Stopped
pub mod Rewriting
pub mod Renewed
pub mod Committed
