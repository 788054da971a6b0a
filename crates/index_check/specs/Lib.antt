pub mod Agree
pub mod Checked
pub mod Window
