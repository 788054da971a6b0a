pub mod Beside
pub mod Layouts
pub mod Lines
pub mod Literals
