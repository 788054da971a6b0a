pub mod MacKey
pub mod Page
pub mod Pages
