pub mod Guarded
pub mod Around
pub mod PutBack
