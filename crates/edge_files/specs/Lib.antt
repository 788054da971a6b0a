pub mod Around
pub mod Known
pub mod Looks
pub mod Pair
pub mod Parts
pub mod PutBack
pub mod Purposes
