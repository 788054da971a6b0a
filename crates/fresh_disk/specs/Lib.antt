pub mod Beside
pub mod OnlyFresh
pub mod Place
pub mod Published
pub mod Torn
