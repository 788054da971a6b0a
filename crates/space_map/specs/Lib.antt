pub mod Walk
pub mod FreeMap
