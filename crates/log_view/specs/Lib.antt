pub mod View
pub mod ViewLaws
pub mod Refused
