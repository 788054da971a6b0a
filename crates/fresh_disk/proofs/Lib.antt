pub mod RunLaws
pub mod PlaceLaws
