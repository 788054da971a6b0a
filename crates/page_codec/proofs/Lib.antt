pub mod Parts
pub mod PlainPages
pub mod Salt
pub mod SideBySide
pub mod TagPlace
pub mod PageFacts
