pub mod AsRead
pub mod ImagePicks
pub mod LogSteps
pub mod Names
