pub mod Moving
pub mod ValueSteps
