mod Vectors
mod TableFacts
mod WordFacts
pub mod ByteFacts
pub mod FieldFacts
pub mod MixFacts
mod StepFacts
mod RoundTrip
pub mod KeyFacts
mod ScheduleFacts
mod CipherFacts
mod InverseFacts
mod Remainder
