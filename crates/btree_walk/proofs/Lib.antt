pub mod CauseLemmas
pub mod ChainLemmas
pub mod CursorLemmas
pub mod OrderSteps
pub mod PathLemmas
pub mod TurnLemmas
pub mod MarkLemmas
