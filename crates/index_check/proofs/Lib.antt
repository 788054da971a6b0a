pub mod CursorSteps
pub mod PlaceLemmas
pub mod LeastLemmas
pub mod WindowLemmas
pub mod RiseLemmas
pub mod RowLemmas
pub mod CountLemmas
pub mod SumLemmas
