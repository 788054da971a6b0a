pub mod NodeLemmas
pub mod PageLemmas
pub mod StepLemmas
