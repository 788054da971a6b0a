pub mod AlikeLemmas
pub mod EntryLemmas
pub mod OpenLemmas
pub mod PlainLemmas
pub mod RootLemmas
pub mod RowidLemmas
pub mod StandsLemmas
