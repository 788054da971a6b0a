pub mod Escapes
pub mod HeaderLemmas
pub mod RecordLemmas
pub mod RelationLemmas
pub mod RowLemmas
pub mod SerialLemmas
mod SeenLemmas
pub mod TextLemmas
pub mod VarintLemmas
