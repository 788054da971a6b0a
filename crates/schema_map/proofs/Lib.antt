pub mod CursorFacts
pub mod FewerMarks
pub mod PartLemmas
pub mod SchemaLemmas
pub mod SoundParts
pub mod TreesLemmas
pub mod WholeLemmas
