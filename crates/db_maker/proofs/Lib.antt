pub mod BoundLaws
pub mod DatabaseLaws
pub mod EntryLaws
pub mod LoadLaws
pub mod MakingLaws
pub mod PageLaws
pub mod RowLaws
pub mod SchemaLaws
