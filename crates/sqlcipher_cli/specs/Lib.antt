pub mod Exit
pub mod KeyLines
pub mod Named
pub mod Plain
