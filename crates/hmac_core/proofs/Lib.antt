pub mod Blocks
pub mod HmacLemmas
pub mod KeyBlock
pub mod Links
pub mod XorFacts
