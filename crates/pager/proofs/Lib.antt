mod AheadLemmas
pub mod WholeReads
pub mod FirstPage
pub mod Filling
pub mod Pins
pub mod OpeningLemmas
pub mod ChangedLemmas
pub mod EndingLemmas
pub mod TxnLemmas
pub mod BatchLemmas
pub mod UnderWayLemmas
pub mod UnreadLemmas
pub mod Bases
pub mod Cutting
pub mod Headers
pub mod Refusals
pub mod Resealed
mod Sealed
