pub mod Filled
pub mod TrunkPage
pub mod AllTrunks
