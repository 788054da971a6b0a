pub mod Folder
pub mod Log
pub mod LogLaws
pub mod MemCalls
