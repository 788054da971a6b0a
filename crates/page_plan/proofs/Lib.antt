pub mod Accepting
pub mod Planning
pub mod Results
pub mod SoFar
