pub mod ScriptText
pub mod Progress
pub mod Stopping
pub mod RunSteps
pub mod InOrder
