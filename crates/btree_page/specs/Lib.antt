pub mod Payload
pub mod Cell
pub mod Kind
pub mod Page
pub mod Shown
pub mod Step
