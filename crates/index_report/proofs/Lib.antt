pub mod JudgeSteps
pub mod LineSteps
pub mod RowSteps
pub mod RiseSteps
pub mod AgreeSteps
