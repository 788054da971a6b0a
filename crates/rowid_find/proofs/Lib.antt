mod Bounds
mod ChainSteps
mod FindSteps
mod OnceLemmas
mod PageSteps
mod RowSteps
pub mod SearchSteps
pub mod SoundFound
mod SoundTrees
mod TablePages
mod TableSteps
mod WantedSteps
