pub mod FitLaws
pub mod MadeLaws
