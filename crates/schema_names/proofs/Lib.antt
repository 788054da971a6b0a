pub mod NearSteps
