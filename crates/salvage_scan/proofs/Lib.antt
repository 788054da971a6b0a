mod AheadSteps
mod AnswerSteps
mod ChainSteps
mod PageSteps
mod RoomSteps
mod ScanSteps
