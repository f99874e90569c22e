pub mod CommandSteps
pub mod MoveSteps
pub mod ReplySteps
pub mod ReadingBack
