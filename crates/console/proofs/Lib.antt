pub mod LineRuns
pub mod ReplyRoom
pub mod ExchangeSteps
