pub mod AskedSteps
pub mod AskableLaws
