pub mod PlayFacts
pub mod RunFacts
pub mod RunLogFacts
