pub mod ChoreFacts
pub mod QueueFacts
pub mod LineFacts
pub mod WorldFacts
pub mod StepFacts
pub mod TurnFacts
pub mod JoinFacts
