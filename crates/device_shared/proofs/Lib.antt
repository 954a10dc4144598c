pub mod CallersFacts
pub mod ClosingFacts
pub mod OpeningFacts
