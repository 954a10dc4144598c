pub mod ClapFacts
pub mod OutFacts
