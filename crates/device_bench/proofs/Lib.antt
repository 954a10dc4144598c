pub mod BenchFacts
pub mod DeviceFacts
pub mod EndingFacts
pub mod SideFacts
pub mod Waiting
pub mod InstanceFacts
