pub mod Step
pub mod History
pub mod Laws
pub mod Word
pub mod Serial
