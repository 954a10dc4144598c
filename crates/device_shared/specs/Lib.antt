pub mod Callers
pub mod Ending
