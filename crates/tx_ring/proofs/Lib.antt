pub mod Sums
pub mod Done
