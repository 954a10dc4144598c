pub mod Accepted
pub mod Bounds
pub mod Counter
pub mod Dql
pub mod Fault
pub mod Limit
