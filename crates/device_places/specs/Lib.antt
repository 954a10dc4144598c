pub mod Places
pub mod Range
