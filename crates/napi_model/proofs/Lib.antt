pub mod SeenCases
pub mod Words
pub mod Histories
pub mod Owners
pub mod Tells
