pub mod Knowledge
pub mod Slot
pub mod Rule
pub mod Events
pub mod Operations
pub mod Atoms
pub mod Passes
pub mod Ends
