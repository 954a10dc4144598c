pub mod Fault
pub mod Queue
pub mod Ring
