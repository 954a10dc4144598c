pub mod Ends
pub mod Fault
pub mod ReceiveRing
pub mod Taking
