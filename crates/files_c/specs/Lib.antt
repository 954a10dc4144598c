pub mod ReplayFaults
pub mod Replay
pub mod Status
pub mod MachineFaults
pub mod Machine
pub mod Settings
