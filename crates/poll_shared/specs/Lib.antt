pub mod Tries
pub mod Seat
pub mod SeatLaws
