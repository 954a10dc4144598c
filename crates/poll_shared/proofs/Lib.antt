pub mod TriesFacts
pub mod SeatFacts
