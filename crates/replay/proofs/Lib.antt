pub mod DealFacts
pub mod OpeningFacts
pub mod Rows
pub mod ScriptFacts
pub mod StationFacts
pub mod DistinctNumbers
