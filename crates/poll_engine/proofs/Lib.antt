pub mod EndLists
pub mod OrderSteps
pub mod PushCounts
pub mod ListFacts
mod Walks
pub mod ActSteps
pub mod LedgerSteps
pub mod Listings
mod EndSideFacts
pub mod SeatFacts
pub mod RunFacts
pub mod NumberFacts
pub mod PollerFacts
mod EndFacts
