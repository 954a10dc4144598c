pub mod PollFacts
pub mod PlanFacts
pub mod PollingFacts
pub mod BusyFacts
pub mod RunFacts
pub mod PlainFacts
pub mod FunctionFacts
