pub mod Raised
pub mod RaisedTrace
pub mod Raising
pub mod TraceText
