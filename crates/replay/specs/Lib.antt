pub use Rattle.device_rows.specs.Failures
pub use Rattle.device_rows.specs.Trace
pub use Rattle.text_io.specs.Defaults
pub use Rattle.text_io.specs.Refusals
pub use Rattle.text_io.specs.Args
pub use Rattle.text_io.specs.declared.mode.ReplayMode as Mode
pub use Rattle.text_io.specs.declared.settings.ReplaySettings as Settings
pub use Rattle.text_io.specs.declared.args.WordFault
pub use Rattle.text_io.specs.Fault
pub use Rattle.text_io.specs.Outside
pub use Rattle.text_io.specs.Stops
pub use Rattle.text_io.specs.Written
pub use Rattle.text_io.specs.declared.fault.ReplayFault
pub use Rattle.replay_rows.specs.Answer
pub use Rattle.replay_raised.specs.Raised
pub use Rattle.replay_raised.specs.RaisedTrace
pub use Rattle.replay_rows.specs.Report
pub use Rattle.replay_raised.specs.TraceText
pub mod Script
pub mod ScriptShown
pub mod Dealing
pub mod ThreadsReport
pub mod ThreadsStations
pub mod ThreadsAnswer
pub mod SharedRun
