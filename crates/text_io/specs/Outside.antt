-- Errors that aren't in the text of the trace.
use Rattle.std.specs.Prelude.{◌≡◌}
use Rattle.device_rows.specs.{Failures.IsTraceOutOfMemory, Source.IsReadFailure}
use Rattle.device_rows.specs.declared.fault.TraceFault.TheVariants.{OutOfMemory}
use Rattle.text_io.specs.Stops.{HasStopped}
use Rattle.text_io.specs.declared.fault.ReplayFault.{ReplayFault}
use Rattle.text_io.specs.declared.fault.ReplayFault.TheVariants.{Trace, Pending, RingTooSmall, GateShut, OutputFailed}
use Rattle.text_io.specs.declared.fault.ReplayFault.TheVariants.{SpawnFailed}

-- the error is an allocation that failed
abbrev pub IsReplayOutOfMemory : ReplayFault → Type 0
IsReplayOutOfMemory fault = (fault ≡ Trace OutOfMemory) × IsTraceOutOfMemory

-- the reader, an allocation or the writer failed; a replay that starts no thread has no errors of threads
abbrev pub IsOutside : ReplayFault → Type 0
IsOutside (Trace fault) = IsReadFailure fault
IsOutside (Pending row) = ⊥
IsOutside (RingTooSmall device needs) = ⊥
IsOutside GateShut = ⊥
IsOutside OutputFailed = HasStopped
IsOutside SpawnFailed = ⊥
