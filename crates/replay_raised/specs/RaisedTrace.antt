-- A trace with the runs that the kernel adds, as a function of the bytes of a trace.
use Rattle.std.specs.Prelude.{ℕ, List, Option, Some, None, Result, Ok, Err}
use Rattle.device_rows.specs.{Trace.{records_of, trace_of, version_in}, declared.fault.TraceFault.TraceFault, declared.row.Row.Row}
use Rattle.replay_raised.specs.{Raised.raised_rows, TraceText.trace_text}
use Rattle.text_io.specs.{declared.fault.ReplayFault.ReplayFault, declared.fault.ReplayFault.TheVariants.Trace}
use Rattle.text_io.specs.declared.settings.ReplaySettings.{ReplaySettings}

-- the rows, with at most this many added runs after each softirq row; without a number there are none
abbrev pub with_added_runs : ReplaySettings → Option ℕ → List Row → Result (List Row) ReplayFault
with_added_runs s None rows = Ok rows
with_added_runs s (Some restarts) rows = raised_rows s restarts rows

abbrev pub text_in : ℕ → Result (List Row) ReplayFault → Result (List ℕ) ReplayFault
text_in version (Ok rows) = Ok (trace_text version rows)
text_in version (Err fault) = Err fault

abbrev pub raised_result : ReplaySettings → Option ℕ → ℕ → Result (List Row) TraceFault → Result (List ℕ) ReplayFault
raised_result s restarts version (Ok rows) = text_in version (with_added_runs s restarts rows)
raised_result s restarts version (Err fault) = Err (Trace fault)

-- the text of the trace of these bytes, with the added runs, or its first error
abbrev pub raised_trace : ReplaySettings → Option ℕ → List ℕ → Result (List ℕ) ReplayFault
raised_trace s restarts bytes = raised_result s restarts (version_in (records_of bytes)) (trace_of (records_of bytes))
