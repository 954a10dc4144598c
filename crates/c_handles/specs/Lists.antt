-- A poll list of one thread and the run over it, whose polls the C program makes: how many of the list's numbers the run holds.
use Rattle.{std.specs.Prelude.{ℕ, Bool, true, false, Option, Some, None}, poll_runs.specs.Driven.held}
use Rattle.poll_runs.specs.declared.polling_run.PollingRun.{PollingRun}

-- how many of the list's numbers the run holds; 0 if there is no run
abbrev pub held_by_run : Option PollingRun → ℕ
held_by_run None = 0
held_by_run (Some run) = held run

-- the run that is stored with a list, if one is in progress
abbrev pub run_in : Bool → PollingRun → Option PollingRun
run_in true place = Some place
run_in false place = None
