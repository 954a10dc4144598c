-- The action that the driver asks for, from what has to be done at a card.
use Rattle.std.specs.Prelude.{ℕ, Option, Some, None}
use Rattle.driver_core.specs.declared.device.Chore.{Chore}
use Rattle.driver_core.specs.declared.device.Chore.TheVariants as chore
use Rattle.driver_core.specs.declared.todo.What.{What, TheVariants.{Mask, Unmask, Look, Ended, Sleep, Timer}}
use Rattle.poll_runs.specs.declared.run.RunReport.{RunReport}

-- the second number is the time of the device's timer
abbrev pub what_of : ℕ → ℕ → Chore → What
what_of id nanoseconds chore.Mask = Mask id
what_of id nanoseconds chore.Unmask = Unmask id
what_of id nanoseconds chore.Look = Look id
what_of id nanoseconds chore.Timer = Timer id nanoseconds

-- the report of a run that has ended
abbrev pub ended_in : What → Option RunReport
ended_in (Ended report) = Some report
ended_in (Sleep report) = Some report
ended_in what = None
