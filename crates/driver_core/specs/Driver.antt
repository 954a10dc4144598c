-- The state of a driver, and what it asks the caller to do.
use Rattle.std.specs.Prelude.{◌≡◌, ◌≢◌, ◌⊎◌, ◌≤◌, ◌<◌, ◌+◌, ℕ, Bool, true, false, List, [], ◌∷◌, ◌++◌, length, replicate}
use Rattle.std.specs.Prelude.{slice_set, Option, Some, None, ◌&&◌, not, nat_lt, if◌then◌else◌, slice_index_or}
use Rattle.std.specs.Prelude.{◌↔◌, ⊤, Result, IsOk, OnOk, OnErr, IfErr, IsSome}
use Rattle.std.specs.{List.{All}, Int.{bit_at}}
use Rattle.std.specs.Prelude.{Err, ◌==◌, ◌||◌, is_some}
use Rattle.poll_runs.specs.{Laws.IsPlainRun, declared.run.RunReport.RunReport}
use Rattle.driver_core.specs.declared.limits.Limits.{Limits}
use Rattle.poll_runs.specs.{Driven.IsGoing, Steps.HoldsNothing, Plain.{NothingBehind, OwnPushes, all_held}, Polls.{Poll, work_of}}
use Rattle.poll_runs.specs.{Turn.asked_for, declared.bench.Next.Next}
use Rattle.driver_core.specs.declared.device.{Chore.Chore, DriverDevice.DriverDevice, Stage.{Stage, TheVariants.Closed}}
use Rattle.driver_core.specs.declared.device.Chore.TheVariants as chore
use Rattle.driver_core.specs.declared.device.Rearm.{Rearm}
use Rattle.driver_core.specs.{Counts.{count_one_poll, no_counts}, declared.counts.PollCounts.PollCounts}
use Rattle.driver_core.specs.Pacing.{paced_after, defers, new_pacing, plain_settings, keeps_polling}
use Rattle.driver_core.specs.declared.pacing.{DeviceSettings.DeviceSettings, Pacing.Pacing}
use Rattle.driver_core.specs.Device.{after_interrupt, in_stage, chore_at, did, stage_is_listed, after_driver_poll, completes, IsAtRest}
use Rattle.driver_core.specs.Queue.{OnlyMask, device_at, following, occurs}
use Rattle.driver_core.specs.Todo.{ended_in}
use Rattle.driver_core.specs.declared.{driver.Driver.Driver, todo.Todo.Todo, todo.Refused.{Refused, TheVariants.TooMany}}
use Rattle.driver_core.specs.declared.todo.What.{What, TheVariants.{Mask, Unmask, Look, Timer, Fetch, Ended, Sleep}}

abbrev pub driver_devices : Driver → List DriverDevice
driver_devices driver = driver.devices.all.items

abbrev pub device_of : Driver → ℕ → DriverDevice
device_of driver id = device_at (driver_devices driver) id

abbrev pub stage_of : Driver → ℕ → Stage
stage_of driver id = (device_of driver id).stage

abbrev pub poll_counts_of : Driver → ℕ → PollCounts
poll_counts_of driver id = slice_index_or driver.counts.items id no_counts

abbrev pub no_pacing : Pacing
no_pacing = new_pacing (plain_settings 0)

-- the settings of a device, and what is counted for them
abbrev pub pacing_of : Driver → ℕ → Pacing
pacing_of driver id = slice_index_or driver.pacings.items id no_pacing

-- the packets that a poll of this device takes at most
abbrev pub weight_of : Driver → ℕ → ℕ
weight_of driver id = (pacing_of driver id).settings.weight

-- the time of this device's timer
abbrev pub timeout_of : Driver → ℕ → ℕ
timeout_of driver id = (pacing_of driver id).settings.gro_flush_timeout

-- no poll is counted
abbrev pub IsUncounted : Driver → Type 0
IsUncounted driver = (id : ℕ) → poll_counts_of driver id ≡ no_counts

-- the devices that are polled before any other one, in order: the one that is being polled, the others that the run polls, and those on
-- the poll list
abbrev pub line_of : Driver → List ℕ
line_of driver = asked_for driver.run.asked ++ driver.run.own ++ driver.list

-- devices only join the line, at its end
abbrev pub AddsToLine : Driver → Driver → Type 0
AddsToLine before after = (more : List ℕ) × (line_of after ≡ line_of before ++ more)

-- the devices that are on the poll list and not in a run yet, in order
abbrev pub list_of : Driver → List ℕ
list_of driver = driver.list

abbrev pub driver_limits : Driver → Limits
driver_limits driver = driver.limits

-- a run is in progress
abbrev pub is_running : Driver → Bool
is_running driver = driver.runs

-- the caller has ended the run in progress: it makes no further poll
abbrev pub is_ending : Driver → Bool
is_ending driver = driver.ending

-- the device that is being polled
abbrev pub polled_device : Driver → Option ℕ
polled_device driver = driver.run.asked

-- the action at a card that was asked for last, if it isn't reported yet
abbrev pub said_of : Driver → Option (ℕ × Chore)
said_of driver = driver.said

-- the number of the action that was asked for last
abbrev pub said_number_of : Driver → ℕ
said_number_of driver = driver.number

-- the driver waits for no report
abbrev pub AwaitsNothing : Driver → Type 0
AwaitsNothing driver = (said_of driver ≡ None) × (polled_device driver ≡ None)

-- an action waits for its report, and not under this number
abbrev pub awaits_another : ℕ → Driver → Bool
awaits_another number driver =
    not (number == said_number_of driver) && (is_some (polled_device driver) || is_some (said_of driver))

-- ---- the effect of calls

-- the run, the limits of runs, the counts and the number are unchanged
pub record SameRun (before after : Driver) : Type 0 where
  pub run : after.run ≡ before.run
  pub runs : after.runs ≡ before.runs
  pub ending : after.ending ≡ before.ending
  pub limits : after.limits ≡ before.limits
  pub pacings : after.pacings ≡ before.pacings
  pub counts : after.counts ≡ before.counts
  pub number : after.number ≡ before.number

-- the device joins the list when it comes from the first stage to the second
abbrev pub joining : ℕ → Stage → Stage → List ℕ
joining id from to = if not (stage_is_listed from) && stage_is_listed to then id ∷ [] else []

-- the device with this number is replaced, and if it is listed only now, it is the last one on the list; nothing else changes, except
-- that the action asked for last may not be due any more
pub record PutsDevice (id : ℕ) (to : DriverDevice) (before after : Driver) : Type 0 where
  pub devices : driver_devices after ≡ slice_set (driver_devices before) id to
  pub list : after.list ≡ before.list ++ joining id (stage_of before id) to.stage
  pub same : SameRun before after
  pub said : (said_of after ≡ said_of before) ⊎ (said_of after ≡ None)
  -- an action that is still due stays asked for
  pub stays : (k : ℕ) (chore : Chore) → said_of before ≡ Some (k, chore) → (k ≢ id) ⊎ (chore_at to.stage ≡ Some chore)
      → said_of after ≡ said_of before

-- the device with this number is replaced; and if it is listed now, it is the last one on the list
pub record PutsOnList (id : ℕ) (to : DriverDevice) (before after : Driver) : Type 0 where
  pub devices : driver_devices after ≡ slice_set (driver_devices before) id to
  pub list : after.list ≡ before.list ++ (if stage_is_listed to.stage then id ∷ [] else [])
  pub same : SameRun before after
  pub free : AwaitsNothing after

-- the action at the card of a device was done
abbrev pub DoesChore : ℕ → Chore → Bool → Driver → Driver → Type 0
DoesChore id chore has_more before after = PutsOnList id (did chore has_more (device_of before id)) before after

-- the device gets these settings, and nothing else changes
pub record SetsDevice (id : ℕ) (settings : DeviceSettings) (before after : Driver) : Type 0 where
  pub pacings : after.pacings.items ≡ slice_set before.pacings.items id (new_pacing settings)
  pub devices : after.devices ≡ before.devices
  pub list : after.list ≡ before.list
  pub run : after.run ≡ before.run
  pub runs : after.runs ≡ before.runs
  pub ending : after.ending ≡ before.ending
  pub limits : after.limits ≡ before.limits
  pub counts : after.counts ≡ before.counts
  pub number : after.number ≡ before.number
  pub said : said_of after ≡ said_of before

-- the run in progress makes no further poll, and nothing else changes
pub record EndsRun (before after : Driver) : Type 0 where
  pub ending : is_ending after ≡ true
  pub devices : after.devices ≡ before.devices
  pub list : after.list ≡ before.list
  pub run : after.run ≡ before.run
  pub runs : after.runs ≡ before.runs
  pub limits : after.limits ≡ before.limits
  pub pacings : after.pacings ≡ before.pacings
  pub counts : after.counts ≡ before.counts
  pub number : after.number ≡ before.number
  pub said : said_of after ≡ said_of before

-- the instance stays scheduled after a poll that took this many packets
abbrev pub stays_of : ℕ → ℕ → Driver → Bool
stays_of id packets driver = keeps_polling packets (pacing_of driver id)

-- the device after a poll that took this many packets, and how the poll ended
abbrev pub after_poll_of : ℕ → ℕ → Rearm → Driver → DriverDevice × Next
after_poll_of id packets rearm driver =
    after_driver_poll (stays_of id packets driver) (defers packets (pacing_of driver id)) rearm (device_of driver id)

-- its counts after that poll
abbrev pub pacing_after : ℕ → ℕ → Rearm → Driver → Pacing
pacing_after id packets rearm driver =
    paced_after (completes (stays_of id packets driver) rearm (device_of driver id)) packets (pacing_of driver id)

abbrev pub poll_of : ℕ → ℕ → Rearm → Driver → Poll
poll_of id packets rearm driver = record { id = id; once = record { work = packets; next = (after_poll_of id packets rearm driver).1 } }

-- the poll in progress was of this device, and it has ended
pub record Ends (id packets : ℕ) (rearm : Rearm) (before after : Driver) : Type 0 where
  pub devices : driver_devices after ≡ slice_set (driver_devices before) id (after_poll_of id packets rearm before).0
  pub counts : after.counts.items ≡ slice_set before.counts.items id (count_one_poll packets (poll_counts_of before id))
  pub pacings : after.pacings.items ≡ slice_set before.pacings.items id (pacing_after id packets rearm before)
  pub limits : after.limits ≡ before.limits
  pub number : said_number_of after ≡ said_number_of before
  pub ending : is_ending after ≡ is_ending before
  pub free : AwaitsNothing after
  -- the device leaves the line, which it headed
  pub line : (more : List ℕ) × (id ∷ line_of after ≡ line_of before ++ more)

-- ---- reports

-- the driver waits for this report: of a poll that took at most the device's weight, or of another action
abbrev pub IsAwaited : Driver → ℕ → Option (ℕ × Chore) → Option ℕ → Type 0
IsAwaited driver packets said (Some id) = packets ≤ weight_of driver id
IsAwaited driver packets (Some said) None = Unit {0}
IsAwaited driver packets None None = ⊥

-- a report under this number is due
abbrev pub IsReport : ℕ → ℕ → Driver → Type 0
IsReport number packets driver =
    (number ≡ said_number_of driver) × IsAwaited driver packets (said_of driver) (polled_device driver)

abbrev pub ReportsOf : ℕ → Rearm → Driver → Driver → Option (ℕ × Chore) → Option ℕ → Type 0
ReportsOf packets rearm before after said (Some id) = Ends id packets rearm before after
ReportsOf packets rearm before after (Some said) None = DoesChore said.0 said.1 (nat_lt 0 packets) before after
ReportsOf packets rearm before after None None = ⊥

-- the action asked for last was done: a poll that took this many packets, or an action at a card
abbrev pub Reports : ℕ → Rearm → Driver → Driver → Type 0
Reports packets rearm before after = ReportsOf packets rearm before after (said_of before) (polled_device before)

abbrev pub IsNumberedWhat : ℕ → ℕ → ℕ → What → Type 0
IsNumberedWhat before after number (Sleep report) = (number ≡ 0) × (after ≡ before)
IsNumberedWhat before after number (Ended report) = (number ≡ 0) × (after ≡ before)
IsNumberedWhat before after number what = (number ≡ after) × (after ≡ following before)

-- what has to be reported has a number that isn't 0; anything else has number 0
abbrev pub IsNumberedTodo : ℕ → ℕ → Todo → Type 0
IsNumberedTodo before after todo = IsNumberedWhat before after todo.number todo.what

-- nothing is on the list, and no run is in progress
pub record IsIdle (driver : Driver) : Type 0 where
  pub list : driver.list ≡ []
  pub run : HoldsNothing driver.run

-- a run is in progress that began when the list held these devices, and made these polls; nothing else was put on the list
-- since
abbrev pub IsRunning : List ℕ → List Poll → Driver → Type 0
IsRunning start polls driver = (is_running driver ≡ true) × IsGoing all_held OwnPushes NothingBehind start polls driver.list driver.run

-- a run that began when the list held these devices, and made these polls, is over, and this is its report
abbrev pub IsDriverReport : Limits → List ℕ → List Poll → Driver → RunReport → Type 0
IsDriverReport limits start polls after report = IsPlainRun limits.budget limits.window start polls (list_of after) report

-- A run that made these polls was ended by the caller, and this is its report. The devices that it would have polled next come first
-- on the list, then those that were listed meanwhile, then those that get a repoll.
abbrev pub IsEndedEarly : List Poll → Driver → Driver → RunReport → Type 0
IsEndedEarly polls before after report = (report ≡ record { polls = length polls; work = work_of polls; squeezed = true })
    × (list_of after ≡ before.run.own ++ list_of before ++ before.run.repoll)

-- the action ends a run, which counts as squeezed, or is at a card and no poll
abbrev pub EndsSqueezed : What → Type 0
EndsSqueezed (Ended report) = report.squeezed ≡ true
EndsSqueezed (Fetch id most) = ⊥
EndsSqueezed (Sleep report) = ⊥
EndsSqueezed what = Unit {0}

-- this many devices, all closed
abbrev pub AreClosed : ℕ → Driver → Type 0
AreClosed count driver = driver_devices driver ≡ replicate count (in_stage Closed false)

-- each of these devices has the driver's weight, without deferral and without busy polling
abbrev pub ArePlain : ℕ → Driver → Type 0
ArePlain count driver = driver.pacings.items ≡ replicate count (new_pacing (plain_settings (driver_limits driver).weight))

-- a run with this report kept to the limits
abbrev pub KeepsLimits : Limits → RunReport → Type 0
KeepsLimits limits report = (report.polls ≤ limits.window) × (report.work < limits.budget + limits.weight)

-- each device is at rest, and nothing is on the list or in a run
abbrev pub MaySleep : Driver → Type 0
MaySleep driver = All (λ device. IsAtRest device.stage) (driver_devices driver) × IsIdle driver

-- the action that the driver asks for is due; it asks for sleep only if each device is at rest and nothing is on the list
abbrev pub IsDue : Driver → What → Type 0
IsDue driver (Mask id) = (id < length (driver_devices driver)) × (chore_at (stage_of driver id) ≡ Some chore.Mask)
IsDue driver (Unmask id) = (id < length (driver_devices driver)) × (chore_at (stage_of driver id) ≡ Some chore.Unmask)
IsDue driver (Look id) = (id < length (driver_devices driver)) × (chore_at (stage_of driver id) ≡ Some chore.Look)
IsDue driver (Timer id nanoseconds) = (id < length (driver_devices driver)) × (chore_at (stage_of driver id) ≡ Some chore.Timer)
    × (nanoseconds ≡ timeout_of driver id)
IsDue driver (Fetch id most) = (id < length (driver_devices driver)) × (polled_device driver ≡ Some id)
    × (stage_is_listed (stage_of driver id) ≡ true) × (most ≡ weight_of driver id) × (most ≤ (driver_limits driver).weight)
IsDue driver (Ended report) = HoldsNothing driver.run × KeepsLimits (driver_limits driver) report
    × ((report.squeezed ≡ true) ⊎ (list_of driver ≢ []))
IsDue driver (Sleep report) = MaySleep driver × KeepsLimits (driver_limits driver) report × (report.squeezed ≡ false)

-- ---- a report and a question in one call

-- a report under this number, and its outcome, as of `Driver::done`
pub record IsDone (number packets : ℕ) (rearm : Rearm) (before : Driver) (reported : Result ⊤ Refused) (after : Driver) : Type 0 where
  pub when : IsOk reported ↔ IsReport number packets before
  pub ok : OnOk reported (Reports packets rearm before after)
  pub free : OnOk reported (AwaitsNothing after)
  pub len : length (driver_devices after) ≡ length (driver_devices before)
  pub going : (start : List ℕ) (polls : List Poll) (id : ℕ) → polled_device before ≡ Some id → IsRunning start polls before
      → OnOk reported (IsRunning start (polls ++ poll_of id packets rearm before ∷ []) after)
  pub err : OnErr reported (after ≡ before)
  pub many : IfErr reported (λ why. (why ≡ TooMany) ↔ ((number ≡ said_number_of before) × IsSome (polled_device before)))

-- What the driver asks for next: the same again while a report is awaited. The runs are polling runs over the list, as long as no
-- other device is put on it during the run.
pub record AsksNext (before : Driver) (todo : Todo) (after : Driver) : Type 0 where
  pub due : IsDue after todo.what
  pub number : AwaitsNothing before → IsNumberedTodo (said_number_of before) (said_number_of after) todo
  pub again : ¬ AwaitsNothing before → (after ≡ before) × (todo.number ≡ said_number_of before)
  pub devices : driver_devices after ≡ driver_devices before
  pub counts : after.counts ≡ before.counts
  pub pacings : after.pacings ≡ before.pacings
  pub limits : driver_limits after ≡ driver_limits before
  pub begins : is_running before ≡ false → is_running after ≡ true → IsRunning (list_of before) [] after
  pub going : (start : List ℕ) (polls : List Poll) → IsRunning start polls before → is_running after ≡ true → IsRunning start polls after
  pub ended : (start : List ℕ) (polls : List Poll) (report : RunReport) → ended_in todo.what ≡ Some report → IsRunning start polls before
      → is_ending before ≡ false → IsDriverReport (driver_limits before) start polls after report
  pub early : (start : List ℕ) (polls : List Poll) (report : RunReport) → todo.what ≡ Ended report → IsRunning start polls before
      → is_ending before ≡ true → IsEndedEarly polls before after report
  pub stops : is_ending before ≡ true → AwaitsNothing before → EndsSqueezed todo.what
  pub line : AddsToLine before after
  pub ending : is_running after ≡ true → is_ending after ≡ is_ending before
  pub rests : (report : RunReport) → todo.what ≡ Sleep report → is_running before ≡ false
      → (report.polls ≡ 0) × (report.work ≡ 0)
  pub whole : (report : RunReport) → todo.what ≡ Ended report → is_running before ≡ false
      → IsDriverReport (driver_limits before) (list_of before) [] after report

-- the report, and then the question: each does to the driver what it does as a call of its own
pub record IsStep (number packets : ℕ) (rearm : Rearm) (before : Driver) (reported : Result ⊤ Refused) (todo : Todo)
    (after : Driver) : Type 0 where
  pub between : Driver
  pub reports : IsDone number packets rearm before reported between
  pub asks : AsksNext between todo after

-- ---- interrupts, a report and a question in one call

-- the interrupts of these devices are reported, in this order
abbrev pub InterruptsIn : List ℕ → Driver → Driver → Type 0
InterruptsIn [] before after = after ≡ before
InterruptsIn (id ∷ ids) before after =
    (next : Driver) × (id < length (driver_devices before)) × PutsDevice id (after_interrupt (device_of before id)) before next
    × InterruptsIn ids next after

-- the interrupt of each device whose bit is set is reported once, and no other one
pub record ReportsInterrupts (bits : ℕ) (before after : Driver) : Type 0 where
  pub ids : List ℕ
  pub each : (id : ℕ) → id < length (driver_devices before) → occurs id ids ≡ bit_at bits id
  pub reports : InterruptsIn ids before after

-- all that has to be done is to mask this device's card for a poll, no run is in progress, and nothing is on the list
pub record MayJoin (id : ℕ) (driver : Driver) : Type 0 where
  pub only : OnlyMask id (driver_devices driver)
  pub rests : is_running driver ≡ false
  pub list : list_of driver ≡ []

-- the mask of this device's card is joined to the action that follows it; without a device none may be, and nothing changes
abbrev pub JoinsMask : Option ℕ → Driver → Driver → Type 0
JoinsMask None before after = (after ≡ before) × ((id : ℕ) → ¬ MayJoin id before)
JoinsMask (Some id) before after = MayJoin id before × DoesChore id chore.Mask false before after

-- what is asked for next, and the device whose card it masks first
pub record AsksJoined (before : Driver) (mask : Option ℕ) (todo : Todo) (after : Driver) : Type 0 where
  pub masked : Driver
  pub joins : JoinsMask mask before masked
  pub asks : AsksNext masked todo after

-- the same, if a report may be awaited: a fetch that is returned again masks its card again
pub record NextJoined (before : Driver) (mask : Option ℕ) (todo : Todo) (after : Driver) : Type 0 where
  pub free : AwaitsNothing before → AsksJoined before mask todo after
  pub busy : ¬ AwaitsNothing before → AsksNext before todo after × (mask ≡ polled_device before)

-- the report, then the interrupts, then the question: each does to the driver what it does as a call of its own
pub record IsTurn (bits number packets : ℕ) (rearm : Rearm) (before : Driver) (reported : Result ⊤ Refused) (mask : Option ℕ)
    (todo : Todo) (after : Driver) : Type 0 where
  pub between : Driver
  pub reports : IsDone number packets rearm before reported between
  pub interrupted : Driver
  pub interrupts : ReportsInterrupts bits between interrupted
  pub asks : reported ≢ Err TooMany → NextJoined interrupted mask todo after
  pub refused : reported ≡ Err TooMany → AsksNext interrupted todo after × (mask ≡ None)
