-- A driver for C: what it asks for, as numbers, and the status and the effect of each call.
use Rattle.std.specs.Prelude.{◌≡◌, ◌≢◌, ◌⊎◌, ◌↔◌, ℕ, ◌+◌, ◌*◌, ◌≤◌, ◌<◌, ◌==◌, ◌||◌, false, true, nat_le, if◌then◌else◌}
use Rattle.std.specs.Prelude.{◌^◌, Bool, Option, length, is_some, IsSome, ⊤, Result, Ok, Err}
use Rattle.napi_model.specs.declared.event.Prep.{Prep, TheVariants.{Granted, Missed, Disabled}}
use Rattle.napi_model.specs.Step.{schedule_reply}
use Rattle.driver_core.specs.{Device.{after_interrupt, is_stopping, after_open, after_stop, MayStop}, Steps.{stage_is_scheduled, napi_of}}
use Rattle.driver_core.specs.{Device.after_timer, Steps.is_unscheduled, declared.pacing.DeviceSettings.DeviceSettings}
use Rattle.driver_core.specs.Driver.{poll_counts_of, device_of, driver_devices, driver_limits, said_number_of, polled_device, stage_of}
use Rattle.driver_core.specs.Driver.{is_ending, is_running}
use Rattle.driver_core.specs.Driver.{AreClosed, EndsRun, EndsSqueezed, IsDue, AwaitsNothing, IsIdle, IsNumberedWhat, IsReport, IsUncounted}
use Rattle.driver_core.specs.Driver.{ArePlain, IsTurn, PutsDevice, Reports, SetsDevice, awaits_another}
use Rattle.driver_core.specs.declared.{driver.Driver.Driver, todo.Todo.Todo, device.Stage.{Stage, TheVariants.Closed}}
use Rattle.driver_core.specs.declared.device.Rearm.{Rearm, TheVariants.{No, Empty, More}}
use Rattle.driver_core.specs.declared.todo.Refused.{Refused, TheVariants.{NotDue, TooMany}}
use Rattle.driver_core.specs.declared.todo.What.{What, TheVariants.{Mask, Unmask, Look, Timer, Fetch, Ended, Sleep}}
use Rattle.c_handles.specs.Status.{OK, GRANTED, MISSED, DISABLED, NOT_DUE, BAD_DEVICE, BAD_WORK, BAD_COUNT}
use Rattle.c_handles.specs.Status.{BAD_BUDGET, BAD_WEIGHT, BAD_SETTING, NOT_ALLOWED, NOT_REPORTED}
use Rattle.c_handles.specs.declared.drive.{FqTodo.FqTodo, FqDeviceSettings.FqDeviceSettings, FqDeviceShown.FqDeviceShown}

-- ---- a new driver

abbrev pub new_status : ℕ → ℕ → ℕ → ℕ → ℕ
new_status devices budget weight window =
    if devices == 0 || nat_le 65 devices then BAD_COUNT
    else (if weight == 0 || nat_le 65 weight then BAD_WEIGHT
    else (if (budget == 0 || nat_le 65536 budget) || (window == 0 || nat_le 65536 window) then BAD_BUDGET else OK))

pub record IsNewDriver (devices budget weight window salt : ℕ) (d : Driver) : Type 0 where
  pub closed : AreClosed devices d
  pub idle : IsIdle d
  pub counts : IsUncounted d
  pub pacings : ArePlain devices d
  pub limits : ((driver_limits d).budget ≡ budget) × ((driver_limits d).weight ≡ weight) × ((driver_limits d).window ≡ window)
  -- drivers with different salts number their actions differently
  pub number : said_number_of d ≡ salt * 281474976710656 + 1

-- ---- what the driver asks for (`struct fq_todo`, `enum fq_what`)

-- the number of an action in C
abbrev pub what_in : What → ℕ
what_in (Sleep report) = 0
what_in (Mask id) = 1
what_in (Unmask id) = 2
what_in (Look id) = 3
what_in (Fetch id most) = 4
what_in (Ended report) = 5
what_in (Timer id nanoseconds) = 7

abbrev pub device_in : What → ℕ
device_in (Mask id) = id
device_in (Unmask id) = id
device_in (Look id) = id
device_in (Fetch id most) = id
device_in (Timer id nanoseconds) = id
device_in _ = 0

-- the packets that a fetch may take, or the polls of the run that ended
abbrev pub most_in : What → ℕ
most_in (Fetch id most) = most
most_in (Ended r) = r.polls
most_in (Sleep r) = r.polls
most_in _ = 0

abbrev pub nanoseconds_in : What → ℕ
nanoseconds_in (Timer id nanoseconds) = nanoseconds
nanoseconds_in _ = 0

-- the packets of an action whose caller doesn't set them: a look that was forgotten leads to a poll; or those of the run that ended
abbrev pub unset_packets : What → ℕ
unset_packets (Look id) = 1
unset_packets (Ended r) = r.work
unset_packets (Sleep r) = r.work
unset_packets _ = 0

abbrev pub squeezed_in : What → Bool
squeezed_in (Ended r) = r.squeezed
squeezed_in (Sleep r) = r.squeezed
squeezed_in _ = false

-- the action under this number, after a report with this status; the flag says whether it begins by masking the card
abbrev pub todo_in : ℕ → Bool → ℕ → What → FqTodo
todo_in status mask number what = record {
  number = number;
  nanoseconds = nanoseconds_in what;
  what = what_in what;
  device = device_in what;
  most = most_in what;
  packets = unset_packets what;
  rearm = 0;
  status = status;
  mask = mask;
  squeezed = squeezed_in what;
}

-- a call failed with this status, and there is nothing to do
abbrev pub failed_in : ℕ → FqTodo
failed_in status = record {
  number = 0;
  nanoseconds = 0;
  what = 6;
  device = 0;
  most = 0;
  packets = 0;
  rearm = 0;
  status = status;
  mask = false;
  squeezed = false;
}

-- the status of a call that also asks for the next action, by whether another action waits for its report, and the report's status
abbrev pub step_status : Bool → ℕ → ℕ
step_status is_other said = if is_other then NOT_REPORTED else (if said == BAD_WORK then BAD_WORK else OK)

-- what such a call leaves in the struct, which has the next action unless the call failed
abbrev pub todo_settled : Bool → ℕ → Bool → FqTodo → FqTodo
todo_settled is_other said mask todo =
    if is_other then failed_in NOT_REPORTED
    else (if said == BAD_WORK then failed_in BAD_WORK else record todo { status = said; mask = mask })

-- The driver asks for this action, which is due. It asks for the same action again until the action is reported or isn't due
-- any more, and for any other one under a new number.
pub record Says (status : ℕ) (mask : Bool) (d : Driver) (todo : FqTodo) (e : Driver) : Type 0 where
  pub what : What
  pub said : todo ≡ todo_in status mask todo.number what
  pub due : IsDue e what
  pub number : AwaitsNothing d → IsNumberedWhat (said_number_of d) (said_number_of e) todo.number what
  pub again : ¬ AwaitsNothing d → (e ≡ d) × (todo.number ≡ said_number_of d)
  pub devices : driver_devices e ≡ driver_devices d
  pub counts : e.counts ≡ d.counts
  pub pacings : e.pacings ≡ d.pacings
  -- a run that the caller has ended makes no further poll, and counts as squeezed
  pub stops : is_ending d ≡ true → AwaitsNothing d → EndsSqueezed what

-- what is due; a fetch that wasn't reported masks the card again
abbrev pub IsDriverNext : FqTodo → Driver → ℕ → Driver → Type 0
IsDriverNext after d n e = (n ≡ OK) × Says OK (is_some (polled_device d)) d after e

-- whether a fetch unmasked the card and then looked at it, by its number in C
abbrev pub rearm_in : ℕ → Rearm
rearm_in number = if number == 0 then No else (if number == 2 then Empty else More)

-- a report, and the driver after the report
pub record IsTodoReport (number packets rearm : ℕ) (d : Driver) (n : ℕ) (e : Driver) : Type 0 where
  pub none : number ≡ 0 → (n ≡ OK) × (e ≡ d)
  pub due : number ≢ 0 → (n ≡ OK) ↔ IsReport number packets d
  pub reports : number ≢ 0 → n ≡ OK → Reports packets (rearm_in rearm) d e × AwaitsNothing e
  pub many : number ≢ 0 → n ≢ OK → (n ≡ BAD_WORK) ↔ ((number ≡ said_number_of d) × IsSome (polled_device d))
  pub status : (n ≡ OK) ⊎ (n ≡ NOT_DUE) ⊎ (n ≡ BAD_WORK)
  pub kept : n ≢ OK → e ≡ d

-- the status of a report of the action with this number; 0 reports nothing
abbrev pub report_status : ℕ → Result ⊤ Refused → ℕ
report_status number (Ok done) = OK
report_status number (Err TooMany) = BAD_WORK
report_status number (Err NotDue) = if number == 0 then OK else NOT_DUE

-- The action in the struct is reported as done, unless its number is 0, and then the next one is asked for; the driver in between
-- is what the report leaves. After a report of too many packets, or while another action waits for its report, nothing changes. Of these
-- structs, the first is the caller's variable before the call, and the second after it.
pub record IsDriverStep (before after : FqTodo) (d : Driver) (n : ℕ) (e : Driver) : Type 0 where
  pub said : ℕ
  pub between : Driver
  pub reports : IsTodoReport before.number before.packets before.rearm d said between
  pub status : n ≡ step_status (awaits_another before.number d) said
  pub says : n ≡ OK → Says said false between after e
  pub failed : n ≢ OK → (after ≡ failed_in n) × (e ≡ d)

-- the same with the interrupts of the devices whose bits are set, and the next action may be a fetch that masks its card first
pub record TakesTurn (interrupts : ℕ) (before after : FqTodo) (d : Driver) (n : ℕ) (e : Driver) : Type 0 where
  pub reported : Result ⊤ Refused
  pub mask : Option ℕ
  pub todo : Todo
  pub turns : IsTurn interrupts before.number before.packets (rearm_in before.rearm) d reported mask todo e
  pub status : n ≡ step_status (awaits_another before.number d) (report_status before.number reported)
  pub says : n ≡ OK → after ≡ todo_in (report_status before.number reported) (is_some mask) todo.number todo.what
  pub failed : n ≢ OK → after ≡ failed_in n

-- a turn fails, and changes nothing, if a bit isn't that of a device
pub record IsDriverTurn (interrupts : ℕ) (before after : FqTodo) (d : Driver) (n : ℕ) (e : Driver) : Type 0 where
  pub bad : (n ≡ BAD_DEVICE) ↔ (2 ^ length (driver_devices d) ≤ interrupts)
  pub kept : n ≡ BAD_DEVICE → (after ≡ failed_in BAD_DEVICE) × (e ≡ d)
  pub turns : n ≢ BAD_DEVICE → TakesTurn interrupts before after d n e

-- ---- what happened at a device

-- the call names a number that isn't a device's
pub record IsNoDevice (device : ℕ) (d : Driver) (n : ℕ) (e : Driver) : Type 0 where
  pub bad : (n ≡ BAD_DEVICE) ↔ (length (driver_devices d) ≤ device)
  pub kept : n ≡ BAD_DEVICE → e ≡ d

abbrev pub reply_status : Prep → ℕ
reply_status Granted = GRANTED
reply_status Missed = MISSED
reply_status Disabled = DISABLED

pub record IsDriverInterrupt (device : ℕ) (d : Driver) (n : ℕ) (e : Driver) : Type 0 where
  pub bad : IsNoDevice device d n e
  pub reply : n ≢ BAD_DEVICE → n ≡ reply_status (schedule_reply (napi_of (device_of d device)))
  pub puts : n ≢ BAD_DEVICE → PutsDevice device (after_interrupt (device_of d device)) d e

pub record IsDriverOpen (device : ℕ) (d : Driver) (n : ℕ) (e : Driver) : Type 0 where
  pub bad : IsNoDevice device d n e
  pub status : (n ≡ OK) ⊎ (n ≡ NOT_DUE) ⊎ (n ≡ BAD_DEVICE)
  pub when : n ≢ BAD_DEVICE → (n ≡ OK) ↔ (stage_of d device ≡ Closed)
  pub puts : n ≡ OK → PutsDevice device (after_open (device_of d device)) d e
  pub kept : n ≢ OK → e ≡ d

pub record IsDriverStop (device : ℕ) (d : Driver) (n : ℕ) (e : Driver) : Type 0 where
  pub bad : IsNoDevice device d n e
  pub status : (n ≡ OK) ⊎ (n ≡ NOT_DUE) ⊎ (n ≡ BAD_DEVICE)
  pub when : n ≢ BAD_DEVICE → (n ≡ OK) ↔ MayStop (stage_of d device)
  pub puts : n ≡ OK → PutsDevice device (after_stop (device_of d device)) d e
  pub kept : n ≢ OK → e ≡ d

pub record IsDriverTimer (device : ℕ) (d : Driver) (n : ℕ) (e : Driver) : Type 0 where
  pub bad : IsNoDevice device d n e
  pub reply : n ≢ BAD_DEVICE → n ≡ (if is_unscheduled (stage_of d device) then GRANTED else NOT_DUE)
  pub puts : n ≢ BAD_DEVICE → PutsDevice device (after_timer (device_of d device)) d e

-- ---- the settings of a device (`struct fq_device_settings`)

abbrev pub settings_in : FqDeviceSettings → DeviceSettings
settings_in s = record {
  weight = s.weight;
  defer_hard_irqs = s.defer_hard_irqs;
  gro_flush_timeout = s.gro_flush_timeout;
  empty_polls = s.empty_polls;
}

pub record IsDriverSet (device : ℕ) (s : FqDeviceSettings) (d : Driver) (n : ℕ) (e : Driver) : Type 0 where
  pub bad : IsNoDevice device d n e
  pub weight : n ≢ BAD_DEVICE → (n ≡ BAD_WEIGHT) ↔ ((s.weight ≡ 0) ⊎ ((driver_limits d).weight < s.weight))
  pub setting : n ≢ BAD_DEVICE → n ≢ BAD_WEIGHT → (n ≡ BAD_SETTING) ↔ ((1 ≤ s.defer_hard_irqs) × (s.gro_flush_timeout ≡ 0))
  pub status : (n ≡ OK) ⊎ (n ≡ NOT_ALLOWED) ⊎ (n ≡ BAD_DEVICE) ⊎ (n ≡ BAD_WEIGHT) ⊎ (n ≡ BAD_SETTING)
  pub when : n ≢ BAD_DEVICE → n ≢ BAD_WEIGHT → n ≢ BAD_SETTING → (n ≡ OK) ↔ (stage_of d device ≡ Closed)
  pub sets : n ≡ OK → SetsDevice device (settings_in s) d e
  pub kept : n ≢ OK → e ≡ d

pub record IsDriverEndRun (d : Driver) (n : ℕ) (e : Driver) : Type 0 where
  pub status : n ≡ (if is_running d then OK else NOT_DUE)
  pub ends : n ≡ OK → EndsRun d e
  pub kept : n ≢ OK → e ≡ d

-- ---- what is shown of a device (`struct fq_device_shown`)

-- 0 closed, 1 open, 2 being stopped
abbrev pub device_state_in : Stage → ℕ
device_state_in Closed = 0
device_state_in stage = if is_stopping stage then 2 else 1

abbrev pub shown_of : ℕ → Driver → ℕ → FqDeviceShown
shown_of size d device = record {
  size = size;
  state = device_state_in (stage_of d device);
  scheduled = stage_is_scheduled (stage_of d device);
  missed = (device_of d device).missed;
  polls = (poll_counts_of d device).polls;
  packets = (poll_counts_of d device).packets;
}

pub record IsDriverShow (before after : FqDeviceShown) (device : ℕ) (d : Driver) (n : ℕ) (e : Driver) : Type 0 where
  pub bad : (n ≡ BAD_DEVICE) ↔ (length (driver_devices d) ≤ device)
  pub status : (n ≡ OK) ⊎ (n ≡ BAD_DEVICE)
  pub shows : n ≡ OK → after ≡ shown_of before.size d device
  pub kept : n ≢ OK → after ≡ before
  pub driver : e ≡ d
