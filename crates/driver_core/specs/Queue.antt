-- What a driver stores about its devices. The poll list and the run over it have each listed device once, and no other one.
-- There is a bit for each device whose card needs an action, and the action that was asked for last.
use Rattle.std.specs.Prelude.{◌≡◌, ◌≢◌, true, ◌<◌, ◌≤◌, ◌==◌, ℕ, ◌+◌, Bool, false, List, length, slice_index_or, count_by, if◌then◌else◌}
use Rattle.std.specs.{List.All, Prelude.{Option, Some, None, is_some}, Int.bit_at}
use Rattle.poll_runs.specs.{Driven.held, Turn.asked_for, declared.polling_run.PollingRun.PollingRun}
use Rattle.driver_core.specs.declared.{limits.Limits.Limits, pacing.Pacing.Pacing}
use Rattle.driver_core.specs.{Device.{in_stage, chore_at, masks_for_poll, stage_is_listed}}
use Rattle.driver_core.specs.{declared.device.{Chore.Chore, DriverDevice.DriverDevice, Stage.TheVariants.Closed}}

abbrev pub device_at : List DriverDevice → ℕ → DriverDevice
device_at devices id = slice_index_or devices id (in_stage Closed false)

abbrev pub listed_at : List DriverDevice → ℕ → Bool
listed_at devices id = stage_is_listed (device_at devices id).stage

-- bit n is set exactly if the card of device n needs an action
abbrev pub MarksChores : List DriverDevice → ℕ → Type 0
MarksChores devices bits = (id : ℕ) → id < 64 → bit_at bits id ≡ (if is_some (chore_at (device_at devices id).stage) then 1 else 0)

-- all that has to be done is to mask this device's card for a poll
pub record OnlyMask (id : ℕ) (devices : List DriverDevice) : Type 0 where
  pub range : id < length devices
  pub mask : masks_for_poll (device_at devices id).stage ≡ true
  pub others : (k : ℕ) → k < length devices → k ≢ id → chore_at (device_at devices k).stage ≡ None

-- how many devices are listed
abbrev pub listed_in : List DriverDevice → ℕ
listed_in devices = count_by (λ device. stage_is_listed device.stage) devices

-- how often a number is in a list
abbrev pub occurs : ℕ → List ℕ → ℕ
occurs id ids = count_by (λ x. x == id) ids

pub record IsQueue (devices : List DriverDevice) (list : List ℕ) (run : PollingRun) : Type 0 where
  pub each : (id : ℕ) → occurs id list + (occurs id (asked_for run.asked) + (occurs id run.own + occurs id run.repoll))
      ≡ (if listed_at devices id then 1 else 0)
  pub size : length list + held run ≡ listed_in devices

-- a run in progress has these limits
pub record HasLimits (limits : Limits) (run : PollingRun) : Type 0 where
  pub budget : run.budget ≡ limits.budget
  pub weight : run.weight ≡ limits.weight
  pub window : run.window ≡ limits.window

-- each device's weight is at least 1 and at most the driver's
abbrev pub HasWeights : Limits → List Pacing → Type 0
HasWeights limits pacings = All (λ p. (1 ≤ p.settings.weight) × (p.settings.weight ≤ limits.weight)) pacings

-- the action at a card that was asked for last is still due, and no device is being polled then
pub record IsStillDue (devices : List DriverDevice) (polled : Option ℕ) (said : Option (ℕ × Chore)) : Type 0 where
  pub range : (id : ℕ) (chore : Chore) → said ≡ Some (id, chore) → id < length devices
  pub chore : (id : ℕ) (chore : Chore) → said ≡ Some (id, chore) → chore_at (device_at devices id).stage ≡ Some chore
  pub alone : (id : ℕ) (chore : Chore) → said ≡ Some (id, chore) → polled ≡ None

-- the number after this one, which is never 0
abbrev pub following : ℕ → ℕ
following number = if number == 18446744073709551615 then 1 else number + 1
