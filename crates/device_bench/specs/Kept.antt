-- The invariant of the devices of a bench.
use Rattle.std.specs.Prelude.{◌≡◌, ◌≤◌, ℕ, Bool, true, false, not, ◌||◌, Option, Some, None, length}
use Rattle.napi_model.specs.{declared.state.Place.Place, declared.state.Place.TheVariants.Nobody}
use Rattle.{device_bench.specs.{Device.is_pending, DeviceView.DeviceView, Waiting.waiting}, device_places.specs.Places.{DeviceTable, at}}

-- a caller owns the instance, or it is queued; then it must be scheduled
abbrev pub is_held : Place → Bool
is_held Nobody = false
is_held _ = true

abbrev pub is_sound : DeviceView → Bool
is_sound d = not (is_held d.side.napi.place) || d.side.napi.flags.sched

abbrev pub is_sound_at : Option DeviceView → Bool
is_sound_at None = true
is_sound_at (Some d) = is_sound d

abbrev pub is_pending_at : Option DeviceView → Bool
is_pending_at None = false
is_pending_at (Some d) = is_pending d

pub record IsKept (unsettled : Bool) (devices : DeviceTable DeviceView) : Type 0 where
  pub places : length devices ≡ 17
  pub sound : (number : ℕ) → is_sound_at (at number devices) ≡ true
  -- if the flag `unsettled` isn't set, no disable is pending
  pub settled : unsettled ≡ false → (number : ℕ) → is_pending_at (at number devices) ≡ false
  -- each device waits at most once
  pub few : waiting devices ≤ 17
