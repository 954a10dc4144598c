-- Who owns a device's instance.
use Rattle.std.specs.Prelude.{◌≡◌, ◌||◌, ◌&&◌, Bool, true, false, not}
use Rattle.napi_model.specs.declared.state.Place.{Place, TheVariants.Control}
use Rattle.napi_model.specs.declared.state.{Place.TheVariants.Polling, State.State}
use Rattle.device_bench.specs.declared.device.TheConstants.{CONTROLLER}

-- if the place is Control, it has this controller's number
abbrev pub IsOursAt : Place → Type 0
IsOursAt (Control c) = c ≡ CONTROLLER
IsOursAt _ = Unit {0}

abbrev pub is_polled : Place → Bool
is_polled (Polling c) = true
is_polled _ = false

-- if the instance is busy polled, its poller owns it, and it is scheduled
abbrev pub IsOurs : State → Type 0
IsOurs s = IsOursAt s.place × ((not s.flags.in_busy_poll || (is_polled s.place && s.flags.sched)) ≡ true)
