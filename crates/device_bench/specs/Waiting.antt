-- The poll list as the devices see it: how many of them wait on it, and what puts them there.
use Rattle.std.specs.Prelude.{ℕ, Bool, true, false, Option, Some, None, ◌||◌, if◌then◌else◌, sum_by}
use Rattle.napi_model.specs.{Step.is_handed, declared.state.Kind.Kind}
use Rattle.{poll_runs.specs.{Polls.{is_arrival, is_repoll}, declared.bench.Next.Next}, device_bench.specs.DeviceView.DeviceView}
use Rattle.device_places.specs.Places.{DeviceTable}
use Rattle.napi_model.specs.declared.state.Kind.TheVariants as kind

abbrev pub one_when : Bool → ℕ
one_when b = if b then 1 else 0

-- 1 if the device waits on the list, which it does from when it is queued there until it is taken
abbrev pub waits_on_list : Option DeviceView → ℕ
waits_on_list None = 0
waits_on_list (Some d) = one_when (is_handed kind.List d.side.napi.place)

unfoldable pub waiting : DeviceTable DeviceView → ℕ
waiting devices = sum_by waits_on_list devices

-- whether this queue is the list
abbrev pub is_listed : Option Kind → Bool
is_listed None = false
is_listed (Some kind.List) = true
is_listed (Some kind.Thread) = false

-- whether a poll that ended like this left its device on the list
abbrev pub is_left_to_list : Next → Bool
is_left_to_list next = is_arrival next || is_repoll next

-- 1 for a poll that took its entry from the list; 0 if it put its device there again
abbrev pub leaves : Next → ℕ
leaves next = if is_left_to_list next then 0 else 1
