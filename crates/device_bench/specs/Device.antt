-- The effect of rows and polls on a device.
use Rattle.std.specs.Prelude.{ℕ, Bool, true, false, List, drop, sum, take, Option, None, if◌then◌else◌}
use Rattle.napi_model.specs.{Step.{after, event, schedule_reply, take_disable_reply}, declared.state.{Kind.Kind, State.State}}
use Rattle.napi_model.specs.declared.event.{Done.TheVariants.{Released, Again, Held}, Operation.Operation}
use Rattle.napi_model.specs.declared.event.Prep.{Prep, TheVariants.{Granted, Missed, Disabled}}
use Rattle.{poll_runs.specs.{Plan.{Plan, ends, asks, acts, polls}, declared.bench.{BusyReport.BusyReport, Once.Once}}}
use Rattle.device_bench.specs.Counter.{raised}
use Rattle.device_bench.specs.DeviceView.{DeviceView}
use Rattle.device_bench.specs.Receive.{answered, polled_bytes, caller_of, given_of, queued_kind, ring_has_place, is_control, opened_side}
use Rattle.device_bench.specs.Receive.{put_if}
use Rattle.device_bench.specs.{Receive.{requested, tried_by}, declared.counts.{DeviceCounts.DeviceCounts, DeviceState.DeviceState}}
use Rattle.device_bench.specs.declared.{counts.TheConstants.DeviceCounts.OPENED, device.TheConstants.CONTROLLER}
use Rattle.napi_model.specs.declared.event.Operation.TheVariants as operation
use Rattle.device_bench.specs.declared.counts.DeviceState.TheVariants as state
use Rattle.poll_runs.specs.Polling as rule

-- the device, with its instance in this state
abbrev pub with_napi : State → DeviceView → DeviceView
with_napi napi d = record d { side = record d.side { napi = napi } }

-- the device after a caller's operation on its instance
abbrev pub operated : ℕ → Operation → DeviceView → DeviceView
operated caller operation d = with_napi (after d.side.napi (event caller operation)) d

abbrev pub new_device : ℕ → DeviceView
new_device capacity = record { side = opened_side capacity; threaded = false; counts = OPENED }

-- ---- a packet

-- the reply to the interrupt's request is counted
abbrev pub counted_reply : Prep → DeviceCounts → DeviceCounts
counted_reply Granted t = record t { granted = raised t.granted 1 }
counted_reply Missed t = record t { missed = raised t.missed 1 }
counted_reply Disabled t = record t { disabled = raised t.disabled 1 }

-- the interrupt requests a poll, with this reply
abbrev pub after_reply : Prep → DeviceView → Option Kind × DeviceView
after_reply reply d =
    (queued_kind reply d.side.napi, record (with_napi (requested reply d.side.napi) d) { counts = counted_reply reply d.counts })

unfoldable pub after_request : DeviceView → Option Kind × DeviceView
after_request d = after_reply (schedule_reply d.side.napi) d

-- A packet arrives: it is put into the ring, and its interrupt requests a poll; a full ring drops it. The result is the queue
-- in which this put the instance, if any, and the device afterwards.
unfoldable pub device_after_packet : ℕ → DeviceView → Option Kind × DeviceView
device_after_packet bytes d =
    let counted = record d { counts = record d.counts { arrived = raised d.counts.arrived 1 } } in
    if ring_has_place d.side then after_request (record counted { side = put_if true bytes d.side })
    else (None, record counted { counts = record counted.counts { dropped = raised d.counts.dropped 1 } })

-- a poll takes the next packets of the ring, and is counted
unfoldable pub device_polled : ℕ → DeviceView → DeviceView
device_polled weight d = record d {
  side = record d.side { packets = drop (given_of weight d.side) d.side.packets };
  counts = record d.counts {
    polled = raised d.counts.polled (given_of weight d.side);
    bytes = raised d.counts.bytes (polled_bytes weight d.side);
    polls = raised d.counts.polls 1;
  };
}

-- ---- polling, by the rule in `poll_runs`

-- a completion is counted
abbrev pub counted_after : Operation → DeviceCounts → DeviceCounts
counted_after (operation.Complete Again) t = record t { again = raised t.again 1 }
counted_after (operation.Complete Released) t = record t { released = raised t.released 1 }
counted_after (operation.Complete Held) t = record t { held = raised t.held 1 }
counted_after o t = t

-- an operation of a poll is made and counted
abbrev pub acted : Operation → DeviceView → DeviceView
acted o d = record (operated (caller_of o d.side.napi.place) o d) { counts = counted_after o d.counts }

-- the result of a plan that is executed on this device alone, where each call succeeds at once, and the device afterwards
unfoldable pub carried_out : {A : Type 0} → Plan ℕ A → DeviceView → A × DeviceView
carried_out (ends a) d = (a, d)
carried_out (asks c go) d = carried_out (go (answered c d.side.napi)) (acted (answered c d.side.napi) d)
carried_out (acts o plan) d = carried_out plan (acted o d)
carried_out (polls weight go) d = carried_out (go (take weight d.side.packets)) (device_polled weight d)

-- a poll of the device from the list (`napi_poll`)
unfoldable pub polled_once : ℕ → DeviceView → Once × DeviceView
polled_once weight d = let done = carried_out (rule.poll_once_plan true weight) d in (done.0.once, done.1)

-- polling of the device by its thread (`napi_threaded_poll`)
unfoldable pub polled_by_thread : ℕ → ℕ → DeviceView → List Once × DeviceView
polled_by_thread most weight d = let done = carried_out (rule.thread_poll_plan true weight most) d in (done.0.polls, done.1)

-- busy polling of the device (`napi_busy_loop`)
unfoldable pub polled_busily : ℕ → ℕ → DeviceView → BusyReport × DeviceView
polled_busily rounds weight d = let done = carried_out (rule.busy_poll_plan sum true weight rounds) d in (done.0.report, done.1)

-- ---- disabling and enabling (`napi_disable`, `napi_enable`, `dev_set_threaded`)

-- whether the device is enabled, being disabled, or disabled
abbrev pub device_state : DeviceView → DeviceState
device_state d = if d.side.napi.flags.disable then state.Pending else (if is_control d.side.napi.place then state.Off else state.On)

-- a device that is enabled is marked for a disable; in another state it is unchanged
abbrev pub disabled_from : DeviceState → DeviceView → DeviceView
disabled_from state.On d = operated CONTROLLER operation.MarkDisable d
disabled_from state.Off d = d
disabled_from state.Pending d = d

unfoldable pub after_disable : DeviceView → DeviceView
after_disable d = disabled_from (device_state d) d

-- a pending disable of the device is tried once
unfoldable pub settled : DeviceView → DeviceView
settled d = if d.side.napi.flags.disable then with_napi (tried_by (take_disable_reply d.side.napi) d.side.napi) d else d

-- a device that is disabled is enabled, with its threaded setting; in another state it is unchanged
abbrev pub enabled_from : DeviceState → DeviceView → DeviceView
enabled_from state.Off d = operated CONTROLLER (operation.Enable d.threaded) d
enabled_from state.On d = d
enabled_from state.Pending d = d

unfoldable pub after_enable : DeviceView → DeviceView
after_enable d = enabled_from (device_state d) d

abbrev pub is_pending : DeviceView → Bool
is_pending d = d.side.napi.flags.disable

-- the threaded setting of the device and its flag THREADED are set
unfoldable pub after_threaded : Bool → DeviceView → DeviceView
after_threaded threaded d = record (operated CONTROLLER (operation.SetThreaded threaded) d) { threaded = threaded }
