-- A device as its poller sees it, as an instance of the polling rule.
use Rattle.std.specs.Prelude.{◌≡◌, ℕ, Bool, true, false, List, [], ◌∷◌, take}
use Rattle.napi_model.specs.{Step.{CallerPolls, reply_of, call_of}, declared.{event.{Call.Call, Operation.Operation}, state.State.State}}
use Rattle.{napi_model.specs.declared.event.Operation.TheVariants.BusyTake, poll_runs.specs.Plan.{Action, gave, made}}
use Rattle.device_bench.specs.{Device.{acted, device_polled}, DeviceView.DeviceView, Receive.{is_idle, poller_in}}
use Rattle.device_bench.specs.declared.device.TheConstants.{POLLER}

abbrev pub IsDevicePolled : DeviceView → Type 0
IsDevicePolled d = CallerPolls (poller_in d.side.napi.place) false d.side.napi

-- the poller busy polls it
abbrev pub IsPolledBusily : DeviceView → Type 0
IsPolledBusily d = CallerPolls POLLER true d.side.napi

-- a call succeeds at once, by one operation
abbrev pub AtOnce : Call → Operation → List Operation → Type 0
AtOnce c o os = os ≡ o ∷ []

-- in this state the call results in this operation
abbrev pub IsAnswer : Operation → State → Type 0
IsAnswer BusyTake s = is_idle s ≡ true
IsAnswer o s = o ≡ reply_of (call_of o) s

-- these operations and polls, one after the other, lead from one device to the other
abbrev pub DeviceDid : DeviceView → List (Action ℕ) → DeviceView → Type 0
DeviceDid d [] e = e ≡ d
DeviceDid d (made o ∷ deeds) e = IsAnswer o d.side.napi × DeviceDid (acted o d) deeds e
DeviceDid d (gave weight packets ∷ deeds) e = (packets ≡ take weight d.side.packets) × DeviceDid (device_polled weight d) deeds e

-- the same of a device whose receive side is exact; of another one, nothing is said
abbrev pub DidIf : Bool → DeviceView → List (Action ℕ) → DeviceView → Type 0
DidIf exact d deeds e = exact ≡ true → DeviceDid d deeds e
