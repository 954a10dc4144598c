-- How a call on a shared instance gets its result: it retries until an attempt succeeds.
use Rattle.std.specs.Prelude.{◌≡◌, List, [], ◌∷◌, ◌++◌, flat_map, map}
use Rattle.napi_model.specs.{Step.MayBusyTake, declared.{state.Seen.Seen, event.{Call.Call, Done.TheVariants.{Released, Again}}}}
use Rattle.napi_model.specs.declared.event.Operation.{Operation, TheVariants.{Look, Complete, BusyTake, BusyStop}}
use Rattle.{napi_calls.specs.Made.{Lost, looks}, poll_runs.specs.Plan.{Follows, Plan, made}}
use Rattle.rx_ring.specs.declared.packet.Packet.{Packet}
use Rattle.napi_model.specs.declared.event.Call.TheVariants as call

-- failed attempts, and then a look after which the call may go on
abbrev pub TriesFor : Call → List Operation → List Operation → Type 0
TriesFor c decisive os = (ts : List (Lost c)) × (x : Seen) × (os ≡ flat_map looks ts ++ Look x ∷ decisive)

-- by these operations the call results in the operation `o`, which the last attempt made
abbrev pub Tries : Call → Operation → List Operation → Type 0
Tries c (Complete Released) os = TriesFor c (Complete Released ∷ []) os
Tries c (Complete Again) os = TriesFor c (Complete Again ∷ []) os
Tries c BusyStop os = TriesFor c (BusyStop ∷ []) os
Tries c BusyTake os = (ts : List (Lost c)) × (x : Seen) × MayBusyTake x.flags × (os ≡ flat_map looks ts ++ Look x ∷ BusyTake ∷ [])
Tries call.BusyTake (Look x) os = (ts : List (Lost call.BusyTake)) × (os ≡ flat_map looks ts ++ Look x ∷ [])
Tries c o os = os ≡ o ∷ []

-- with these operations and no polls, the plan has this result
abbrev pub PlanMakes : {A : Type 0} → Plan Packet A → List Operation → A → Type 0
PlanMakes plan os answer = Follows Tries plan (map made os) answer
