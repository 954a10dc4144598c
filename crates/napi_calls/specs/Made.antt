-- What a call adds to the history and to its caller's own list.
use Rattle.std.specs.Prelude.{◌≡◌, ◌≢◌, ℕ, true, false, List, [], ◌∷◌, ◌++◌, map, Option, Some, None}
use Rattle.napi_model.specs.declared.{state.{Flags.Flags, Seen.Seen}, event.{Call.Call, Event.Event, Operation.Operation}}
use Rattle.napi_model.specs.{declared.event.Operation.TheVariants.{Look, TakeDisable}, Step.{event, MayBusyTake}}
use Rattle.{napi_word.specs.declared.table.Pass.Pass, napi_calls.specs.Seats.{SameSeat, ShowsLegal, pass_number, shown, own_list}}
use Rattle.napi_word.specs.{Passes.view_of, Knowledge.{view_delivered, first_in}}
use mathlib.Core.List.{IsPrefix}
use Rattle.napi_model.specs.declared.event.Call.TheVariants as call

-- the events of number c with these operations, with their replies
abbrev pub events : ℕ → List Operation → List Event
events c os = map (event c) os

-- the history ends with these events
abbrev pub EndsWith : List Event → List Event → Type 0
EndsWith [] h = Unit {0}
EndsWith (e ∷ []) h = (before : List Event) × (h ≡ before ++ e ∷ [])
EndsWith (e ∷ f ∷ es) h = EndsWith (f ∷ es) h

-- a call of pass p made these events in this order, each after all events that p had seen; q is the pass after the call
pub record Made (p : Pass) (os : List Operation) (q : Pass) : Type 0 where
  pub seat : SameSeat p q
  -- the history shown before the call is a prefix of the one shown after it
  pub begins : IsPrefix (shown p) (shown q)
  -- the ring's first context is the same, and the deliveries that p knew are a prefix of those that q knows
  pub first : first_in (view_of q) ≡ first_in (view_of p)
  pub dealt : IsPrefix (view_delivered (view_of p)) (view_delivered (view_of q))
  -- the own list grew by exactly these events
  pub grown : own_list q ≡ own_list p ++ events (pass_number p) os
  -- the last of these events is the last event of the history shown
  pub ends : EndsWith (events (pass_number p) os) (shown q)
  pub shows : ShowsLegal q

-- with these flags in its look, a call goes on to its compare-exchange
abbrev pub ContinuesCall : Call → Flags → Type 0
ContinuesCall call.Schedule f = f.disable ≡ false
ContinuesCall call.Complete f = f.in_busy_poll ≡ false
ContinuesCall call.BusyTake f = MayBusyTake f
ContinuesCall call.BusyStop f = f.in_busy_poll ≡ true
ContinuesCall call.TakeDisable f = (f.disable ≡ true) × (f.sched ≡ false) × (f.npsvc ≡ false)
ContinuesCall (call.Enable threaded) f = f.disable ≡ false
ContinuesCall _ f = Unit {0}

-- a look after which the call goes on, and then one that shows another state: the attempt failed
pub record Lost (c : Call) : Type 0 where
  pub first : Seen
  pub goes_on : ContinuesCall c first.flags
  pub second : Seen
  pub differ : second ≢ first

abbrev pub looks : {c : Call} → Lost c → List Operation
looks t = Look t.first ∷ Look t.second ∷ []

-- an attempt to take the instance for a disable that failed or found it busy
abbrev pub take_attempt : Option (Lost call.TakeDisable) → List Operation
take_attempt (Some t) = looks t
take_attempt None = TakeDisable false ∷ []

-- the attempt failed: it made only its two looks
abbrev pub WasLost : Call → Pass → Pass → Type 0
WasLost c p q = (t : Lost c) × Made p (looks t) q
