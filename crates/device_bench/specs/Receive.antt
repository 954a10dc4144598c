-- A device's receive side for one thread: the state of its instance and the content of its ring, and the effect of calls on
-- them.
use Rattle.std.specs.Prelude.{ℕ, Bool, true, false, not, ◌||◌, List, [], ◌∷◌, ◌++◌, length, take, sum, min, nat_lt, Option, Some, None}
use Rattle.std.specs.Prelude.{if◌then◌else◌}
use Rattle.napi_model.specs.{Step.{after, reply_of, event, opening, seen_of}, declared.event.{Call.Call, Done.Done, Operation.Operation}}
use Rattle.napi_model.specs.declared.event.{Done.TheVariants.{Released, Again, Held}, Prep.{Prep, TheVariants.{Granted, Missed, Disabled}}}
use Rattle.napi_model.specs.declared.state.{Kind.Kind, Place.{Place, TheVariants.{Control, Granted as Owned, Polling}}, State.State}
use Rattle.device_bench.specs.declared.device.TheConstants.{CONTROLLER, INTERRUPT, POLLER, THREAD}
use Rattle.napi_model.specs.declared.event.Operation.TheVariants as operation
use Rattle.napi_model.specs.declared.state.Kind.TheVariants as kind
use Rattle.napi_model.specs.declared.event.Call.TheVariants as call
use Rattle.poll_runs.specs.Polling as rule

pub record ReceiveView : Type 0 where
  -- the state of its instance
  pub napi : State
  -- the size in bytes of each packet in the ring, the oldest first; the next field is the ring's capacity
  pub packets : List ℕ
  pub capacity : ℕ

-- a new receive side: an empty ring of this capacity, and an instance that is enabled and not threaded
abbrev pub opened_side : ℕ → ReceiveView
opened_side capacity = record {
  napi = after (opening CONTROLLER) (event CONTROLLER (operation.Enable false));
  packets = [];
  capacity = capacity;
}

-- ---- the ring

abbrev pub ring_has_place : ReceiveView → Bool
ring_has_place r = nat_lt (length r.packets) r.capacity

-- a packet of this size is put into the ring, if there is room
abbrev pub put_if : Bool → ℕ → ReceiveView → ReceiveView
put_if true bytes r = record r { packets = r.packets ++ bytes ∷ [] }
put_if false bytes r = r

-- how many packets a poll of this weight takes; the next function is the sum of their bytes
abbrev pub given_of : ℕ → ReceiveView → ℕ
given_of weight r = min weight (length r.packets)

abbrev pub polled_bytes : ℕ → ReceiveView → ℕ
polled_bytes weight r = sum (take (given_of weight r) r.packets)

-- ---- the instance

-- the queue in which its owner puts an instance: its thread's if THREADED is set, otherwise the poll list (`____napi_schedule`)
abbrev pub state_kind : State → Kind
state_kind s = rule.kind_for s.flags

abbrev pub after_hand : ℕ → State → State
after_hand caller s = after s (event caller (operation.Hand (state_kind s)))

-- The interrupt requests a poll (`napi_schedule_prep`), and queues the instance if the request is granted; the next function
-- says in which queue.
abbrev pub requested : Prep → State → State
requested Granted s = after_hand INTERRUPT (after s (event INTERRUPT (operation.Schedule Granted)))
requested Missed s = after s (event INTERRUPT (operation.Schedule Missed))
requested Disabled s = after s (event INTERRUPT (operation.Schedule Disabled))

abbrev pub queued_kind : Prep → State → Option Kind
queued_kind Granted s = Some (state_kind s)
queued_kind Missed s = None
queued_kind Disabled s = None

-- the number of the caller that takes instances from this queue
abbrev pub taker_of : Kind → ℕ
taker_of kind.List = POLLER
taker_of kind.Thread = THREAD

-- the number of the caller that owns the instance
abbrev pub owner_in : Place → ℕ
owner_in (Owned c) = c
owner_in (Polling c) = c
owner_in _ = 0

-- the number of the caller that makes an operation of a poll
abbrev pub caller_of : Operation → Place → ℕ
caller_of (operation.Take kind taken) place = taker_of kind
caller_of operation.BusyTake place = POLLER
caller_of o place = owner_in place

-- the number of the caller that polls the instance
abbrev pub poller_in : Place → ℕ
poller_in (Polling c) = c
poller_in _ = 0

abbrev pub is_polling_place : Place → Bool
is_polling_place (Polling c) = true
is_polling_place _ = false

-- a completion (`napi_complete_done`); if a request was missed, the poller queues the instance again
abbrev pub done_by : ℕ → Done → State → State
done_by poller Again s = after_hand poller (after s (event poller (operation.Complete Again)))
done_by poller Released s = after s (event poller (operation.Complete Released))
done_by poller Held s = after s (event poller (operation.Complete Held))

abbrev pub handed_again : Done → State → Option Kind
handed_again Again s = Some (state_kind s)
handed_again Released s = None
handed_again Held s = None

abbrev pub is_control : Place → Bool
is_control (Control c) = true
is_control _ = false

-- One attempt at a pending disable: if no caller owns the instance, the controller takes it, and the mark of the disable is
-- cleared.
abbrev pub tried_by : Bool → State → State
tried_by true s = after (after s (event CONTROLLER (operation.TakeDisable true))) (event CONTROLLER operation.Unmark)
tried_by false s = after s (event CONTROLLER (operation.TakeDisable false))

-- no caller owns the instance, and it isn't being disabled
abbrev pub is_idle : State → Bool
is_idle s = not (s.flags.disable || (s.flags.sched || s.flags.in_busy_poll))

-- the operation that a call of a poller results in; a take for busy polling results in a look if the instance isn't idle
abbrev pub answered : Call → State → Operation
answered call.BusyTake s = if is_idle s then operation.BusyTake else operation.Look (seen_of s)
answered c s = reply_of c s

-- an idle instance is taken to busy poll it (`napi_busy_loop`)
abbrev pub busy_taken : Bool → State → State
busy_taken true s = after s (event POLLER operation.BusyTake)
busy_taken false s = s
