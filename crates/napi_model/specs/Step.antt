-- The legal steps of the one-thread NAPI object: `napi_schedule_prep`, `____napi_schedule`, `napi_complete_done`,
-- `napi_disable`, `napi_enable`, `dev_set_threaded`, `napi_busy_loop` and `busy_poll_stop` of net/core/dev.c.
use Rattle.std.specs.Prelude.{◌≡◌, ◌≢◌, ℕ, Bool, true, false, not, ◌||◌, ◌⊎◌, Option, Some, None, if◌then◌else◌}
use Rattle.napi_model.specs.declared.state.{Flags.Flags, Kind.{Kind, TheVariants.{List, Thread}}, Seen.Seen, Place.Place}
use Rattle.napi_model.specs.declared.state.{Place.TheVariants.{Nobody, Granted, Listed, ToThread, Polling, Control}, State.State}
use Rattle.napi_model.specs.declared.event.{Prep.Prep, Done.{Done, TheVariants.{Released, Again, Held}}, Call.Call, Operation.Operation}
use Rattle.napi_model.specs.declared.event.Operation.TheVariants.{Look, Schedule, Hand, Take, Complete, BusyTake, BusyStop, MarkDisable}
use Rattle.napi_model.specs.declared.event.{Operation.TheVariants.{TakeDisable, Unmark, Enable, SetThreaded}, Event.Event}
use Rattle.napi_model.specs.declared.event.Prep.TheVariants as prep
use Rattle.napi_model.specs.declared.event.Call.TheVariants as call

-- ---- states

abbrev pub no_flags : Flags
no_flags =
    record { sched = false; missed = false; disable = false; npsvc = false; in_busy_poll = false; threaded = false; sched_threaded = false }

-- a new instance is disabled and belongs to its controller
abbrev pub opening : ℕ → State
opening controller = record { flags = record no_flags { sched = true; npsvc = true }; place = Control controller }

-- enabled, not threaded, and no poll is requested
abbrev pub idle : State
idle = record { flags = no_flags; place = Nobody }

-- the place of an instance that waits on the poll list, or for its thread
abbrev pub place_of : Kind → Place
place_of List = Listed
place_of Thread = ToThread

abbrev pub handed_at : Place → Option Kind
handed_at Nobody = None
handed_at (Granted c) = None
handed_at Listed = Some List
handed_at ToThread = Some Thread
handed_at (Polling c) = None
handed_at (Control c) = None

-- what the state word shows of a state
abbrev pub seen_of : State → Seen
seen_of s = record { flags = s.flags; handed = handed_at s.place }

abbrev pub IsControl : Place → Type 0
IsControl (Control c) = Unit {0}
IsControl _ = ⊥

-- ---- the table of legal steps: from which states, with which reply, and the state after

-- caller c polls the instance, and busy polls it or not
abbrev pub CallerPolls : ℕ → Bool → State → Type 0
CallerPolls c busy s = (s.place ≡ Polling c) × (s.flags.in_busy_poll ≡ busy)

-- caller c may queue an instance: on the list if it was granted or polls it, for the thread if it was granted
abbrev pub MayHand : ℕ → Kind → State → Type 0
MayHand c List s = (s.place ≡ Granted c) ⊎ CallerPolls c false s
MayHand c Thread s = s.place ≡ Granted c

-- the flags of an instance that a caller may take to busy poll it: none of these is set
abbrev pub MayBusyTake : Flags → Type 0
MayBusyTake f = (f.disable ≡ false) × (f.sched ≡ false) × (f.in_busy_poll ≡ false)

abbrev pub IsLegalBy : ℕ → Operation → State → Type 0
-- a read of the word
IsLegalBy c (Look seen) s = seen ≡ seen_of s
-- `napi_schedule_prep`
IsLegalBy c (Schedule prep.Disabled) s = s.flags.disable ≡ true
IsLegalBy c (Schedule prep.Granted) s = (s.flags.disable ≡ false) × (s.flags.sched ≡ false)
IsLegalBy c (Schedule prep.Missed) s = (s.flags.disable ≡ false) × (s.flags.sched ≡ true)
-- `____napi_schedule`
IsLegalBy c (Hand kind) s = MayHand c kind s
-- `net_rx_action` from the list, `napi_thread_wait` from the thread
IsLegalBy c (Take kind true) s = s.place ≡ place_of kind
IsLegalBy c (Take kind false) s = s.place ≢ place_of kind
-- `napi_complete_done`
IsLegalBy c (Complete Again) s = (s.place ≡ Polling c) × (s.flags.missed ≡ true) × (s.flags.in_busy_poll ≡ false)
IsLegalBy c (Complete Released) s = (s.place ≡ Polling c) × (s.flags.missed ≡ false) × (s.flags.in_busy_poll ≡ false)
IsLegalBy c (Complete Held) s = CallerPolls c true s
-- `napi_busy_loop`, which takes the instance, and `busy_poll_stop`
IsLegalBy c BusyTake s = MayBusyTake s.flags
IsLegalBy c BusyStop s = CallerPolls c true s
-- `napi_disable`, in three steps
IsLegalBy c MarkDisable s = (s.flags.disable ≡ false) × ¬ IsControl s.place
IsLegalBy c (TakeDisable false) s = (s.flags.disable ≡ true) × ((s.flags.sched ≡ true) ⊎ (s.flags.npsvc ≡ true))
IsLegalBy c (TakeDisable true) s = (s.flags.disable ≡ true) × (s.flags.sched ≡ false) × (s.flags.npsvc ≡ false)
IsLegalBy c Unmark s = (s.place ≡ Control c) × (s.flags.disable ≡ true)
-- `napi_enable`
IsLegalBy c (Enable threaded) s = (s.place ≡ Control c) × (s.flags.disable ≡ false)
-- `dev_set_threaded`
IsLegalBy c (SetThreaded threaded) s = Unit {0}

-- the flags after an operation; those that it doesn't name keep their value
abbrev pub flags_after : Operation → Flags → Flags
flags_after (Schedule prep.Granted) f = record f { sched = true }
flags_after (Schedule prep.Missed) f = record f { missed = true }
flags_after (Hand Thread) f = record f { sched_threaded = true }
flags_after (Complete Again) f = record f { missed = false; sched_threaded = false }
flags_after (Complete Released) f = record f { sched = false; sched_threaded = false }
flags_after BusyTake f = record f { sched = true; in_busy_poll = true }
flags_after BusyStop f = record f { in_busy_poll = false; missed = false }
flags_after MarkDisable f = record f { disable = true }
flags_after (TakeDisable true) f = record f { sched = true; npsvc = true; threaded = false }
flags_after Unmark f = record f { disable = false }
flags_after (Enable threaded) f = record f { sched = false; npsvc = false; threaded = f.threaded || threaded }
flags_after (SetThreaded threaded) f = record f { threaded = threaded }
flags_after _ f = f

-- the place of the instance after an operation of caller c
abbrev pub place_after : ℕ → Operation → Place → Place
place_after c (Schedule prep.Granted) p = Granted c
place_after c (Hand kind) p = place_of kind
place_after c (Take kind true) p = Polling c
place_after c (Complete Again) p = Granted c
place_after c (Complete Released) p = Nobody
place_after c BusyTake p = Polling c
place_after c (TakeDisable true) p = Control c
place_after c (Enable threaded) p = Nobody
place_after c _ p = p

abbrev pub after_by : ℕ → Operation → State → State
after_by c o s = record { flags = flags_after o s.flags; place = place_after c o s.place }

-- the queue in which the instance waits after an operation, if it does
abbrev pub handed_after : Operation → Option Kind → Option Kind
handed_after (Hand kind) handed = Some kind
handed_after (Take kind true) handed = None
handed_after _ handed = handed

abbrev pub seen_after : Operation → Seen → Seen
seen_after o x = record { flags = flags_after o x.flags; handed = handed_after o x.handed }

abbrev pub event : ℕ → Operation → Event
event c o = record { caller = c; operation = o }

abbrev pub IsLegal : State → Event → Type 0
IsLegal s e = IsLegalBy e.caller e.operation s

abbrev pub after : State → Event → State
after s e = after_by e.caller e.operation s

-- the relation: a step is legal only if the table lists it
abbrev pub LegalStep : State → Event → State → Type 0
LegalStep s e t = IsLegal s e × (t ≡ after s e)

-- ---- calls, and the reply that a state determines

abbrev pub call_of : Operation → Call
call_of (Look seen) = call.Look
call_of (Schedule reply) = call.Schedule
call_of (Hand kind) = call.Hand kind
call_of (Take kind reply) = call.Take kind
call_of (Complete reply) = call.Complete
call_of BusyTake = call.BusyTake
call_of BusyStop = call.BusyStop
call_of MarkDisable = call.MarkDisable
call_of (TakeDisable reply) = call.TakeDisable
call_of Unmark = call.Unmark
call_of (Enable threaded) = call.Enable threaded
call_of (SetThreaded threaded) = call.SetThreaded threaded

-- the condition under which caller c makes a call
abbrev pub MayCall : ℕ → Call → State → Type 0
MayCall c (call.Hand kind) s = MayHand c kind s
MayCall c call.Complete s = s.place ≡ Polling c
MayCall c call.BusyTake s = MayBusyTake s.flags
MayCall c call.BusyStop s = CallerPolls c true s
MayCall c call.MarkDisable s = (s.flags.disable ≡ false) × ¬ IsControl s.place
MayCall c call.TakeDisable s = s.flags.disable ≡ true
MayCall c call.Unmark s = (s.place ≡ Control c) × (s.flags.disable ≡ true)
MayCall c (call.Enable threaded) s = (s.place ≡ Control c) × (s.flags.disable ≡ false)
MayCall c _ s = Unit {0}

abbrev pub schedule_reply : State → Prep
schedule_reply s = if s.flags.disable then prep.Disabled else (if s.flags.sched then prep.Missed else prep.Granted)

abbrev pub is_handed : Kind → Place → Bool
is_handed List Listed = true
is_handed Thread ToThread = true
is_handed _ _ = false

abbrev pub take_reply : Kind → State → Bool
take_reply kind s = is_handed kind s.place

abbrev pub complete_reply : State → Done
complete_reply s = if s.flags.in_busy_poll then Held else (if s.flags.missed then Again else Released)

abbrev pub take_disable_reply : State → Bool
take_disable_reply s = not (s.flags.sched || s.flags.npsvc)

-- the reply to each call in this state
abbrev pub reply_of : Call → State → Operation
reply_of call.Look s = Look (seen_of s)
reply_of call.Schedule s = Schedule (schedule_reply s)
reply_of (call.Hand kind) s = Hand kind
reply_of (call.Take kind) s = Take kind (take_reply kind s)
reply_of call.Complete s = Complete (complete_reply s)
reply_of call.BusyTake s = BusyTake
reply_of call.BusyStop s = BusyStop
reply_of call.MarkDisable s = MarkDisable
reply_of call.TakeDisable s = TakeDisable (take_disable_reply s)
reply_of call.Unmark s = Unmark
reply_of (call.Enable threaded) s = Enable threaded
reply_of (call.SetThreaded threaded) s = SetThreaded threaded
