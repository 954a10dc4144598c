-- A device of a driver as a NAPI instance. Its calls are legal steps of that instance (`LegalStep` of `napi_model`).
use Rattle.std.specs.Prelude.{◌≡◌, ◌&&◌, not, ℕ, Bool, true, false, List, [], ◌∷◌}
use Rattle.napi_model.specs.declared.{state.{Place.Place, Place.TheVariants.{Nobody, Granted, Control}, State.State}, event.{Event.Event}}
use Rattle.napi_model.specs.declared.event.Operation.TheVariants.{Schedule, Hand, Take, Complete, MarkDisable, TakeDisable}
use Rattle.napi_model.specs.declared.event.Operation.TheVariants.{Unmark, Enable}
use Rattle.napi_model.specs.declared.event.Done.TheVariants.{Released, Again}
use Rattle.napi_model.specs.{History.{LegalHistory, state_after}, Step.{event, no_flags, schedule_reply}}
use Rattle.napi_model.specs.declared.state.Place.TheVariants as place
use Rattle.napi_model.specs.declared.state.Kind.TheVariants as kind
use Rattle.napi_model.specs.declared.event.Prep.TheVariants as prep
use Rattle.driver_core.specs.Device.{after_interrupt, stage_is_listed, is_stopping, after_look, masked, after_open, after_driver_poll}
use Rattle.driver_core.specs.Device.{after_stop, after_timer, timer_set, unmasked}
use Rattle.driver_core.specs.Device.{IsMasking, MayStop}
use Rattle.driver_core.specs.declared.device.{DriverDevice.DriverDevice, Rearm.{Rearm, TheVariants.{No, Empty, More}}}
use Rattle.driver_core.specs.declared.device.{Stage.{Stage, TheVariants.{Closed, Masking, Closing, Listed, Unmasking, Looking, Armed}}}
use Rattle.driver_core.specs.declared.device.Stage.TheVariants.{Deferring, Deferred}

-- the callers of the instance: the one that opens and stops the device, and the one that requests and makes its polls
abbrev pub CONTROLLER : ℕ
CONTROLLER = 0

abbrev pub POLLER : ℕ
POLLER = 1

abbrev pub stage_place : Stage → Place
stage_place Closed = Control CONTROLLER
stage_place (Masking stopping) = Granted POLLER
stage_place (Listed stopping) = place.Listed
stage_place stage = Nobody

abbrev pub stage_is_scheduled : Stage → Bool
stage_is_scheduled Closed = true
stage_is_scheduled (Masking stopping) = true
stage_is_scheduled (Listed stopping) = true
stage_is_scheduled stage = false

-- the instance is neither scheduled nor disabled nor being disabled, so that its timer requests a poll
abbrev pub is_unscheduled : Stage → Bool
is_unscheduled stage = not (stage_is_scheduled stage) && not (is_stopping stage)

abbrev pub is_closed : Stage → Bool
is_closed Closed = true
is_closed stage = false

-- the instance of a device
abbrev pub napi_of : DriverDevice → State
napi_of d = record {
  flags = record no_flags {
    sched = stage_is_scheduled d.stage;
    missed = d.missed;
    disable = is_stopping d.stage;
    npsvc =
        is_closed d.stage;
  };
  place = stage_place d.stage;
}

-- these events are all legal, and lead from the one device to the other
abbrev pub Leads : DriverDevice → List Event → DriverDevice → Type 0
Leads d events d' = LegalHistory CONTROLLER (napi_of d) events × (napi_of d' ≡ state_after (napi_of d) events)

-- a stop ends: the controller takes the instance (`napi_disable`)
abbrev pub disables : List Event
disables = event CONTROLLER (TakeDisable true) ∷ event CONTROLLER Unmark ∷ []

-- the events when the card was masked: a granted instance is queued, and an idle one is disabled
abbrev pub mask_events : Stage → List Event
mask_events Closing = disables
mask_events stage = event POLLER (Hand kind.List) ∷ []

-- The events when the timer expired: the instance is requested if it is idle, and queued at once if its card is masked.
abbrev pub timer_events : Stage → List Event
timer_events Unmasking = event POLLER (Schedule prep.Granted) ∷ []
timer_events Looking = event POLLER (Schedule prep.Granted) ∷ []
timer_events Armed = event POLLER (Schedule prep.Granted) ∷ []
timer_events Deferring = event POLLER (Schedule prep.Granted) ∷ event POLLER (Hand kind.List) ∷ []
timer_events Deferred = event POLLER (Schedule prep.Granted) ∷ event POLLER (Hand kind.List) ∷ []
timer_events stage = []

abbrev pub look_events : Bool → List Event
look_events true = event POLLER (Schedule prep.Granted) ∷ []
look_events false = []

abbrev pub complete_events : Bool → Bool → List Event
complete_events stopping true = event POLLER (Complete Again) ∷ event POLLER (Hand kind.List) ∷ []
complete_events false false = event POLLER (Complete Released) ∷ []
complete_events true false = event POLLER (Complete Released) ∷ disables

abbrev pub end_events : Bool → Bool → Bool → List Event
end_events true false missed = event POLLER (Hand kind.List) ∷ []
end_events true true missed = complete_events true missed
end_events false stopping missed = complete_events stopping missed

-- the events if the fetch unmasked the card and then looked at it: the instance is completed, and requested again if it has to be
abbrev pub rearm_events : Bool → Bool → Bool → List Event
rearm_events has_more stopping true = event POLLER (Complete Again) ∷ []
rearm_events true false false = event POLLER (Complete Released) ∷ event POLLER (Schedule prep.Granted) ∷ []
rearm_events false false false = event POLLER (Complete Released) ∷ []
rearm_events has_more true false = event POLLER (Complete Released) ∷ []

abbrev pub rest_events : Bool → Rearm → Bool → Bool → List Event
rest_events stays No stopping missed = end_events stays stopping missed
rest_events stays Empty stopping missed = rearm_events false stopping missed
rest_events stays More stopping missed = rearm_events true stopping missed

-- the events of a poll: the instance is taken from the list, and the poll ends by its rule
abbrev pub poll_events : Bool → Rearm → DriverDevice → List Event
poll_events stays rearm d = event POLLER (Take kind.List true) ∷ rest_events stays rearm (is_stopping d.stage) d.missed

-- law: each call on a device makes legal steps of its instance, with the replies of that object
pub record CallsAreLegal : Type 0 where
  pub interrupted : (d : DriverDevice) → Leads d (event POLLER (Schedule (schedule_reply (napi_of d))) ∷ []) (after_interrupt d)
  pub masked : (d : DriverDevice) → IsMasking d.stage → Leads d (mask_events d.stage) (masked d)
  pub unmasked : (d : DriverDevice) → Leads d [] (unmasked d)
  pub looked : (d : DriverDevice) (has_more : Bool) → d.stage ≡ Looking → Leads d (look_events has_more) (after_look has_more d)
  pub timed_out : (d : DriverDevice) → Leads d (timer_events d.stage) (after_timer d)
  pub timer_set : (d : DriverDevice) → Leads d [] (timer_set d)
  pub polled : (d : DriverDevice) (stays defers : Bool) (rearm : Rearm) → stage_is_listed d.stage ≡ true
      → Leads d (poll_events stays rearm d) (after_driver_poll stays defers rearm d).0
  pub opened : (d : DriverDevice) → d.stage ≡ Closed → Leads d (event CONTROLLER (Enable false) ∷ []) (after_open d)
  pub stopped : (d : DriverDevice) → MayStop d.stage → Leads d (event CONTROLLER MarkDisable ∷ []) (after_stop d)
