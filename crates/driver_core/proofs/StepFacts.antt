-- Each call on a device makes legal steps of its instance.
use Rattle.std.proofs.Common.{◌≡◌, inl, inr, Bool, true, false, [], ◌∷◌, refl, subst, sym}
use Rattle.napi_model.specs.{History.{LegalHistory, state_after}, Step.{event, schedule_reply}}
use Rattle.napi_model.specs.declared.event.Operation.TheVariants.{Schedule, Take, Enable, MarkDisable}
use Rattle.napi_model.specs.declared.state.Kind.TheVariants as kind
use Rattle.driver_core.specs.Device.{in_stage, after_interrupt, stage_is_listed, after_look, masked, after_open, after_driver_poll}
use Rattle.driver_core.specs.Device.{after_stop, after_timer, rearmed_at, timer_set, unmasked, IsMasking, MayStop}
use Rattle.driver_core.specs.Steps.{CallsAreLegal, Leads, CONTROLLER, POLLER, look_events, mask_events, napi_of, poll_events, rearm_events}
use Rattle.driver_core.specs.Steps.{timer_events}
use Rattle.driver_core.specs.declared.device.Rearm.{Rearm, TheVariants.{No, Empty, More}}
use Rattle.driver_core.specs.declared.device.{Stage.{Stage, TheVariants.{Closed, Masking, Closing, Listed, Unmasking, Looking, Armed}}}
use Rattle.driver_core.specs.declared.device.Stage.TheVariants.{Deferring, Deferred}

interrupts : (stage : Stage) (missed : Bool)
    → Leads (in_stage stage missed) (event POLLER (Schedule (schedule_reply (napi_of (in_stage stage missed)))) ∷ [])
    (after_interrupt (in_stage stage missed))
unfolding LegalHistory state_after
interrupts Closed missed = ((((refl, refl), tt), tt), refl)
interrupts (Masking false) missed = ((((refl, refl), tt), tt), refl)
interrupts (Masking true) missed = (((refl, tt), tt), refl)
interrupts Closing missed = (((refl, tt), tt), refl)
interrupts (Listed false) missed = ((((refl, refl), tt), tt), refl)
interrupts (Listed true) missed = (((refl, tt), tt), refl)
interrupts Unmasking missed = ((((refl, refl), tt), tt), refl)
interrupts Looking missed = ((((refl, refl), tt), tt), refl)
interrupts Armed missed = ((((refl, refl), tt), tt), refl)
interrupts Deferring missed = ((((refl, refl), tt), tt), refl)
interrupts Deferred missed = ((((refl, refl), tt), tt), refl)

masks : (stage : Stage) (missed : Bool) → IsMasking stage
    → Leads (in_stage stage missed) (mask_events stage) (masked (in_stage stage missed))
unfolding LegalHistory state_after
masks (Masking stopping) missed h = (((inl refl, tt), tt), refl)
masks Closing missed h = ((((refl, refl, refl), refl), (((refl, refl), refl), tt)), refl)
masks Closed missed h = absurd h
masks (Listed stopping) missed h = absurd h
masks Unmasking missed h = absurd h
masks Looking missed h = absurd h
masks Armed missed h = absurd h
masks Deferring missed h = absurd h
masks Deferred missed h = absurd h

unmasks : (stage : Stage) (missed : Bool) → Leads (in_stage stage missed) [] (unmasked (in_stage stage missed))
unfolding LegalHistory state_after
unmasks Closed missed = (tt, refl)
unmasks (Masking stopping) missed = (tt, refl)
unmasks Closing missed = (tt, refl)
unmasks (Listed stopping) missed = (tt, refl)
unmasks Unmasking missed = (tt, refl)
unmasks Looking missed = (tt, refl)
unmasks Armed missed = (tt, refl)
unmasks Deferring missed = (tt, refl)
unmasks Deferred missed = (tt, refl)

looks : (missed has_more : Bool) → Leads (in_stage Looking missed) (look_events has_more) (after_look has_more (in_stage Looking missed))
unfolding LegalHistory state_after
looks missed true = ((((refl, refl), tt), tt), refl)
looks missed false = (tt, refl)

sets-timer : (stage : Stage) (missed : Bool) → Leads (in_stage stage missed) [] (timer_set (in_stage stage missed))
unfolding LegalHistory state_after
sets-timer Closed missed = (tt, refl)
sets-timer (Masking stopping) missed = (tt, refl)
sets-timer Closing missed = (tt, refl)
sets-timer (Listed stopping) missed = (tt, refl)
sets-timer Unmasking missed = (tt, refl)
sets-timer Looking missed = (tt, refl)
sets-timer Armed missed = (tt, refl)
sets-timer Deferring missed = (tt, refl)
sets-timer Deferred missed = (tt, refl)

times-out : (stage : Stage) (missed : Bool)
    → Leads (in_stage stage missed) (timer_events stage) (after_timer (in_stage stage missed))
unfolding LegalHistory state_after
times-out Closed missed = (tt, refl)
times-out (Masking stopping) missed = (tt, refl)
times-out Closing missed = (tt, refl)
times-out (Listed stopping) missed = (tt, refl)
times-out Unmasking missed = ((((refl, refl), tt), tt), refl)
times-out Looking missed = ((((refl, refl), tt), tt), refl)
times-out Armed missed = ((((refl, refl), tt), tt), refl)
times-out Deferring missed = ((((refl, refl), tt), ((inl refl, tt), tt)), refl)
times-out Deferred missed = ((((refl, refl), tt), ((inl refl, tt), tt)), refl)

polls : (stays defers stopping missed : Bool)
    → Leads (in_stage (Listed stopping) missed) (poll_events stays No (in_stage (Listed stopping) missed))
    (after_driver_poll stays defers No (in_stage (Listed stopping) missed)).0
unfolding LegalHistory state_after
polls true defers false missed = (((refl, tt), ((inr (refl, refl), tt), tt)), refl)
polls true defers true true = (((refl, tt), (((refl, refl, refl), tt), ((inl refl, tt), tt))), refl)
polls true defers true false = (((refl, tt), (((refl, refl, refl), tt), (((refl, refl, refl), refl), (((refl, refl), refl), tt)))), refl)
polls false defers stopping true = (((refl, tt), (((refl, refl, refl), tt), ((inl refl, tt), tt))), refl)
polls false defers true false = (((refl, tt), (((refl, refl, refl), tt), (((refl, refl, refl), refl), (((refl, refl), refl), tt)))), refl)
polls false true false false = (((refl, tt), (((refl, refl, refl), tt), tt)), refl)
polls false false false false = (((refl, tt), (((refl, refl, refl), tt), tt)), refl)

rearms : (has_more stopping missed : Bool)
    → Leads (in_stage (Listed stopping) missed) (event POLLER (Take kind.List true) ∷ rearm_events has_more stopping missed)
    (rearmed_at has_more stopping missed)
unfolding LegalHistory state_after
rearms has_more stopping true = (((refl, tt), (((refl, refl, refl), tt), tt)), refl)
rearms true false false = (((refl, tt), (((refl, refl, refl), tt), (((refl, refl), tt), tt))), refl)
rearms false false false = (((refl, tt), (((refl, refl, refl), tt), tt)), refl)
rearms has_more true false = (((refl, tt), (((refl, refl, refl), tt), tt)), refl)

polls-rearmed : (stays defers : Bool) (rearm : Rearm) (stopping missed : Bool)
    → Leads (in_stage (Listed stopping) missed) (poll_events stays rearm (in_stage (Listed stopping) missed))
    (after_driver_poll stays defers rearm (in_stage (Listed stopping) missed)).0
polls-rearmed stays defers No stopping missed = polls stays defers stopping missed
polls-rearmed stays defers Empty stopping missed = rearms false stopping missed
polls-rearmed stays defers More stopping missed = rearms true stopping missed

polls-listed : (stage : Stage) (stays defers : Bool) (rearm : Rearm) (missed : Bool) → stage_is_listed stage ≡ true
    → Leads (in_stage stage missed) (poll_events stays rearm (in_stage stage missed))
    (after_driver_poll stays defers rearm (in_stage stage missed)).0
polls-listed (Listed stopping) stays defers rearm missed h = polls-rearmed stays defers rearm stopping missed
polls-listed Closed stays defers rearm missed h = absurd (cc h)
polls-listed (Masking stopping) stays defers rearm missed h = absurd (cc h)
polls-listed Closing stays defers rearm missed h = absurd (cc h)
polls-listed Unmasking stays defers rearm missed h = absurd (cc h)
polls-listed Looking stays defers rearm missed h = absurd (cc h)
polls-listed Armed stays defers rearm missed h = absurd (cc h)
polls-listed Deferring stays defers rearm missed h = absurd (cc h)
polls-listed Deferred stays defers rearm missed h = absurd (cc h)

opens : (missed : Bool) → Leads (in_stage Closed missed) (event CONTROLLER (Enable false) ∷ []) (after_open (in_stage Closed missed))
unfolding LegalHistory state_after
opens missed = ((((refl, refl), refl), tt), refl)

stops : (stage : Stage) (missed : Bool) → MayStop stage
    → Leads (in_stage stage missed) (event CONTROLLER MarkDisable ∷ []) (after_stop (in_stage stage missed))
unfolding LegalHistory state_after
stops (Masking false) missed h = ((((refl, λ x. x), refl), tt), refl)
stops (Listed false) missed h = ((((refl, λ x. x), refl), tt), refl)
stops Unmasking missed h = ((((refl, λ x. x), refl), tt), refl)
stops Looking missed h = ((((refl, λ x. x), refl), tt), refl)
stops Armed missed h = ((((refl, λ x. x), refl), tt), refl)
stops Deferring missed h = ((((refl, λ x. x), refl), tt), refl)
stops Deferred missed h = ((((refl, λ x. x), refl), tt), refl)
stops (Masking true) missed h = absurd (cc h)
stops (Listed true) missed h = absurd (cc h)
stops Closed missed h = absurd h
stops Closing missed h = absurd h

pub calls-are-legal : CallsAreLegal
calls-are-legal = record {
  interrupted = λ d. interrupts d.stage d.missed;
  masked = λ d h. masks d.stage d.missed h;
  unmasked = λ d. unmasks d.stage d.missed;
  looked = λ d has_more h.
      let P : Stage → Type 0 = λ stage. Leads (in_stage stage d.missed) (look_events has_more)
      (after_look has_more (in_stage stage d.missed)) in
      subst P (sym h) (looks d.missed has_more);
  timed_out = λ d. times-out d.stage d.missed;
  timer_set = λ d. sets-timer d.stage d.missed;
  polled = λ d stays defers rearm h. polls-listed d.stage stays defers rearm d.missed h;
  opened = λ d h.
      let P : Stage → Type 0 = λ stage. Leads (in_stage stage d.missed) (event CONTROLLER (Enable false) ∷ [])
      (after_open (in_stage stage d.missed)) in
      subst P (sym h) (opens d.missed);
  stopped = λ d h. stops d.stage d.missed h;
}
