-- The rule of one device of a driver: an instance (`struct napi_struct`), the mask of its card's interrupt, and the effect of
-- each call on them. A card interrupts when a packet arrives, and loses that interrupt while it is masked.
use Rattle.std.specs.Prelude.{◌≡◌, Bool, true, false, Option, Some, None}
use Rattle.driver_core.specs.declared.device.{Chore.{Chore, TheVariants.{Mask, Unmask, Look, Timer}}, DriverDevice.DriverDevice}
use Rattle.driver_core.specs.declared.device.Rearm.{Rearm, TheVariants.{No, Empty, More}}
use Rattle.driver_core.specs.declared.device.Stage.{Stage, TheVariants.{Closed, Masking, Closing, Listed, Unmasking, Looking, Armed}}
use Rattle.driver_core.specs.declared.device.Stage.TheVariants.{Deferring, Deferred}
use Rattle.poll_runs.specs.declared.bench.Next.{Next, TheVariants.{Gone, Again, Repoll}}
use Rattle.napi_model.specs.declared.state.Kind.TheVariants as kind

abbrev pub in_stage : Stage → Bool → DriverDevice
in_stage stage missed = record { stage = stage; missed = missed }

-- ---- what has to be done at its card

abbrev pub chore_at : Stage → Option Chore
chore_at Closed = None
chore_at (Masking stopping) = Some Mask
chore_at Closing = Some Mask
chore_at (Listed stopping) = None
chore_at Unmasking = Some Unmask
chore_at Looking = Some Look
chore_at Armed = None
chore_at Deferring = Some Timer
chore_at Deferred = None

-- ---- the card interrupts (`napi_schedule_prep`)

-- While an instance is scheduled or disabled, the request is missed; while it is being disabled, the request is rejected.
-- Otherwise it is granted: first the card has to be masked, and then the instance is queued.
abbrev pub interrupted_at : Stage → Bool → DriverDevice
interrupted_at Closed missed = in_stage Closed true
interrupted_at (Masking false) missed = in_stage (Masking false) true
interrupted_at (Masking true) missed = in_stage (Masking true) missed
interrupted_at Closing missed = in_stage Closing missed
interrupted_at (Listed false) missed = in_stage (Listed false) true
interrupted_at (Listed true) missed = in_stage (Listed true) missed
interrupted_at Unmasking missed = in_stage (Masking false) missed
interrupted_at Looking missed = in_stage (Masking false) missed
interrupted_at Armed missed = in_stage (Masking false) missed
interrupted_at Deferring missed = in_stage (Masking false) missed
interrupted_at Deferred missed = in_stage (Masking false) missed

-- ---- the timer of a deferred interrupt expires (`napi_watchdog`)

-- Unless the instance is scheduled, disabled or being disabled, a poll is requested; nothing is missed. If the card is masked, the
-- instance is queued at once.
abbrev pub timed_out_at : Stage → Stage
timed_out_at Unmasking = Masking false
timed_out_at Looking = Masking false
timed_out_at Armed = Masking false
timed_out_at Deferring = Listed false
timed_out_at Deferred = Listed false
timed_out_at stage = stage

-- ---- an action was done: mask, unmask, look, set the timer

-- the card has to be masked for a poll
abbrev pub masks_for_poll : Stage → Bool
masks_for_poll (Masking stopping) = true
masks_for_poll stage = false

-- After the card was masked, a granted instance goes on the poll list (`____napi_schedule`); an instance that was stopped while
-- no poll was pending is disabled.
abbrev pub masked_at : Stage → Stage
masked_at (Masking stopping) = Listed stopping
masked_at Closing = Closed
masked_at stage = stage

abbrev pub unmasked_at : Stage → Stage
unmasked_at Unmasking = Looking
unmasked_at stage = stage

-- if the card has packets when it is looked at, no interrupt was raised for them: so a poll is requested
abbrev pub looked_at : Bool → Stage → Stage
looked_at true Looking = Masking false
looked_at false Looking = Armed
looked_at has_more stage = stage

-- the timer was set
abbrev pub timer_set_at : Stage → Stage
timer_set_at Deferring = Deferred
timer_set_at stage = stage

-- ---- the device was polled (`__napi_poll`, `napi_complete_done`)

-- The instance is completed: queued again if a request was missed, otherwise released; a pending stop ends here. If the interrupt is
-- deferred, the card stays masked, and a timer is set.
abbrev pub completed_at : Bool → Bool → Bool → DriverDevice × Next
completed_at defers stopping true = (in_stage (Listed stopping) false, Again kind.List)
completed_at true false false = (in_stage Deferring false, Gone)
completed_at false false false = (in_stage Unmasking false, Gone)
completed_at defers true false = (in_stage Closed false, Gone)

-- an instance that stays scheduled after a poll is polled again, unless it is being disabled
abbrev pub after_poll_at : Bool → Bool → Bool → Bool → DriverDevice × Next
after_poll_at true defers false missed = (in_stage (Listed false) missed, Repoll)
after_poll_at true defers true missed = completed_at defers true missed
after_poll_at false defers stopping missed = completed_at defers stopping missed

-- After a poll whose fetch unmasked the card and then looked at it: another poll is requested if a request was missed or the card has
-- packets, and the card is masked first. Otherwise the instance is released. A pending stop ends after the card is masked again.
abbrev pub rearmed_at : Bool → Bool → Bool → DriverDevice
rearmed_at has_more stopping true = in_stage (Masking stopping) false
rearmed_at has_more true false = in_stage Closing false
rearmed_at true false false = in_stage (Masking false) false
rearmed_at false false false = in_stage Armed false

-- ---- the device is opened and stopped (`napi_enable`, `napi_disable`)

-- after the enable, the card has to be unmasked and looked at
abbrev pub opened_at : Stage → Stage
opened_at Closed = Unmasking
opened_at stage = stage

-- a scheduled instance is polled until it is completed; the card of any other instance is masked, and it is disabled
abbrev pub stopped_at : Stage → Stage
stopped_at (Masking stopping) = Masking true
stopped_at (Listed stopping) = Listed true
stopped_at Unmasking = Closing
stopped_at Looking = Closing
stopped_at Armed = Closing
stopped_at Deferring = Closing
stopped_at Deferred = Closing
stopped_at stage = stage

abbrev pub MayStop : Stage → Type 0
MayStop (Masking stopping) = stopping ≡ false
MayStop (Listed stopping) = stopping ≡ false
MayStop Closed = ⊥
MayStop Closing = ⊥
MayStop _ = Unit {0}

-- the device was stopped, and isn't closed yet
abbrev pub is_stopping : Stage → Bool
is_stopping Closing = true
is_stopping (Masking stopping) = stopping
is_stopping (Listed stopping) = stopping
is_stopping _ = false

-- ---- the same functions on a whole device

abbrev pub after_interrupt : DriverDevice → DriverDevice
after_interrupt d = interrupted_at d.stage d.missed

abbrev pub after_timer : DriverDevice → DriverDevice
after_timer d = in_stage (timed_out_at d.stage) d.missed

abbrev pub timer_set : DriverDevice → DriverDevice
timer_set d = in_stage (timer_set_at d.stage) d.missed

abbrev pub masked : DriverDevice → DriverDevice
masked d = in_stage (masked_at d.stage) d.missed

abbrev pub unmasked : DriverDevice → DriverDevice
unmasked d = in_stage (unmasked_at d.stage) d.missed

abbrev pub after_look : Bool → DriverDevice → DriverDevice
after_look has_more d = in_stage (looked_at has_more d.stage) d.missed

abbrev pub after_open : DriverDevice → DriverDevice
after_open d = in_stage (opened_at d.stage) d.missed

abbrev pub after_stop : DriverDevice → DriverDevice
after_stop d = in_stage (stopped_at d.stage) d.missed

-- the action was done; for a look, the flag says whether the card had packets
abbrev pub did : Chore → Bool → DriverDevice → DriverDevice
did Mask has_more d = masked d
did Unmask has_more d = unmasked d
did Look has_more d = after_look has_more d
did Timer has_more d = timer_set d

-- The device after a poll, and how the poll ends. The first flag says whether the instance stays scheduled after it, the second whether
-- the interrupt is deferred if it doesn't.
abbrev pub after_driver_poll : Bool → Bool → Rearm → DriverDevice → DriverDevice × Next
after_driver_poll stays defers No d = after_poll_at stays defers (is_stopping d.stage) d.missed
after_driver_poll stays defers Empty d = (rearmed_at false (is_stopping d.stage) d.missed, Gone)
after_driver_poll stays defers More d = (rearmed_at true (is_stopping d.stage) d.missed, Gone)

-- the poll completed the instance
abbrev pub completes : Bool → Rearm → DriverDevice → Bool
completes true No d = is_stopping d.stage
completes stays rearm d = true

-- ---- properties that contracts use

abbrev pub stage_is_listed : Stage → Bool
stage_is_listed (Listed stopping) = true
stage_is_listed _ = false

abbrev pub IsMasking : Stage → Type 0
IsMasking (Masking stopping) = Unit {0}
IsMasking Closing = Unit {0}
IsMasking _ = ⊥

-- the device is closed; or its card was unmasked and then looked at, and had no packets; or its timer was set
abbrev pub IsAtRest : Stage → Type 0
IsAtRest Closed = Unit {0}
IsAtRest Armed = Unit {0}
IsAtRest Deferred = Unit {0}
IsAtRest _ = ⊥
