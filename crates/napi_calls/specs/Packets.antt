-- The effect of a call on the packets of its instance's ring: a caller that takes the context has everything that was
-- delivered; one that puts it back delivers what it polled since.
use Rattle.std.specs.Prelude.{◌≡◌, ℕ, false, List, [], ◌∷◌, ◌++◌, length, drop, Result, Ok, Err}
use Rattle.rx_ring.specs.{declared.{packet.Packet.Packet, ends.RxCtx.RxCtx}, Ends.{SameCtx, received_list, known_list, polls_of, is_beside}}
use Rattle.napi_word.specs.{declared.{table.Pass.Pass, history.Delivery.Delivery}, Passes.view_of}
use Rattle.napi_calls.specs.declared.{types.{Caller.Caller, Polling.Polling, Busy.Busy}, answers.{TryPrep.TryPrep, Sched.Sched}}
use Rattle.napi_calls.specs.declared.answers.{TryDone.TryDone, Completed.Completed, TryBusy.TryBusy, TryStop.TryStop, TryTake.TryTake}
use Rattle.napi_calls.specs.{Seats.pass_number, Calls.seat_of}
use Rattle.napi_word.specs.Knowledge as view
use Rattle.napi_calls.specs.declared.answers.Sched.TheVariants as sched
use Rattle.napi_calls.specs.declared.answers.TryDone.TheVariants as try_done
use Rattle.napi_calls.specs.declared.answers.Completed.TheVariants as completed
use Rattle.napi_calls.specs.declared.answers.TryBusy.TheVariants as try_busy
use Rattle.napi_calls.specs.declared.answers.TryStop.TheVariants as try_stop
use Rattle.napi_calls.specs.declared.answers.TryTake.TheVariants as try_take

-- the deliveries that a pass has seen
abbrev pub delivered : Pass → List Delivery
delivered p = view.view_delivered (view_of p)

abbrev pub own_delivered : Pass → List Delivery
own_delivered p = view.own_deliveries (pass_number p) (delivered p)

-- the packets that the context had received before the pass took it
abbrev pub received_before : Pass → List Packet
received_before p = view.received_in (view_of p)

-- the packets that the context has received since the pass took it
abbrev pub polled : Pass → RxCtx → List Packet
polled p ctx = drop (length (received_before p)) (received_list ctx)

-- the context is the same, except that the mark of `beside` may be cleared
pub record IsSame (before after : RxCtx) : Type 0 where
  pub ring : SameCtx before after
  pub received : received_list after ≡ received_list before
  pub known : known_list after ≡ known_list before
  pub polls : polls_of after ≡ polls_of before

-- ---- the effect of a call, with the pass p before it and q after it

-- the caller delivered nothing; other callers may have
abbrev pub Quiet : Pass → Pass → Type 0
Quiet p q = own_delivered q ≡ own_delivered p

-- the caller has the context during the whole call, so no caller delivers
pub record HoldsOn (p q : Pass) : Type 0 where
  pub deliveries : delivered q ≡ delivered p
  pub received : received_before q ≡ received_before p

-- the caller took the context, which has received exactly what was delivered; the mark of `beside` is clear, so its next poll
-- reads the ring
pub record IsFresh (p q : Pass) (ctx : RxCtx) : Type 0 where
  pub quiet : Quiet p q
  pub received : received_list ctx ≡ received_before q
  pub unmarked : is_beside ctx ≡ false

-- the caller put the context back as it was: one more delivery, of what was polled since it was taken
pub record GivesBack (p : Pass) (ctx : RxCtx) (q : Pass) : Type 0 where
  pub stored : RxCtx
  pub same : IsSame ctx stored
  pub deliveries : delivered q ≡ delivered p ++ view.delivery (pass_number p) (polled p ctx) stored ∷ []

-- ---- the effect by the result of the call

abbrev pub PreparesQuietly : Pass → TryPrep → Type 0
PreparesQuietly p answer = Quiet p (seat_of answer)

abbrev pub SchedulesQuietly : Pass → Sched → Type 0
SchedulesQuietly p (sched.Granted g) = Quiet p g.pass
SchedulesQuietly p (sched.Missed c) = Quiet p c.pass
SchedulesQuietly p (sched.Disabled c) = Quiet p c.pass

abbrev pub TakesFresh : Pass → Result Polling Caller → Type 0
TakesFresh p (Ok w) = IsFresh p w.pass w.ctx
TakesFresh p (Err c) = Quiet p c.pass

abbrev pub TriesToBusyPollFresh : Pass → TryBusy → Type 0
TriesToBusyPollFresh p (try_busy.Taken b) = IsFresh p b.pass b.ctx
TriesToBusyPollFresh p (try_busy.Refused c) = Quiet p c.pass
TriesToBusyPollFresh p (try_busy.Changed c) = Quiet p c.pass

abbrev pub BusyPollsFresh : Pass → Result Busy Caller → Type 0
BusyPollsFresh p (Ok b) = IsFresh p b.pass b.ctx
BusyPollsFresh p (Err c) = Quiet p c.pass

abbrev pub TriesToGiveBack : Pass → RxCtx → TryDone → Type 0
TriesToGiveBack p ctx (try_done.Released c) = GivesBack p ctx c.pass
TriesToGiveBack p ctx (try_done.Again g) = GivesBack p ctx g.pass
TriesToGiveBack p ctx (try_done.Changed w) = HoldsOn p w.pass × IsSame ctx w.ctx

abbrev pub CompletesGivenBack : Pass → RxCtx → Completed → Type 0
CompletesGivenBack p ctx (completed.Released c) = GivesBack p ctx c.pass
CompletesGivenBack p ctx (completed.Again g) = GivesBack p ctx g.pass

abbrev pub TriesToStopHolding : Pass → RxCtx → TryStop → Type 0
TriesToStopHolding p ctx (try_stop.Stopped w) = HoldsOn p w.pass × (w.ctx ≡ ctx)
TriesToStopHolding p ctx (try_stop.Changed b) = HoldsOn p b.pass × (b.ctx ≡ ctx)

abbrev pub TriesToTakeFresh : Pass → TryTake → Type 0
TriesToTakeFresh p (try_take.Taken c) = IsFresh p c.pass c.state.ctx
TriesToTakeFresh p (try_take.Busy c) = Quiet p c.pass
TriesToTakeFresh p (try_take.Changed c) = Quiet p c.pass
