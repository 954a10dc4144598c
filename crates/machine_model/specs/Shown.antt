-- The program's state, as the definitions see it: a polling run whose polls the processor makes, and cached values of the
-- queues, so that no step searches them. It isn't part of the machine's definition.
use Rattle.std.specs.Prelude.{◌≡◌, ◌<◌, ℕ, ◌+◌, ◌==◌, ◌||◌, ◌&&◌, nat_lt, Bool, true, false, ◌++◌, length, is_some, Option, Some, None}
use Rattle.std.specs.{Prelude.{if◌then◌else◌}, Option.option_map_or, Int.bit_at}
use Rattle.poll_runs.specs.Turn.{asked_for}
use Rattle.poll_runs.specs.declared.polling_run.PollingRun.{PollingRun}
use Rattle.device_places.specs.Places.{at}
use Rattle.machine_model.specs.{Device.{QueueView, timer_of}, Devices.{QueueViews, asks_at, soonest_from}, Softirq.{RunView, SoftirqView}}
use Rattle.machine_model.specs.declared.devices.{Pending.Pending, Timer.Timer}

abbrev pub run_view : PollingRun → RunView
run_view run = record {
  own = run.own;
  repoll = run.repoll;
  asked = run.asked;
  polls = run.polls;
  work = run.work;
  budget = run.budget;
  weight = run.weight;
  window = run.window;
}

abbrev pub run_if : Bool → PollingRun → Option RunView
run_if true run = Some (run_view run)
run_if false run = None

-- the most packets that a poll of the run may process
abbrev pub weight_in : Option RunView → ℕ
weight_in run = option_map_or (λ r. r.weight) run 0

-- how many numbers are in the run, and on the list
abbrev pub held_in : Option RunView → ℕ
held_in run = option_map_or (λ r. length (asked_for r.asked ++ r.own) + length r.repoll) run 0

abbrev pub listed : SoftirqView → ℕ
listed q = length q.list + held_in q.run

-- ---- the cached values of the queues

abbrev pub mask_bit : Bool → ℕ
mask_bit b = if b then 1 else 0

-- the mask has a bit for each queue whose entry has this property
abbrev pub IsMask : (Option QueueView → Bool) → QueueViews → ℕ → Type 0
IsMask holds devices mask = (n : ℕ) → n < 64 → bit_at mask n ≡ mask_bit (holds (at n devices))

abbrev pub has_timer : Option QueueView → Bool
has_timer place = option_map_or (λ d. is_some (timer_of d.phase)) place false

-- the cached values: which queues ask for an interrupt, which have a timer, and the timer that expires first
pub record IsPending (devices : QueueViews) (pending : Pending) : Type 0 where
  pub asking : IsMask asks_at devices pending.asking
  pub timed : IsMask has_timer devices pending.timed
  pub soonest : pending.soonest ≡ soonest_from 0 devices

-- of two timers the one that expires first; if both expire at the same time, that of the lower queue
abbrev pub earlier : Option Timer → Option Timer → Option Timer
earlier None other = other
earlier (Some timer) None = Some timer
earlier (Some timer) (Some other) =
    if nat_lt other.at timer.at || other.at == timer.at && nat_lt other.device timer.device then Some other else Some timer
