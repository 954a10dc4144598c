-- The invariant of each processor is preserved.
use Rattle.std.proofs.{Common.{◌≡◌, ◌∙◌, ℕ, ◌<◌, ◌≤◌, Bool, true, false, Option, Some, None, refl, sym, arith}}
use Rattle.std.{proofs.lemmas.{Bool.ltb-true, Grind.common_steps}, specs.{Prelude.{◌==◌, ◌&&◌, if◌then◌else◌, nat_lt, not}}}
use Rattle.machine_model.proofs.ListedFacts.{asked-polled, listed-again, listed-begun, listed-ended, next-keeps, pushed-run}
use Rattle.machine_model.{proofs.{ListedFacts.weight-polled, PlacesFacts.scheduled-polled}, specs.{Device.queue_polled, Devices.QueueViews}}
use Rattle.machine_model.specs.{Devices.is_rescheduled_at, Kept.{ProcessorKept, all_scheduled, work_given, has_list, polled_by}}
use Rattle.machine_model.specs.{Processor.{is_polling, may_arm}, Shown.listed}
use Rattle.machine_model.specs.{Softirq.{SoftirqView, asked_in, begun, poll_ended, run_ended, run_next}}
use Rattle.machine_model.specs.declared.processor.Work.{Work, TheVariants.Nothing}
use Rattle.machine_model.specs.declared.settings.MachineSettings.{MachineSettings}
use Rattle.device_places.specs.Places.{at, changed}

pub if-none : (b : Bool) (o : Option ℕ) → o ≡ None → (if b then None else o) ≡ None
if-none true o none = refl
if-none false o none = none

-- the queues change, and at least as many are scheduled as before
pub kept-devices : (s : MachineSettings) (w : Work) (ds es : QueueViews) (q : SoftirqView) → ProcessorKept s w ds q
    → all_scheduled ds ≤ all_scheduled es
    → ProcessorKept s w es q
kept-devices s w ds es q k more =
    record { few = omega (arith, k.few, more); unused = k.unused; asked = k.asked; weight = k.weight; within = k.within }

-- other work begins; if it is a poll, it is of the same queue
pub kept-work : (s : MachineSettings) (w v : Work) (ds : QueueViews) (q : SoftirqView) → ProcessorKept s w ds q → polled_by v ≡ polled_by w
    → work_given v < s.weight → ProcessorKept s v ds q
kept-work s w v ds q k same within =
    record { few = k.few; unused = k.unused; asked = rw same k.asked; weight = k.weight; within = within }

-- a poll whose completion may take longer took less than its weight
pub arms-within : (given : ℕ) (s : MachineSettings) → may_arm given s ≡ true → given < s.weight
arms-within given s is = by (not (s.arm == 0)) (not s.backlog) is
  where
    by : (some own : Bool) → (some && own && nat_lt given s.weight) ≡ true → given < s.weight
    by true true is = ltb-true given s.weight is
    by true false is = cc is
    by false own is = cc is

list-is : (s : MachineSettings) → is_polling s ≡ true → s.threaded ≡ false → has_list s ≡ true
list-is s polling threaded = grind (arith, common_steps)

no-list : (s : MachineSettings) → is_polling s ≡ false → has_list s ≡ false
no-list s polling = grind (arith, common_steps)

-- without polling, any change of the queues preserves it
pub kept-lone : (s : MachineSettings) (w : Work) (ds es : QueueViews) (q : SoftirqView) → ProcessorKept s w ds q → is_polling s ≡ false
    → ProcessorKept s w es q
kept-lone s w ds es q h1 h2 = grind (arith, common_steps, no-list)

-- a run begins
pub kept-begun : (s : MachineSettings) (w : Work) (ds : QueueViews) (q : SoftirqView) (moment : ℕ) → ProcessorKept s w ds q → q.run ≡ None
    → polled_by w ≡ None → is_polling s ≡ true → s.threaded ≡ false → ProcessorKept s w ds (begun moment s.budget s.weight s.window q)
kept-begun s w ds q moment h1 h2 h3 h4 h5 = grind (arith, common_steps, list-is, listed-begun)

-- the run asks for the poll of a queue, or is over
pub kept-next : (s : MachineSettings) (w v : Work) (ds : QueueViews) (q : SoftirqView) → ProcessorKept s w ds q → asked_in q.run ≡ None
    → asked_in (run_next q).run ≡ (if s.threaded then None else polled_by v) → work_given v < s.weight → ProcessorKept s v ds (run_next q)
kept-next s w v ds q k none asked within =
    let same = next-keeps q none in
    record {
      few = omega (arith, k.few, same.listed);
      unused = λ not. same.listed ∙ k.unused not;
      asked = asked;
      weight = λ some. same.weight ∙ k.weight (sym same.some ∙ some);
      within = within;
    }

pub run-ended : (q : SoftirqView) → (run_ended q).run ≡ None
unfolding run_ended
run-ended q = refl

pub kept-ended : (s : MachineSettings) (w : Work) (ds : QueueViews) (q : SoftirqView) → ProcessorKept s w ds q → asked_in q.run ≡ None
    → polled_by w ≡ None → ProcessorKept s w ds (run_ended q)
kept-ended s w ds q h1 h2 h3 = grind (arith, common_steps, if-none, listed-ended, run-ended)

-- a poll of the run ends
pub kept-polled : (s : MachineSettings) (w : Work) (ds : QueueViews) (q : SoftirqView) (now given n : ℕ) → ProcessorKept s w ds q
    → s.threaded ≡ false
    → asked_in q.run ≡ Some n → 1 ≤ s.weight
    → ProcessorKept s Nothing (changed (queue_polled now given s) n ds)
    (poll_ended n given (given == s.weight) (is_rescheduled_at given s (at n ds)) q)
kept-polled s w ds q now given n h1 h2 h3 h4 =
    grind (arith, common_steps, asked-polled, listed-again, pushed-run, scheduled-polled, weight-polled)

-- a poll of a thread ends
pub kept-alone : (s : MachineSettings) (w : Work) (ds es : QueueViews) (q : SoftirqView) → ProcessorKept s w ds q → s.threaded ≡ true
    → 1 ≤ s.weight
    → ProcessorKept s Nothing es q
kept-alone s w ds es q h1 h2 h3 = grind (arith, common_steps)

-- while no queue is polled, the run doesn't ask for a poll
pub kept-idle : (s : MachineSettings) (w : Work) (ds : QueueViews) (q : SoftirqView) → ProcessorKept s w ds q → polled_by w ≡ None
    → asked_in q.run ≡ None
kept-idle s w ds q k idle = k.asked ∙ if-none s.threaded (polled_by w) idle

-- the queue for which the run asks is the one that is polled
pub kept-asks : (s : MachineSettings) (w : Work) (ds : QueueViews) (q : SoftirqView) (n : ℕ) → ProcessorKept s w ds q → s.threaded ≡ false
    → polled_by w ≡ Some n → asked_in q.run ≡ Some n
kept-asks s w ds q n k threaded polled = k.asked ∙ rw (threaded, polled) refl

asked-listed : (q : SoftirqView) (n : ℕ) → asked_in q.run ≡ Some n → 1 ≤ listed q
asked-listed q n h1 = grind (arith, common_steps)

-- if a run asks for a poll, the machine has no threads
pub asks-unthreaded : (s : MachineSettings) (w : Work) (ds : QueueViews) (q : SoftirqView) (n : ℕ) → ProcessorKept s w ds q
    → asked_in q.run ≡ None
    → asked_in (run_next q).run ≡ Some n → s.threaded ≡ false
asks-unthreaded s w ds q n h1 h2 h3 = grind (arith, common_steps, asked-listed, next-keeps)
