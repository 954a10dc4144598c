-- Law: a run's work is less than budget plus weight. For its proof, which queues a run or a thread polls.
use Rattle.std.proofs.Common.{◌≡◌, ℕ, ◌+◌, ◌-◌, ◌<◌, ◌≤◌, Bool, true, false, Option, Some, None, List, [], ◌∷◌, ◌++◌, refl, ap, arith}
use Rattle.std.{proofs.lemmas.{Bool.{ltb-true}, Grind.common_steps}, specs.{List.AllByRecursion, Prelude.{◌&&◌, if◌then◌else◌}}}
use Rattle.std.specs.Prelude.{is_some, not, option_map}
use Rattle.poll_runs.specs.declared.bench.{Once.Once}
use Rattle.machine_model.proofs.{KeptFacts.run-ended, ListedFacts.pushed-run, WalkFacts.{Walk, closes-by, either, idle-is, looks-by}}
use Rattle.machine_model.proofs.WalkFacts.{polled-by, stirred, stirred-by, walk-any, waking}
use Rattle.machine_model.specs.Device.{after_packet, expired, holding, raised_again, without_held, without_next}
use Rattle.machine_model.specs.{Devices.{QueueViews, next_packet_at, with_device}, Kept.{work_given, polled_by}}
use Rattle.machine_model.specs.Processor.{ProcessorView, arrives, begins, closes_poll, comes_early, delivers, delivers_oldest, disturbed}
use Rattle.machine_model.specs.Processor.{ends_by, ends_current, ends_interrupt, ends_poll, hand_length, happens, interrupts_early, is_busy}
use Rattle.machine_model.specs.Processor.{is_polling, notices, packet_length, poll_looks, spent, step, takes_up, upcoming}
use Rattle.machine_model.specs.Softirq.{RunView, SoftirqView, asked_in, polled_run, pushed, run_ended, run_next, softirq_polled}
use Rattle.machine_model.specs.Tasks.{is_application, runnable, with_application}
use Rattle.machine_model.specs.{Waits.saturated, declared.processor.{ProcessorCounts.ProcessorCounts, Upcoming.Upcoming}}
use Rattle.machine_model.specs.declared.processor.{Upcoming.TheVariants.{Never, Ends, Expires}, Work.{Work, TheVariants.Nothing}}
use Rattle.machine_model.specs.declared.processor.Work.TheVariants.{Interrupt, Poll, Packet, Arm, Use}
use Rattle.machine_model.specs.declared.{settings.MachineSettings.MachineSettings, tasks.RunnableTask.{RunnableTask}}
use Rattle.device_places.specs.Places.{at, changed}
use Rattle.machine.specs.{Fates.finds_room, Lives.{MachineEvent, WorksWithin, behind, next, packet}}

-- the invariant of a run with these settings
pub record Runs (s : MachineSettings) (r : RunView) : Type 0 where
  pub budget : r.budget ≡ s.budget
  pub work : r.work < s.budget + s.weight
  pub asked : is_some r.asked ≡ true → r.work < s.budget

abbrev pub RunsIn : MachineSettings → Option RunView → Type 0
RunsIn s None = Unit {0}
RunsIn s (Some r) = Runs s r

abbrev pub all_applications : List RunnableTask → Type 0
all_applications tasks = AllByRecursion (λ task. is_application task ≡ true) tasks

-- the settings never change; the poll list has entries only with polling and without threads, and threads are runnable only
-- with threads
pub record Rests (s : MachineSettings) (p : ProcessorView) : Type 0 where
  pub settings : p.settings ≡ s
  pub run : RunsIn s p.softirq.run
  pub soft : (is_polling s && not s.threaded) ≡ false → (p.softirq.list ≡ []) × (p.softirq.run ≡ None)
  pub threads : (is_polling s && s.threaded) ≡ false → all_applications p.tasks

-- without threads, the run asks for the queue that is polled; with threads it asks for none
pub record Asks (s : MachineSettings) (polled : Option ℕ) (q : SoftirqView) : Type 0 where
  pub list : s.threaded ≡ false → asked_in q.run ≡ polled
  pub none : s.threaded ≡ true → asked_in q.run ≡ None

pub record Goes (s : MachineSettings) (p : ProcessorView) : Type 0 where
  pub rests : Rests s p
  pub asks : Asks s (polled_by p.work) p.softirq
  pub polled : is_polling s ≡ false → polled_by p.work ≡ None
  pub given : work_given p.work < s.weight

-- ---- the parts of the proof

next-runs : (s : MachineSettings) (list : List ℕ) (run : Option RunView) (began : ℕ) → asked_in run ≡ None → RunsIn s run
    → RunsIn s (run_next (record { list = list; run = run; began = began })).run
unfolding run_next
next-runs s list run began none held = grind (arith, common_steps)

-- if the list is empty and no run is in progress, the same holds after the next step
next-none : (list : List ℕ) (run : Option RunView) (began : ℕ) → (list ≡ []) × (run ≡ None)
    → let q = run_next (record { list = list; run = run; began = began }) in (q.list ≡ []) × (q.run ≡ None)
unfolding run_next
next-none list run began h1 = grind (arith, common_steps)

ended-none : (list : List ℕ) (run : Option RunView) (began : ℕ) → (list ≡ []) × (run ≡ None)
    → (run_ended (record { list = list; run = run; began = began })).list ≡ []
unfolding run_ended
ended-none list run began h1 = grind (arith, common_steps)

runs-told : (s : MachineSettings) (run : Option RunView) (once : Once) (n : ℕ) → asked_in run ≡ Some n → once.work ≤ s.weight → RunsIn s run
    → RunsIn s (option_map (polled_run once) run)
runs-told s run once n asked few held = grind (arith, common_steps)

told-asks : (run : Option RunView) (once : Once) → asked_in (option_map (polled_run once) run) ≡ None
told-asks run once = grind (arith, common_steps)

-- without a poll list, no interrupt puts a number on it; without threads, none makes one runnable
pushed-none : (polling again single : Bool) (n : ℕ) (q : SoftirqView) → (polling && single) ≡ false
    → (if (polling && again) && single then pushed n q else q) ≡ q
pushed-none polling again single n q none = grind (arith, common_steps)

thread-none : (polling again threaded : Bool) (tasks more : List RunnableTask) → (polling && threaded) ≡ false
    → (if (polling && again) && threaded then tasks ++ more else tasks) ≡ tasks
thread-none polling again threaded tasks more none = grind (arith, common_steps)

all-runnable : (idle : Bool) (tasks : List RunnableTask) → all_applications tasks → all_applications (runnable idle tasks)
all-runnable idle tasks h1 = grind (arith, common_steps)

all-with : (tasks : List RunnableTask) → all_applications tasks → all_applications (with_application tasks)
unfolding with_application
all-with tasks all = grind (arith, common_steps)

all-if : (b : Bool) (tasks : List RunnableTask) → all_applications tasks → all_applications (if b then with_application tasks else tasks)
all-if b tasks h1 = grind (arith, common_steps, all-with)

asks-none : (s : MachineSettings) (q : SoftirqView) → Asks s None q → asked_in q.run ≡ None
asks-none s q h1 = grind (arith, common_steps)

fits : (s : MachineSettings) → 0 < s.weight
fits s = omega (arith, s.weight_in.0)

pub same-polling : (s : MachineSettings) (p : ProcessorView) → p.settings ≡ s → is_polling p.settings ≡ is_polling s
same-polling s p is = ap (λ (x : MachineSettings). is_polling x) is

pub same-threaded : (s : MachineSettings) (p : ProcessorView) → p.settings ≡ s → p.settings.threaded ≡ s.threaded
same-threaded s p is = ap (λ (x : MachineSettings). x.threaded) is

-- ---- when work begins

goes-begins : (s : MachineSettings) (work : Work) (time : ℕ) (p : ProcessorView) → Rests s p → Asks s (polled_by work) p.softirq
    → (is_polling s ≡ false → polled_by work ≡ None) → work_given work < s.weight → Goes s (begins work time p)
goes-begins s work time p h1 h2 h3 h4 = grind (arith, common_steps)

-- no work is in progress
goes-free : (s : MachineSettings) (p : ProcessorView) → p.work ≡ Nothing → Rests s p → asked_in p.softirq.run ≡ None → Goes s p
goes-free s p h1 h2 h3 = grind (arith, common_steps)

pub work-walk : (s : MachineSettings) → Walk (Rests s) (Goes s)
work-walk s = grind (
  arith,
  common_steps,
  next-runs,
  next-none,
  ended-none,
  run-ended,
  pushed-none,
  thread-none,
  all-runnable,
  fits,
  pushed-run,
  same-polling,
  same-threaded,
)

-- ---- when work ends

work-delivers : (s : MachineSettings) (n came : ℕ) (p : ProcessorView) → Rests s p → Rests s (delivers n came p)
unfolding delivers
work-delivers s n came p h1 = grind (arith, common_steps, all-if)

-- the queue that is polled, after a change of queues and of the application
pub record Polls (s : MachineSettings) (n : ℕ) (p : ProcessorView) : Type 0 where
  pub rests : Rests s p
  pub nothing : p.work ≡ Nothing
  pub asks : Asks s (Some n) p.softirq
  pub polling : is_polling s ≡ true

pub polls-devices : (s : MachineSettings) (n : ℕ) (devices : QueueViews) (p : ProcessorView) → Polls s n p
    → Polls s n (record p { devices = devices })
polls-devices s n devices p h1 = grind (arith, common_steps)

work-polled : (s : MachineSettings) (n given : ℕ) (p : ProcessorView) → Polls s n p → given ≤ s.weight → Goes s (ends_poll n given p)
unfolding softirq_polled
work-polled s n given p g few =
    polled-by (Goes s) n given p (λ counts t. grind (arith, common_steps, goes-free, same-threaded))
    (λ counts t. grind (arith, common_steps, goes-free, pushed-run, runs-told, same-threaded, told-asks))

-- the poll ends, perhaps after its completion started the NAPI timer
work-closes : (s : MachineSettings) (n given : ℕ) (p : ProcessorView) → Polls s n p → given ≤ s.weight → Goes s (closes_poll n given p)
work-closes s n given p g few =
    let weight : p.settings.weight ≡ s.weight = ap (λ (x : MachineSettings). x.weight) g.rests.settings in
    closes-by (Goes s) n given p
    (λ less. goes-begins s (Arm (record { device = n; given = given })) p.settings.arm p g.rests g.asks (λ no. cc (no, g.polling))
    (omega (arith, ltb-true given p.settings.weight less, weight)))
    (work-polled s n given p g few)

work-looks : (s : MachineSettings) (n given : ℕ) (p : ProcessorView) → Polls s n p → given ≤ s.weight → Goes s (poll_looks n given p)
work-looks s n given p g few =
    let next : QueueViews = changed (without_next p.settings.backlog) n p.devices in
    let weight : p.settings.weight ≡ s.weight = ap (λ (x : MachineSettings). x.weight) g.rests.settings in
    looks-by (Goes s) n given p (record {
      some = λ plain came is less.
          takes (Packet (record { device = n; came = came; given = given })) (packet_length p) next refl
          (omega (arith, ltb-true given p.settings.weight less, weight));
      none = λ plain none. work-closes s n given (record p { devices = next }) (polls-devices s n next p g) few;
      full = λ plain full. work-closes s n given p g few;
      takes = λ batch less pulls.
          takes (Poll (record { device = n; given = given + 1 })) p.settings.take (changed holding n p.devices) refl
          (omega (arith, ltb-true given p.settings.weight less, weight));
      hands = λ batch stops came is.
          takes (Packet (record { device = n; came = came; given = given - 1 })) (hand_length p)
          (changed without_held n p.devices) refl
          (omega (arith, few, fits s));
      over = λ batch stops none. work-closes s n given p g few;
    })
  where
    takes : (work : Work) (time : ℕ) (devices : QueueViews) → polled_by work ≡ Some n → work_given work < s.weight
        → Goes s (begins work time (record p { devices = devices }))
    takes work time devices polled below =
        let q = polls-devices s n devices p g in
        goes-begins s work time (record p { devices = devices }) q.rests (rw polled q.asks) (λ no. cc (no, g.polling)) below

pub polls-of : (s : MachineSettings) (n : ℕ) (work : Work) (p : ProcessorView) → Rests s p → p.work ≡ Nothing
    → Asks s (polled_by work) p.softirq
    → (is_polling s ≡ false → polled_by work ≡ None) → polled_by work ≡ Some n → Polls s n p
polls-of s n work p h1 h2 h3 h4 h5 = grind (arith, common_steps)

pub polls-delivers : (s : MachineSettings) (n came : ℕ) (p : ProcessorView) → Polls s n p → Polls s n (delivers n came p)
unfolding delivers
polls-delivers s n came p h1 = grind (arith, common_steps)

-- without polling, an interrupt ends
work-lone : (s : MachineSettings) (n : ℕ) (o : Option ℕ) (p : ProcessorView) → Rests s p → p.work ≡ Nothing → asked_in p.softirq.run ≡ None
    → let q = delivers_oldest n o p in Goes s (record q { devices = changed raised_again n q.devices })
unfolding delivers
work-lone s n o p h1 h2 h3 = grind (arith, common_steps, goes-free, all-if, work-delivers)

work-ends : (s : MachineSettings) (work : Work) (p : ProcessorView) → Rests s p → p.work ≡ Nothing → Asks s (polled_by work) p.softirq
    → (is_polling s ≡ false → polled_by work ≡ None) → work_given work < s.weight → Goes s (ends_by work p)
unfolding ends_interrupt
work-ends s Nothing p h nothing asks polled given = goes-free s p nothing h (asks-none s p.softirq asks)
work-ends s (Interrupt n) p h nothing asks polled given =
    let none = asks-none s p.softirq asks in
    either (Goes s) (is_polling p.settings) p (ends_interrupt n p) (λ polling. goes-free s p nothing h none)
    (λ lone. work-lone s n (next_packet_at false (at n p.devices)) p h nothing none)
work-ends s (Poll look) p h nothing asks polled given =
    work-looks s look.device look.given p (polls-of s look.device (Poll look) p h nothing asks polled refl)
    (omega (arith, given, fits s))
work-ends s (Packet hand) p h nothing asks polled given =
    work-looks s hand.device (hand.given + 1) (delivers hand.device hand.came p)
    (polls-delivers s hand.device hand.came p (polls-of s hand.device (Packet hand) p h nothing asks polled refl)) (omega (arith, given))
work-ends s (Arm look) p h nothing asks polled given =
    work-polled s look.device look.given p (polls-of s look.device (Arm look) p h nothing asks polled refl) (omega (arith, given))
work-ends s (Use came) p h nothing asks polled given =
    goes-free s _ nothing (record { settings = h.settings; run = h.run; soft = h.soft; threads = h.threads })
    (asks-none s p.softirq asks)

pub work-ended : (s : MachineSettings) (p : ProcessorView) → Goes s p → Goes s (ends_current p)
unfolding ends_current
work-ended s p g =
    let h = g.rests in
    let q : ProcessorView = record p { clock = p.ends; work = Nothing; counts = spent p.work (p.ends - p.clock) p.counts } in
    work-ends s p.work q (record { settings = h.settings; run = h.run; soft = h.soft; threads = h.threads }) refl g.asks g.polled g.given

-- ---- after each event

pub goes-unasked : (s : MachineSettings) (p : ProcessorView) → Goes s p → is_busy p.work ≡ false → asked_in p.softirq.run ≡ None
goes-unasked s p g idle = asks-none s p.softirq (rw (idle-is p.work idle) at g.asks)

pub goes-takes : (s : MachineSettings) (p : ProcessorView) → Goes s p → Goes s (takes_up p)
goes-takes s p g = walk-any (work-walk s) p (goes-unasked s p g) (λ busy. g) (λ idle. g.rests)

-- time passes, or queues change
pub goes-moved : (s : MachineSettings) (clock ends : ℕ) (counts : ProcessorCounts) (devices : QueueViews) (p : ProcessorView) → Goes s p
    → Goes s (record p { clock = clock; ends = ends; counts = counts; devices = devices })
goes-moved s clock ends counts devices p h1 = grind (arith, common_steps)

pub goes-stirred : (s : MachineSettings) (moment : ℕ) (p : ProcessorView) → Goes s p → Goes s (stirred moment p)
goes-stirred s moment p g =
    stirred-by (Goes s) moment p (λ busy. g) (λ came counts is. grind (arith, common_steps))
    (λ n counts idle asks. goes-moved s (saturated (moment + waking n p)) p.ends counts p.devices p g)
    (λ idle. goes-moved s moment p.ends p.counts p.devices p g)

pub goes-disturbed : (s : MachineSettings) (moment : ℕ) (p : ProcessorView) → Goes s p → Goes s (disturbed moment p)
unfolding disturbed
goes-disturbed s moment p g = goes-takes s (stirred moment p) (goes-stirred s moment p g)

pub goes-happens : (s : MachineSettings) (u : Upcoming) (p : ProcessorView) → Goes s p → Goes s (happens u p)
goes-happens s Never p g = g
goes-happens s Ends p g = goes-takes s (ends_current p) (work-ended s p g)
goes-happens s (Expires timer) p g =
    let q : ProcessorView = record p { devices = changed expired timer.device p.devices } in
    goes-disturbed s timer.at q (goes-moved s p.clock p.ends p.counts q.devices p g)

goes-noticed : (s : MachineSettings) (moment n : ℕ) (p : ProcessorView) → Goes s p → Goes s (notices moment n p)
unfolding interrupts_early
goes-noticed s moment n p g =
    either (Goes s) (comes_early n p) (interrupts_early n p) (disturbed moment p) (λ early. goes-moved s _ _ _ _ p g)
    (λ other. goes-disturbed s moment p g)

-- the processor with the packet that arrived, before it takes notice
abbrev pub arrived : ℕ → ℕ → ProcessorView → ProcessorView
arrived moment n p = record p {
  clock = if is_busy p.work then p.clock else moment;
  devices = changed (after_packet moment p.settings) n (with_device p.settings.ring n p.devices);
}

pub goes-arrived : (s : MachineSettings) (moment n : ℕ) (p : ProcessorView) → Goes s p → Goes s (arrived moment n p)
goes-arrived s moment n p g = goes-moved s _ p.ends p.counts _ p g

-- ---- over a processor's life

pub goes-on : (s : MachineSettings) (events : List MachineEvent) → Goes s (behind s events)
unfolding behind step arrives
goes-on s [] = goes-free s _ refl (record { settings = refl; run = tt; soft = λ no. (refl, refl); threads = λ no. tt }) refl
goes-on s (packet moment n ∷ earlier) =
    let p = behind s earlier in
    let g = goes-arrived s moment n p (goes-on s earlier) in
    either (Goes s) (finds_room n p) (notices moment n (arrived moment n p)) (arrived moment n p) (λ room. goes-noticed s moment n _ g)
    (λ full. g)
goes-on s (next ∷ earlier) = goes-happens s (upcoming (behind s earlier)) (behind s earlier) (goes-on s earlier)

pub works-within : WorksWithin
works-within = grind (arith, common_steps, goes-on)
