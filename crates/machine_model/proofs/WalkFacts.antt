-- Which work a processor begins, case by case, and a property that each case preserves; and the cases of an interruption and of
-- the end of a poll.
use Rattle.std.proofs.{Common.{◌≡◌, ℕ, ◌+◌, ◌-◌, arith, Bool, true, false, Option, Some, None, List, [], ◌∷◌, ◌++◌, length, refl}}
use Rattle.std.{proofs.lemmas.{Grind.common_steps, List.Quantifiers.position-Some}, specs.{Option.option_map_or, Prelude.{◌==◌, ◌&&◌}}}
use Rattle.std.specs.{Prelude.{◌||◌, if◌then◌else◌, is_some, not, nat_lt, position, slice_get}}
use Rattle.device_places.specs.Places.{at, changed}
use Rattle.machine_model.specs.{Device.{QueueView, holding, interrupted, queue_polled, without_held, without_next}, Devices.asks_at}
use Rattle.machine_model.specs.Application.{waking_length}
use Rattle.machine_model.specs.Devices.{is_rescheduled_at, is_fired_at, next_held_at, next_packet_at, pulls_at, schedules_at, QueueViews}
use Rattle.machine_model.specs.Processor.{ProcessorView, batch_looks, begins, begins_run, ends_poll, ends_run, goes_on, interrupts}
use Rattle.machine_model.specs.Processor.{closes_poll, hand_length, packet_length, is_batching, is_busy, plain_looks}
use Rattle.machine_model.specs.Processor.{interrupt_cost, is_polling, leaves_softirq, poll_looks, polls}
use Rattle.machine_model.specs.{Processor.{rests, runs, runs_first, set_aside, takes_up, uses, wake_cost, woken}, Softirq.SoftirqView}
use Rattle.machine_model.specs.{Softirq.{asked_in, begun, poll_ended, pushed, run_ended, run_next}, Tasks.{after_first, runnable}}
use Rattle.machine_model.specs.{Waits.saturated, declared.processor.{ProcessorCounts.ProcessorCounts, Rest.Rest, Work.Work}}
use Rattle.machine_model.specs.declared.processor.Work.TheVariants.{Nothing, Interrupt, Poll, Packet, Arm, Use}
use Rattle.machine_model.specs.declared.{settings.MachineSettings.MachineSettings, tasks.RunnableTask.RunnableTask}
use Rattle.machine_model.specs.declared.tasks.RunnableTask.TheVariants.{Application, Thread}

-- no work is in progress
pub record Free (p : ProcessorView) : Type 0 where
  pub nothing : p.work ≡ Nothing
  pub unasked : asked_in p.softirq.run ≡ None

-- none of the runnable tasks can run
abbrev pub NoTask : List RunnableTask → List ℕ → Type 0
NoTask [] items = Unit {0}
NoTask (Application ∷ more) items = items ≡ []
NoTask (Thread number ∷ more) items = ⊥

-- the application is the first task
abbrev pub IsFirst : List RunnableTask → Type 0
IsFirst (Application ∷ more) = Unit {0}
IsFirst tasks = ⊥

-- no run is in progress, and none begins
pub record Out (p : ProcessorView) : Type 0 where
  pub quiet : position asks_at p.devices ≡ None
  pub idle : p.softirq.run ≡ None
  pub list : (is_polling p.settings && not (length p.softirq.list == 0)) ≡ false
  pub rest : p.rest ≡ None

-- the processor begins no work
pub record Still (p : ProcessorView) : Type 0 where
  pub out : Out p
  pub socket : p.settings.threaded ≡ false → p.settings.apart ≡ false → p.application.socket.items ≡ []
  pub tasks : p.settings.threaded ≡ true → NoTask p.tasks p.application.socket.items

abbrev pub nexted : ProcessorView → ProcessorView
nexted p = record p { softirq = run_next p.softirq }

abbrev pub started : ProcessorView → ProcessorView
started p = record p { softirq = begun p.clock p.settings.budget p.settings.weight p.settings.window p.softirq }

-- the interrupt of a queue schedules it
abbrev pub is_scheduling : ℕ → ProcessorView → Bool
is_scheduling n p = is_polling p.settings && schedules_at (at n p.devices)

-- a queue is scheduled, if its interrupt does that: its thread is runnable, or its number is on the poll list
abbrev pub enqueued : Bool → ℕ → ProcessorView → ProcessorView
enqueued again n p = record p {
  softirq = if again && not p.settings.threaded then pushed n p.softirq else p.softirq;
  tasks = if again && p.settings.threaded then p.tasks ++ Thread n ∷ [] else p.tasks;
}

-- the poll of the queue for which the run asks, or other work
abbrev pub polls_or : ProcessorView → Option ℕ → ProcessorView → ProcessorView
polls_or other asked p = option_map_or (λ number. polls number p) asked other

-- with threads: an idle application was removed from the front of the tasks
abbrev pub IsSettled : (ProcessorView → Type 0) → ProcessorView → Type 0
IsSettled P p = p.settings.threaded ≡ true
    → (before : List RunnableTask) × (p.tasks ≡ runnable (length p.application.socket.items == 0) before) × P (record p { tasks = before })

-- the queues after this queue's interrupt was taken up, which takes this time
abbrev pub devices_interrupted : ℕ → ℕ → ProcessorView → QueueViews
devices_interrupted n time p = changed (interrupted (saturated (p.clock + time)) (is_polling p.settings)) n p.devices

pub record Walk (P Q : ProcessorView → Type 0) : Type 0 where
  pub interrupt : (n time : ℕ) (counts : ProcessorCounts) (p : ProcessorView) → Free p → P p → asks_at (at n p.devices) ≡ true
      → Q (begins (Interrupt n) time
      (enqueued (is_scheduling n p) n (record p { devices = devices_interrupted n time p; counts = counts })))
  pub next : (p : ProcessorView) → Free p → P p → P (nexted p)
  pub asks : (n : ℕ) (p : ProcessorView) → P (nexted p) → asked_in (run_next p.softirq).run ≡ Some n → Q (polls n (nexted p))
  pub over : (counts : ProcessorCounts) (p : ProcessorView) → Free p → P p
      → P (record p { softirq = run_ended p.softirq; counts = counts })
  pub start : (p : ProcessorView) → P p → p.softirq.run ≡ None → is_polling p.settings ≡ true → not (length p.softirq.list == 0) ≡ true
      → P (started p)
  pub resume : (rest : Rest) (p : ProcessorView) → Free p → P p → p.rest ≡ Some rest
      → position asks_at p.devices ≡ None → Q (begins (Use rest.came) rest.left (record p { rest = None }))
  pub settle : (tasks : List RunnableTask) (p : ProcessorView) → P p → tasks ≡ runnable (length p.application.socket.items == 0) p.tasks
      → P (record p { tasks = tasks })
  pub thread : (n : ℕ) (more : List RunnableTask) (p : ProcessorView) → Free p → P p → p.settings.threaded ≡ true
      → p.tasks ≡ Thread n ∷ more
      → Q (polls n (record p { tasks = more }))
  pub uses : (came : ℕ) (more : List ℕ) (p : ProcessorView) → Free p → P p → p.rest ≡ None → p.application.socket.items ≡ came ∷ more
      → position asks_at p.devices ≡ None → (p.settings.apart ≡ true → IsFirst p.tasks) → Q (uses (came ∷ more) p)
  pub stays : (p : ProcessorView) → Free p → P p → Still p → IsSettled P p → Q p

pub either : (Q : ProcessorView → Type 0) (b : Bool) (x y : ProcessorView) → (b ≡ true → Q x) → (b ≡ false → Q y) → Q (if b then x else y)
either Q b x y h1 h2 = grind (arith, common_steps)

-- ---- when there is nothing for the softirq

walk-uses : {P Q : ProcessorView → Type 0} → Walk P Q → (items : List ℕ) (p : ProcessorView) → p.application.socket.items ≡ items
    → Free p → P p → p.rest ≡ None → position asks_at p.devices ≡ None → (p.settings.apart ≡ true → IsFirst p.tasks)
    → (p.application.socket.items ≡ [] → Still p) → IsSettled P p → Q (uses items p)
walk-uses h1 items p h2 h3 h4 h5 h6 h7 h8 h9 = grind (arith, common_steps)

walk-tasks : {P Q : ProcessorView → Type 0} → Walk P Q → (tasks : List RunnableTask) (p : ProcessorView) → Free p → Out p
    → P (record p { tasks = tasks })
    → p.settings.threaded ≡ true → P p → tasks ≡ runnable (length p.application.socket.items == 0) p.tasks
    → Q (runs (slice_get tasks 0) (record p { tasks = after_first tasks }))
walk-tasks w [] p free out held threaded before is =
    w.stays (record p { tasks = [] }) (record { nothing = free.nothing; unasked = free.unasked }) held (record {
      out = record { quiet = out.quiet; idle = out.idle; list = out.list; rest = out.rest };
      socket = λ single. absurd (cc (single, threaded));
      tasks = λ t. tt;
    }) (λ t. (p.tasks, is, before))
walk-tasks w (Application ∷ more) p free out held threaded before is =
    walk-uses w p.application.socket.items (record p { tasks = Application ∷ more }) refl
    (record { nothing = free.nothing; unasked = free.unasked }) held out.rest out.quiet (λ apart. tt)
    (λ empty. record {
      out = record { quiet = out.quiet; idle = out.idle; list = out.list; rest = out.rest };
      socket = λ single. absurd (cc (single, threaded));
      tasks = λ t. empty;
    }) (λ t. (p.tasks, is, before))
walk-tasks w (Thread n ∷ more) p free out held threaded before is =
    w.thread n more (record p { tasks = Thread n ∷ more }) (record { nothing = free.nothing; unasked = free.unasked }) held threaded refl

walk-first : {P Q : ProcessorView → Type 0} → Walk P Q → (p : ProcessorView) → Free p → Out p → P p → p.settings.threaded ≡ true
    → Q (runs_first p)
unfolding runs_first
walk-first h1 p h2 h3 h4 h5 = grind (arith, common_steps, walk-tasks)

walk-out : {P Q : ProcessorView → Type 0} → Walk P Q → (p : ProcessorView) → Free p → Out p → P p → Q (leaves_softirq None p)
walk-out h1 p h2 h3 h4 = grind (arith, common_steps, walk-first, walk-uses)

walk-leaves : {P Q : ProcessorView → Type 0} → Walk P Q → (o : Option Rest) (p : ProcessorView) → p.rest ≡ o → Free p → P p
    → position asks_at p.devices ≡ None → p.softirq.run ≡ None
    → (is_polling p.settings && not (length p.softirq.list == 0)) ≡ false
    → Q (leaves_softirq o p)
walk-leaves h1 o p h2 h3 h4 h5 h6 h7 = grind (arith, common_steps, walk-out)

-- ---- when there is something for the softirq

walk-asked : {P Q : ProcessorView → Type 0} → Walk P Q → (o : Option ℕ) (p other : ProcessorView) → asked_in (run_next p.softirq).run ≡ o
    → P (nexted p)
    → (asked_in (run_next p.softirq).run ≡ None → Q other) → Q (polls_or other o (nexted p))
walk-asked h1 o p other h2 h3 h4 = grind (arith, common_steps)

-- a run that begins over a list that isn't empty asks for a poll
begun-asks : (s : MachineSettings) (list : List ℕ) (began clock : ℕ) → is_polling s ≡ true → not (length list == 0) ≡ true
    → let q : SoftirqView = record { list = list; run = None; began = began } in
    asked_in (run_next (begun clock s.budget s.weight s.window q)).run ≡ None → ⊥
unfolding run_next
begun-asks s list began clock polling some none = grind (arith, common_steps)

walk-begins : {P Q : ProcessorView → Type 0} → Walk P Q → (p : ProcessorView) → Free p → P p → p.softirq.run ≡ None
    → is_polling p.settings ≡ true
    → not (length p.softirq.list == 0) ≡ true → Q (begins_run p)
unfolding begins_run
walk-begins w p free held none polling some =
    let first = w.start p held none polling some in
    let new : Free (started p) = record { nothing = free.nothing; unasked = refl } in
    walk-asked w (asked_in (run_next (started p).softirq).run) (started p) (nexted (started p)) refl (w.next (started p) new first)
    (λ asked. absurd (begun-asks p.settings p.softirq.list p.softirq.began p.clock polling some asked))

walk-rests : {P Q : ProcessorView → Type 0} → Walk P Q → (p : ProcessorView) → Free p → P p → p.softirq.run ≡ None
    → position asks_at p.devices ≡ None → Q (rests p)
unfolding rests
walk-rests h1 p h2 h3 h4 h5 = grind (arith, common_steps, walk-begins, walk-leaves)

walk-over : {P Q : ProcessorView → Type 0} → Walk P Q → (late : Bool) (p : ProcessorView) → Free p → P p
    → position asks_at p.devices ≡ None → Q (rests (ends_run late p))
unfolding ends_run run_ended
walk-over h1 late p h2 h3 h4 = grind (arith, common_steps, walk-rests)

walk-goes : {P Q : ProcessorView → Type 0} → Walk P Q → (p : ProcessorView) → Free p → P p → position asks_at p.devices ≡ None
    → Q (goes_on p)
unfolding goes_on
walk-goes h1 p h2 h3 h4 = grind (arith, common_steps, walk-over)

walk-interrupts : {P Q : ProcessorView → Type 0} → Walk P Q → (n : ℕ) (p : ProcessorView) → Free p → P p → asks_at (at n p.devices) ≡ true
    → Q (interrupts n p)
unfolding interrupts
walk-interrupts {Q = Q} w n p free held asks =
    by (is_scheduling n p) p.settings.threaded (w.interrupt n time counts p free held asks)
  where
    time : ℕ
    time = interrupt_cost (is_fired_at (at n p.devices)) (waking_length p.settings p.application) p.settings

    counts : ProcessorCounts
    counts = if is_fired_at (at n p.devices) then record p.counts { timers = saturated (p.counts.timers + 1) }
        else record p.counts { interrupts = saturated (p.counts.interrupts + 1) }

    q : ProcessorView
    q = record p { devices = devices_interrupted n time p; counts = counts }

    by : (b t : Bool)
        → Q (begins (Interrupt n) time (record q {
          softirq = if b && not t then pushed n p.softirq else p.softirq;
          tasks = if b && t then p.tasks ++ Thread n ∷ [] else p.tasks;
        }))
        → Q (begins (Interrupt n) time
        (if b then (if t then record q { tasks = p.tasks ++ Thread n ∷ [] } else record q { softirq = pushed n p.softirq }) else q))
    by true true held = held
    by true false held = held
    by false t held = held

walk-by : {P Q : ProcessorView → Type 0} → Walk P Q → (o : Option ℕ) (p : ProcessorView) → position asks_at p.devices ≡ o → Free p → P p
    → Q (option_map_or (λ number. interrupts number p) o (if is_some p.softirq.run then goes_on p else rests p))
walk-by h1 o p h2 h3 h4 = grind (arith, common_steps, position-Some, walk-goes, walk-interrupts, walk-rests)

pub idle-is : (work : Work) → is_busy work ≡ false → work ≡ Nothing
idle-is work idle = grind (arith, common_steps)

-- if work is in progress already, no other work begins
pub walk-any : {P Q : ProcessorView → Type 0} → Walk P Q → (p : ProcessorView) → (is_busy p.work ≡ false → asked_in p.softirq.run ≡ None)
    → (is_busy p.work ≡ true → Q p) → (is_busy p.work ≡ false → P p) → Q (takes_up p)
unfolding takes_up
walk-any h1 p h2 h3 h4 = grind (arith, common_steps, walk-by)

-- ---- when a use or an idle time is interrupted

-- the processor after an interruption, before other work begins
abbrev pub stirred : ℕ → ProcessorView → ProcessorView
stirred moment p =
    let asking = position asks_at p.devices in
    if is_busy p.work then (if is_some asking then set_aside moment p.work p else p) else woken moment asking p

-- the time to wake the processor by this queue's interrupt
abbrev pub waking : ℕ → ProcessorView → ℕ
waking n p = wake_cost (is_fired_at (at n p.devices)) p.settings

-- what has to be shown: the processor is unchanged, a use was interrupted, or time passed
pub stirred-by : (Q : ProcessorView → Type 0) (moment : ℕ) (p : ProcessorView) → (is_busy p.work ≡ true → Q p)
    → ((came : ℕ) (counts : ProcessorCounts) → p.work ≡ Use came
    → Q (record p { work = Nothing; clock = moment; rest = Some (record { came = came; left = p.ends - moment }); counts = counts }))
    → ((n : ℕ) (counts : ProcessorCounts) → is_busy p.work ≡ false → position asks_at p.devices ≡ Some n
    → Q (record p { clock = saturated (moment + waking n p); counts = counts }))
    → (is_busy p.work ≡ false → Q (record p { clock = moment })) → Q (stirred moment p)
stirred-by Q moment p h1 h2 h3 h4 = grind (arith, common_steps)

-- ---- when a poll looks for its next packet, and when it ends

-- what has to be shown: the completion takes longer, or comes now
pub closes-by : (Q : ProcessorView → Type 0) (n given : ℕ) (p : ProcessorView)
    → (nat_lt given p.settings.weight ≡ true → Q (begins (Arm (record { device = n; given = given })) p.settings.arm p))
    → Q (ends_poll n given p)
    → Q (closes_poll n given p)
unfolding closes_poll
closes-by Q n given p h1 h2 = grind (arith, common_steps)

plain-by : (Q : ProcessorView → Type 0) (n given : ℕ) (p : ProcessorView)
    → ((came : ℕ) → next_packet_at p.settings.backlog (at n p.devices) ≡ Some came → nat_lt given p.settings.weight ≡ true
    → Q (begins (Packet (record { device = n; came = came; given = given })) (packet_length p)
    (record p { devices = changed (without_next p.settings.backlog) n p.devices })))
    → (next_packet_at p.settings.backlog (at n p.devices) ≡ None
    → Q (closes_poll n given (record p { devices = changed (without_next p.settings.backlog) n p.devices })))
    → (nat_lt given p.settings.weight ≡ false → Q (closes_poll n given p))
    → Q (plain_looks n given p)
unfolding plain_looks
plain-by Q n given p h1 h2 h3 = grind (arith, common_steps)

-- with batches: a poll that took so many packets takes none now
abbrev pub stops : ℕ → MachineSettings → Option QueueView → Bool
stops given s o = not (nat_lt given s.weight && pulls_at s.gro_batch given o)

batch-by : (Q : ProcessorView → Type 0) (n given : ℕ) (p : ProcessorView)
    → (nat_lt given p.settings.weight ≡ true → pulls_at p.settings.gro_batch given (at n p.devices) ≡ true
    → Q (begins (Poll (record { device = n; given = given + 1 })) p.settings.take (record p { devices = changed holding n p.devices })))
    → (stops given p.settings (at n p.devices) ≡ true → (came : ℕ) → next_held_at (at n p.devices) ≡ Some came
    → Q (begins (Packet (record { device = n; came = came; given = given - 1 })) (hand_length p)
    (record p { devices = changed without_held n p.devices })))
    → (stops given p.settings (at n p.devices) ≡ true → next_held_at (at n p.devices) ≡ None → Q (closes_poll n given p))
    → Q (batch_looks n given p)
unfolding batch_looks
batch-by Q n given p h1 h2 h3 = grind (arith, common_steps)

-- what has to be shown when a poll takes its next packet, and when it ends
pub record Steps (Q : ProcessorView → Type 0) (n given : ℕ) (p : ProcessorView) : Type 0 where
  pub some : is_batching p.settings ≡ false → (came : ℕ) → next_packet_at p.settings.backlog (at n p.devices) ≡ Some came
      → nat_lt given p.settings.weight ≡ true
      → Q (begins (Packet (record { device = n; came = came; given = given })) (packet_length p)
      (record p { devices = changed (without_next p.settings.backlog) n p.devices }))
  pub none : is_batching p.settings ≡ false → next_packet_at p.settings.backlog (at n p.devices) ≡ None
      → Q (closes_poll n given (record p { devices = changed (without_next p.settings.backlog) n p.devices }))
  pub full : is_batching p.settings ≡ false → nat_lt given p.settings.weight ≡ false → Q (closes_poll n given p)
  -- with batches: it takes one more, hands one over, or ends
  pub takes : is_batching p.settings ≡ true → nat_lt given p.settings.weight ≡ true
      → pulls_at p.settings.gro_batch given (at n p.devices) ≡ true
      → Q (begins (Poll (record { device = n; given = given + 1 })) p.settings.take (record p { devices = changed holding n p.devices }))
  pub hands : is_batching p.settings ≡ true → stops given p.settings (at n p.devices) ≡ true → (came : ℕ)
      → next_held_at (at n p.devices) ≡ Some came
      → Q (begins (Packet (record { device = n; came = came; given = given - 1 })) (hand_length p)
      (record p { devices = changed without_held n p.devices }))
  pub over : is_batching p.settings ≡ true → stops given p.settings (at n p.devices) ≡ true → next_held_at (at n p.devices) ≡ None
      → Q (closes_poll n given p)

pub looks-by : (Q : ProcessorView → Type 0) (n given : ℕ) (p : ProcessorView) → Steps Q n given p → Q (poll_looks n given p)
looks-by Q n given p steps = by (is_batching p.settings) refl
  where
    by : (b : Bool) → is_batching p.settings ≡ b → Q (if b then batch_looks n given p else plain_looks n given p)
    by true is = batch-by Q n given p (steps.takes is) (steps.hands is) (steps.over is)
    by false is = plain-by Q n given p (steps.some is) (steps.none is) (steps.full is)

-- with threads, and without
pub polled-by : (Q : ProcessorView → Type 0) (n given : ℕ) (p : ProcessorView)
    → ((counts : ProcessorCounts) → p.settings.threaded ≡ true
    → Q (record p {
      devices = changed (queue_polled p.clock given p.settings) n p.devices;
      counts = counts;
      tasks = if given == p.settings.weight || is_rescheduled_at given p.settings (at n p.devices) then Thread n ∷ p.tasks else p.tasks;
    }))
    → ((counts : ProcessorCounts) → p.settings.threaded ≡ false
    → Q (record p {
      devices = changed (queue_polled p.clock given p.settings) n p.devices;
      counts = counts;
      softirq = poll_ended n given (given == p.settings.weight) (is_rescheduled_at given p.settings (at n p.devices)) p.softirq;
    }))
    → Q (ends_poll n given p)
unfolding ends_poll
polled-by Q n given p h1 h2 = grind (arith, common_steps)
