-- A processor: which work it begins, and what happens when work ends, timers expire and packets arrive.
use Rattle.std.specs.Prelude.{◌≡◌, ℕ, zero, suc, ◌+◌, ◌-◌, ◌<◌, ◌%◌, ◌==◌, ◌||◌, ◌&&◌, not, nat_le, nat_lt, Bool, true, false, List, []}
use Rattle.std.specs.{Prelude.{◌∷◌, ◌++◌, length, position, slice_get, Option, Some, None, is_some, if◌then◌else◌}, Option.option_map_or}
use Rattle.std.specs.Prelude.{unwrap_or}
use Rattle.device_places.specs.Places.{at, changed}
use Rattle.{machine_model.specs.declared.settings.MachineSettings.MachineSettings}
use Rattle.machine_model.specs.Device.{after_packet, queue_delivered, expired, holding, interrupted, queue_polled, raised_again}
use Rattle.machine_model.specs.Device.{missed_early, without_held, without_next}
use Rattle.machine_model.specs.Devices.{QueueViews, asks_at, has_room_at, is_missed_at, is_rescheduled_at, is_fired_at}
use Rattle.machine_model.specs.Devices.{next_held_at, starts_timer_at}
use Rattle.machine_model.specs.Devices.{next_packet_at, schedules_at, soonest_from, pulls_at, with_device}
use Rattle.machine_model.specs.Softirq.{SoftirqView, begun, asked_in, poll_ended, run_ended, is_run_spent, run_next, pushed}
use Rattle.machine_model.specs.{Application.{ApplicationView, fed, has_place, opened_application}, Waits.saturated}
use Rattle.machine_model.specs.Application.{takes_up_packet, use_ended, use_length, waking_length}
use Rattle.machine_model.specs.Tasks.{after_first, runnable, with_application}
use Rattle.machine_model.specs.declared.{devices.Timer.Timer, tasks.RunnableTask.{RunnableTask, TheVariants.{Application, Thread}}}
use Rattle.machine_model.specs.declared.processor.{ProcessorCounts.ProcessorCounts, TheConstants.ProcessorCounts.NONE, Work.Work}
use Rattle.machine_model.specs.declared.processor.{Rest.Rest}
use Rattle.machine_model.specs.declared.processor.{Work.TheVariants.{Nothing, Interrupt, Poll, Packet, Arm, Use}, Upcoming.Upcoming}
use Rattle.machine_model.specs.declared.processor.Upcoming.TheVariants.{Never, Ends, Expires}

pub record ProcessorView : Type 0 where
  pub settings : MachineSettings
  -- the work in progress, and when it ends; `since` is when it began, or the time of the last event
  pub work : Work
  pub ends : ℕ
  pub clock : ℕ
  pub devices : QueueViews
  -- the poll list and the run; with threads also the runnable tasks, without the thread that polls
  pub softirq : SoftirqView
  pub tasks : List RunnableTask
  -- the rest of a use that was interrupted
  pub rest : Option Rest
  pub application : ApplicationView
  pub counts : ProcessorCounts

abbrev pub is_polling : MachineSettings → Bool
is_polling s = not (s.budget == 0)

abbrev pub is_busy : Work → Bool
is_busy Nothing = false
is_busy _ = true

-- ---- work begins

abbrev pub begins : Work → ℕ → ProcessorView → ProcessorView
begins work time p = record p { work = work; ends = saturated (p.clock + time) }

-- the instance is scheduled (`____napi_schedule`)
abbrev pub scheduled : ℕ → ProcessorView → ProcessorView
scheduled number p =
    if p.settings.threaded then record p { tasks = p.tasks ++ Thread number ∷ [] } else record p { softirq = pushed number p.softirq }

-- the time of an interrupt of the card, or of the NAPI timer (`napi_watchdog`); without polling it also takes a packet, and wakes the
-- application
abbrev pub interrupt_cost : Bool → ℕ → MachineSettings → ℕ
interrupt_cost is_timer waking s =
    let time = if is_timer then unwrap_or s.timer s.interrupt else s.interrupt in
    if is_polling s then time else time + s.packet + waking

unfoldable pub interrupts : ℕ → ProcessorView → ProcessorView
interrupts number p =
    let polling = is_polling p.settings in
    let is_timer = is_fired_at (at number p.devices) in
    let time = interrupt_cost is_timer (waking_length p.settings p.application) p.settings in
    let counts = if is_timer then record p.counts { timers = saturated (p.counts.timers + 1) }
    else record p.counts { interrupts = saturated (p.counts.interrupts + 1) } in
    let devices = changed (interrupted (saturated (p.clock + time)) polling) number p.devices in
    let q = record p { devices = devices; counts = counts } in
    begins (Interrupt number) time (if polling && schedules_at (at number p.devices) then scheduled number q else q)

abbrev pub polls : ℕ → ProcessorView → ProcessorView
polls number p = begins (Poll (record { device = number; given = 0 })) p.settings.poll p

-- the application uses the oldest packet of its socket, if there is one; waking up is a part of the use
abbrev pub uses : List ℕ → ProcessorView → ProcessorView
uses [] p = p
uses (came ∷ more) p =
    begins (Use came) (use_length p.settings p.application) (record p { application = takes_up_packet more p.application })

-- ---- which work begins: the first that is possible, in this order

-- a thread makes a poll, or the application uses a packet
abbrev pub runs : Option RunnableTask → ProcessorView → ProcessorView
runs None p = p
runs (Some Application) p = uses p.application.socket.items p
runs (Some (Thread number)) p = polls number p

unfoldable pub runs_first : ProcessorView → ProcessorView
runs_first p =
    let tasks = runnable (length p.application.socket.items == 0) p.tasks in
    runs (slice_get tasks 0) (record p { tasks = after_first tasks })

-- after the softirq: the rest of an interrupted use, the first task, or the application
abbrev pub leaves_softirq : Option Rest → ProcessorView → ProcessorView
leaves_softirq (Some rest) p = begins (Use rest.came) rest.left (record p { rest = None })
leaves_softirq None p =
    if p.settings.threaded then runs_first p else (if p.settings.apart then p else uses p.application.socket.items p)

-- a run begins: it takes the whole list and makes its first poll (`net_rx_action`)
unfoldable pub begins_run : ProcessorView → ProcessorView
begins_run p =
    let s = p.settings in
    let q = record p { softirq = run_next (begun p.clock s.budget s.weight s.window p.softirq) } in
    option_map_or (λ number. polls number q) (asked_in q.softirq.run) q

unfoldable pub rests : ProcessorView → ProcessorView
rests p =
    if is_polling p.settings && not (length p.softirq.list == 0) then begins_run p else leaves_softirq p.rest p

-- the run ends; it is squeezed if it reached its budget or its window, or if its time is over
unfoldable pub ends_run : Bool → ProcessorView → ProcessorView
ends_run late p =
    let spent = option_map_or is_run_spent p.softirq.run false in
    let squeezed = saturated (p.counts.squeezed + (if spent || late then 1 else 0)) in
    let alone = saturated (p.counts.late + (if late && not spent then 1 else 0)) in
    let counts = record p.counts { runs = saturated (p.counts.runs + 1); squeezed = squeezed; late = alone } in
    record p { softirq = run_ended p.softirq; counts = counts }

-- the run in progress has made a poll, and has used up its time
abbrev pub is_late : ProcessorView → Bool
is_late p = nat_le p.settings.time_limit (p.clock - p.softirq.began)

-- the run in progress ends, or makes its next poll
unfoldable pub goes_on : ProcessorView → ProcessorView
goes_on p =
    let q = record p { softirq = run_next p.softirq } in
    if is_late p then rests (ends_run true p)
    else option_map_or (λ number. polls number q) (asked_in q.softirq.run) (rests (ends_run false q))

unfoldable pub takes_up : ProcessorView → ProcessorView
takes_up p =
    if is_busy p.work then p
    else option_map_or (λ number. interrupts number p) (position asks_at p.devices)
    (if is_some p.softirq.run then goes_on p else rests p)

-- ---- work ends

-- a packet of a queue is delivered; if the socket took it, the application becomes runnable
unfoldable pub delivers : ℕ → ℕ → ProcessorView → ProcessorView
delivers number came p =
    let s = p.settings in
    let wakes = s.threaded && not s.apart && has_place p.application in
    record p {
      devices = changed (queue_delivered p.clock came) number p.devices;
      application = fed p.clock came s p.application;
      tasks = if wakes then with_application p.tasks else p.tasks;
    }

-- an interrupt without polling delivers the oldest packet of its queue
abbrev pub delivers_oldest : ℕ → Option ℕ → ProcessorView → ProcessorView
delivers_oldest number None p = p
delivers_oldest number (Some came) p = delivers number came (record p { devices = changed (without_next false) number p.devices })

unfoldable pub ends_interrupt : ℕ → ProcessorView → ProcessorView
ends_interrupt number p =
    let q = delivers_oldest number (next_packet_at false (at number p.devices)) p in
    record q { devices = changed raised_again number q.devices }

-- A poll that processed this many packets ends. If the queue is polled again, the run puts it on its repolls, or its thread is
-- the first task again. If it completes and is scheduled again at once, its thread is the first task too.
unfoldable pub ends_poll : ℕ → ℕ → ProcessorView → ProcessorView
ends_poll number given p =
    let full = given == p.settings.weight in
    let counts = record p.counts { polls = saturated (p.counts.polls + 1); work = saturated (p.counts.work + given) } in
    let q = record p { devices = changed (queue_polled p.clock given p.settings) number p.devices; counts = counts } in
    let again = is_rescheduled_at given p.settings (at number p.devices) in
    if p.settings.threaded then record q { tasks = if full || again then Thread number ∷ p.tasks else p.tasks }
    else record q { softirq = poll_ended number given full again p.softirq }

-- With `arm`, a poll whose completion starts the NAPI timer takes so much longer after its last delivery (`napi_complete_done`).
abbrev pub may_arm : ℕ → MachineSettings → Bool
may_arm given s = not (s.arm == 0) && not s.backlog && nat_lt given s.weight

unfoldable pub closes_poll : ℕ → ℕ → ProcessorView → ProcessorView
closes_poll number given p =
    if may_arm given p.settings && starts_timer_at given p.settings (at number p.devices) then
    begins (Arm (record { device = number; given = given })) p.settings.arm p
    else ends_poll number given p

-- with `gro-batch`, polls hold the packets that they take, except those of a backlog
abbrev pub is_batching : MachineSettings → Bool
is_batching s = not s.backlog && not (s.gro_batch == 0)

-- the time of a packet of a poll, or of one that GRO hands over, until its delivery
abbrev pub packet_length : ProcessorView → ℕ
packet_length p = p.settings.packet + waking_length p.settings p.application

abbrev pub hand_length : ProcessorView → ℕ
hand_length p = p.settings.packet - p.settings.take + waking_length p.settings p.application

-- A poll that took this many packets takes its next one, or hands over one that GRO holds (`napi_gro_receive`). If GRO holds none
-- then, it ends.
unfoldable pub batch_looks : ℕ → ℕ → ProcessorView → ProcessorView
batch_looks number given p =
    let s = p.settings in
    let q = record p { devices = changed holding number p.devices } in
    let r = record p { devices = changed without_held number p.devices } in
    if nat_lt given s.weight && pulls_at s.gro_batch given (at number p.devices) then
    begins (Poll (record { device = number; given = given + 1 })) s.take q
    else option_map_or (λ came. begins (Packet (record { device = number; came = came; given = given - 1 })) (hand_length p) r)
    (next_held_at (at number p.devices)) (closes_poll number given p)

-- a poll that processed this many packets takes its next one, or ends
unfoldable pub plain_looks : ℕ → ℕ → ProcessorView → ProcessorView
plain_looks number given p =
    let backlog = p.settings.backlog in
    let q = record p { devices = changed (without_next backlog) number p.devices } in
    if nat_lt given p.settings.weight then
    option_map_or (λ came. begins (Packet (record { device = number; came = came; given = given })) (packet_length p) q)
    (next_packet_at backlog (at number p.devices))
    (closes_poll number given q)
    else closes_poll number given p

abbrev pub poll_looks : ℕ → ℕ → ProcessorView → ProcessorView
poll_looks number given p = if is_batching p.settings then batch_looks number given p else plain_looks number given p

abbrev pub ends_by : Work → ProcessorView → ProcessorView
ends_by Nothing p = p
ends_by (Interrupt number) p = if is_polling p.settings then p else ends_interrupt number p
ends_by (Poll look) p = poll_looks look.device look.given p
ends_by (Packet packet) p = poll_looks packet.device (packet.given + 1) (delivers packet.device packet.came p)
ends_by (Arm look) p = ends_poll look.device look.given p
ends_by (Use came) p = record p { application = use_ended p.clock came p.application }

-- the time that a piece of work took is added to the processor's counts
abbrev pub spent : Work → ℕ → ProcessorCounts → ProcessorCounts
spent Nothing time counts = counts
spent (Interrupt number) time counts = record counts { interrupt_time = saturated (counts.interrupt_time + time) }
spent (Use came) time counts = record counts { use_time = saturated (counts.use_time + time) }
spent _ time counts = record counts { poll_time = saturated (counts.poll_time + time) }

unfoldable pub ends_current : ProcessorView → ProcessorView
ends_current p = ends_by p.work (record p { clock = p.ends; work = Nothing; counts = spent p.work (p.ends - p.clock) p.counts })

-- ---- an interrupt while the processor is idle or the application uses a packet

-- the use is interrupted, and its rest is kept for later
abbrev pub set_aside : ℕ → Work → ProcessorView → ProcessorView
set_aside moment (Use came) p =
    let counts = spent (Use came) (moment - p.clock) p.counts in
    record p { work = Nothing; clock = moment; rest = Some (record { came = came; left = p.ends - moment }); counts = counts }
set_aside moment work p = p

-- the time to wake an idle processor by an interrupt of the card, or of the NAPI timer
abbrev pub wake_cost : Bool → MachineSettings → ℕ
wake_cost is_timer s = if is_timer then unwrap_or s.timer_wake s.wake else s.wake

-- the interrupt of this queue, if one asks for one, wakes an idle processor
abbrev pub woken : ℕ → Option ℕ → ProcessorView → ProcessorView
woken moment None p = record p { clock = moment }
woken moment (Some number) p =
    let time = wake_cost (is_fired_at (at number p.devices)) p.settings in
    let counts = record p.counts { interrupt_time = saturated (p.counts.interrupt_time + time) } in
    record p { clock = saturated (moment + time); counts = counts }

unfoldable pub disturbed : ℕ → ProcessorView → ProcessorView
disturbed moment p =
    let asking = position asks_at p.devices in
    takes_up (if is_busy p.work then (if is_some asking then set_aside moment p.work p else p) else woken moment asking p)

-- ---- time passes

-- What happens next if no packet arrives: the work in progress ends, or a timer expires before that.
abbrev pub upcoming : ProcessorView → Upcoming
upcoming p =
    let first = λ (timer : Timer). if is_busy p.work && nat_le p.ends timer.at then Ends else Expires timer in
    option_map_or first (soonest_from 0 p.devices) (if is_busy p.work then Ends else Never)

abbrev pub happens : Upcoming → ProcessorView → ProcessorView
happens Never p = p
happens Ends p = takes_up (ends_current p)
happens (Expires timer) p = disturbed timer.at (record p { devices = changed expired timer.device p.devices })

unfoldable pub step : ProcessorView → ProcessorView
step p = happens (upcoming p) p

abbrev pub is_by : ℕ → Upcoming → ProcessorView → Bool
is_by moment Never p = false
is_by moment Ends p = nat_le p.ends moment
is_by moment (Expires timer) p = nat_le timer.at moment

abbrev pub is_due : ℕ → ProcessorView → Bool
is_due moment p = is_by moment (upcoming p) p

unfoldable pub processor_after : ℕ → ProcessorView → ProcessorView
processor_after zero p = p
processor_after (suc count) p = step (processor_after count p)

-- the processor advances to a time: everything that is due at or before it happens, in order, and nothing else
pub record Advances (moment : ℕ) (p q : ProcessorView) : Type 0 where
  pub count : ℕ
  pub each : (n : ℕ) → n < count → is_due moment (processor_after n p) ≡ true
  pub last : q ≡ processor_after count p
  pub none : is_due moment q ≡ false

-- The queue's poll found the ring empty before it took its whole weight, and hands over the last packets that GRO holds, or starts the
-- NAPI timer (`napi_complete_done`).
abbrev pub is_completing : ℕ → MachineSettings → Work → Bool
is_completing number s (Packet hand) =
    let given = hand.given + 1 in
    hand.device == number && is_batching s && nat_lt given s.weight && not (given % s.gro_batch == 0)
is_completing number s (Arm look) = look.device == number
is_completing number s _ = false

-- With `early`, the driver asked for interrupts before that (virtio_net: `virtqueue_napi_complete`, `virtqueue_enable_cb_prepare`). The
-- first packet that comes then brings an interrupt.
abbrev pub comes_early : ℕ → ProcessorView → Bool
comes_early number p =
    not (p.settings.early == 0) && is_completing number p.settings p.work && not (is_missed_at (at number p.devices))

-- the instance is scheduled, so it only misses the interrupt, which delays the work in progress
unfoldable pub interrupts_early : ℕ → ProcessorView → ProcessorView
interrupts_early number p =
    let time = p.settings.early in
    let interrupts = saturated (p.counts.interrupts + 1) in
    let counts = record p.counts { interrupts = interrupts; interrupt_time = saturated (p.counts.interrupt_time + time) } in
    let devices = changed missed_early number p.devices in
    record p { clock = saturated (p.clock + time); ends = saturated (p.ends + time); devices = devices; counts = counts }

-- a packet found room in the ring of this queue
abbrev pub notices : ℕ → ℕ → ProcessorView → ProcessorView
notices moment number p = if comes_early number p then interrupts_early number p else disturbed moment p

-- a packet arrives for a queue of a processor that has advanced to this time
unfoldable pub arrives : ℕ → ℕ → ProcessorView → ProcessorView
arrives moment number p =
    let devices = with_device p.settings.ring number p.devices in
    let clock = if is_busy p.work then p.clock else moment in
    let q = record p { clock = clock; devices = changed (after_packet moment p.settings) number devices } in
    if has_room_at (at number devices) then notices moment number q else q

-- ---- a new processor

abbrev pub opened_processor : MachineSettings → ProcessorView
opened_processor s = record {
  settings = s;
  work = Nothing;
  ends = 0;
  clock = 0;
  devices = [];
  softirq = record { list = []; run = None; began = 0 };
  tasks = [];
  rest = None;
  application = opened_application s;
  counts = NONE;
}
