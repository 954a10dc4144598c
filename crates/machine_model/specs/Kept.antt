-- The invariant of each processor in the program. It isn't part of the machine's definition.
use Rattle.std.specs.Prelude.{◌≡◌, ◌≤◌, ◌<◌, ◌-◌, ◌&&◌, not, Bool, true, false, is_some, ℕ, sum_by, Option, Some, None, if◌then◌else◌}
use Rattle.{std.specs.Option.option_map_or, machine_model.specs.declared.settings.MachineSettings.MachineSettings}
use Rattle.machine_model.specs.Device.{QueueView, is_napi_idle}
use Rattle.machine_model.specs.{Devices.QueueViews, Shown.{listed, weight_in}, Softirq.{SoftirqView, asked_in}}
use Rattle.machine_model.specs.{Processor.{ProcessorView, is_polling}}
use Rattle.machine_model.specs.declared.{device.Phase.Phase, processor.Work.{Work, TheVariants.{Poll, Packet, Arm}}}

-- how many queues are scheduled
abbrev pub is_scheduled : Phase → Bool
is_scheduled phase = not (is_napi_idle phase.state)

abbrev pub scheduled_at : Option QueueView → ℕ
scheduled_at place = option_map_or (λ d. if is_scheduled d.phase then 1 else 0) place 0

abbrev pub all_scheduled : QueueViews → ℕ
all_scheduled devices = sum_by scheduled_at devices

-- the queue that is polled, and fewer packets than its weight: those that its poll took so far, mostly without the last one
abbrev pub polled_by : Work → Option ℕ
polled_by (Poll look) = Some look.device
polled_by (Packet packet) = Some packet.device
polled_by (Arm look) = Some look.device
polled_by _ = None

abbrev pub work_given : Work → ℕ
work_given (Poll look) = look.given - 1
work_given (Packet packet) = packet.given
work_given (Arm look) = look.given
work_given _ = 0

-- the machine has a poll list: it polls, and without threads
abbrev pub has_list : MachineSettings → Bool
has_list s = is_polling s && not s.threaded

pub record ProcessorKept (settings : MachineSettings) (work : Work) (devices : QueueViews) (softirq : SoftirqView) : Type 0 where
  -- each number on the list and in the run is that of a scheduled queue
  pub few : listed softirq ≤ all_scheduled devices
  pub unused : has_list settings ≡ false → listed softirq ≡ 0
  -- the queue for which the run asks is the one that is polled
  pub asked : asked_in softirq.run ≡ (if settings.threaded then None else polled_by work)
  -- the run's weight is the machine's, and a poll processes at most that
  pub weight : is_some softirq.run ≡ true → weight_in softirq.run ≡ settings.weight
  pub within : work_given work < settings.weight

abbrev pub IsProcessorKept : ProcessorView → Type 0
IsProcessorKept p = ProcessorKept p.settings p.work p.devices p.softirq
