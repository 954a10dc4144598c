-- One more queue or processor in the report.
use Rattle.std.proofs.{Common.{arith, ◌≡◌, ◌∙◌, ℕ, ◌+◌, [], ◌++◌, Option, List, refl, add-one, append-nil, sym}, lemmas.Grind.common_steps}
use Rattle.machine_model.specs.declared.{device.QueueReport.QueueReport, processor.ProcessorReport.ProcessorReport}
use Rattle.machine_model.specs.declared.settings.MachineSettings.{MachineSettings}
use Rattle.machine.specs.Report.{machine_device_lines, lines_of_devices, lines_of_processors, none_counted, processor_lines}
use Rattle.machine.specs.Report.{sums_of_devices, sums_of_processors, plus_device, with_processor}
use Rattle.machine.specs.declared.report.MachineTotals.{MachineTotals}

pub more-devices : (device : ℕ → Option QueueReport) (n : ℕ)
    → lines_of_devices device (n + 1) ≡ lines_of_devices device n ++ machine_device_lines (n + 1) (device (n + 1))
unfolding lines_of_devices
more-devices device n = rw (add-one n) refl

pub more-device-sums : (device : ℕ → Option QueueReport) (n : ℕ)
    → sums_of_devices device (n + 1) ≡ plus_device (device (n + 1)) (sums_of_devices device n)
unfolding sums_of_devices
more-device-sums device n = rw (add-one n) refl

pub more-processors : (s : MachineSettings) (processor : ℕ → Option ProcessorReport) (n : ℕ)
    → lines_of_processors s processor (n + 1) ≡ lines_of_processors s processor n ++ processor_lines s n (processor n)
unfolding lines_of_processors
more-processors s processor n = rw (add-one n) refl

pub more-processor-sums : (processor : ℕ → Option ProcessorReport) (t : MachineTotals) (n : ℕ)
    → sums_of_processors processor t (n + 1) ≡ with_processor (processor n) (sums_of_processors processor t n)
unfolding sums_of_processors
more-processor-sums processor t n = rw (add-one n) refl

pub one_device : (device : ℕ → Option QueueReport) (n : ℕ) (told : Option QueueReport) (start before after : List ℕ)
    → told ≡ device (n + 1) → before ≡ start ++ lines_of_devices device n
    → after ≡ before ++ machine_device_lines (n + 1) told → after ≡ start ++ lines_of_devices device (n + 1)
one_device device n told start before after is so_far added = grind (arith, common_steps, more-devices)

pub one_device_sum : (device : ℕ → Option QueueReport) (n : ℕ) (told : Option QueueReport) (before after : MachineTotals)
    → told ≡ device (n + 1)
    → before ≡ sums_of_devices device n
    → after ≡ plus_device told before → after ≡ sums_of_devices device (n + 1)
one_device_sum device n told before after is so_far added = added ∙ (λ i. plus_device (is i) (so_far i)) ∙ sym (more-device-sums device n)

pub one_processor : (s : MachineSettings) (processor : ℕ → Option ProcessorReport) (n : ℕ) (told : Option ProcessorReport)
    (start before after : List ℕ)
    → told ≡ processor n → before ≡ start ++ lines_of_processors s processor n
    → after ≡ before ++ processor_lines s n told → after ≡ start ++ lines_of_processors s processor (n + 1)
one_processor s processor n told start before after is so_far added = grind (arith, common_steps, more-processors)

pub one_processor_sum : (processor : ℕ → Option ProcessorReport) (t : MachineTotals) (n : ℕ) (told : Option ProcessorReport)
    (before after : MachineTotals) → told ≡ processor n
    → before ≡ sums_of_processors processor t n → after ≡ with_processor told before → after ≡ sums_of_processors processor t (n + 1)
one_processor_sum processor t n told before after is so_far added = grind (arith, common_steps, more-processor-sums)

pub three_parts : (start first second third a b c : List ℕ) → start ≡ [] → a ≡ start ++ first → b ≡ a ++ second → c ≡ b ++ third
    → c ≡ first ++ (second ++ third)
three_parts start first second third a b c empty one two three = grind (arith, common_steps)

pub no_devices : (device : ℕ → Option QueueReport) (text : List ℕ) → text ≡ text ++ lines_of_devices device 0
unfolding lines_of_devices
no_devices device text = sym (append-nil text)

pub no_device_sum : (device : ℕ → Option QueueReport) → none_counted ≡ sums_of_devices device 0
unfolding sums_of_devices
no_device_sum device = refl

pub no_processors : (s : MachineSettings) (processor : ℕ → Option ProcessorReport) (text : List ℕ)
    → text ≡ text ++ lines_of_processors s processor 0
unfolding lines_of_processors
no_processors s processor text = sym (append-nil text)

pub no_processor_sum : (processor : ℕ → Option ProcessorReport) (t : MachineTotals) → t ≡ sums_of_processors processor t 0
unfolding sums_of_processors
no_processor_sum processor t = refl
