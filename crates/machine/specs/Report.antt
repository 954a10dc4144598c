-- The text of the report. See docs/FORMATS.md, "The machine's report".
use Rattle.std.specs.Prelude.{ℕ, zero, suc, ◌+◌, ◌-◌, ◌*◌, List, [], ◌∷◌, ◌++◌, Option, Some, None, codes, decimal, option_map, slice_get}
use Rattle.machine_model.specs.declared.{application.ApplicationReport.ApplicationReport, device.QueueReport.QueueReport}
use Rattle.machine_model.specs.declared.{waits.WaitCounts.WaitCounts, settings.MachineSettings.MachineSettings}
use Rattle.machine_model.specs.{declared.processor.ProcessorReport.ProcessorReport, Machine.{Machine, device_report, processor_report}}
use Rattle.machine_model.specs.Waits.{saturated}
use Rattle.text_io.specs.Lines.{with_newline, words}
use Rattle.machine.specs.declared.report.ApplicationLine.{ApplicationLine}
use Rattle.machine.specs.declared.report.MachineTotals.{MachineTotals}

-- what the report shows of waits
unfoldable pub waits_text : WaitCounts → List ℕ
waits_text w = words (codes "mean" ∷ decimal w.mean ∷ codes "wait50" ∷ decimal w.wait50 ∷ codes "wait90" ∷ decimal w.wait90
    ∷ codes "wait99" ∷ decimal w.wait99 ∷ codes "wait999" ∷ decimal w.wait999 ∷ codes "most" ∷ decimal w.most ∷ [])

-- ---- a queue (a line `device`)

unfoldable pub polls_text : QueueReport → List ℕ
polls_text d =
    words (codes "polled" ∷ decimal d.counts.polled ∷ codes "interrupts" ∷ decimal d.counts.interrupts
    ∷ codes "polls" ∷ decimal d.counts.polls
    ∷ waits_text d.waits ∷ [])

abbrev pub machine_device_line : ℕ → QueueReport → List ℕ
machine_device_line number d =
    words (codes "device" ∷ decimal number ∷ codes "arrived" ∷ decimal d.counts.arrived
    ∷ codes "dropped" ∷ decimal d.counts.dropped ∷ polls_text d ∷ [])

-- the lines of a queue; none if no packet arrived for it
abbrev pub machine_device_lines : ℕ → Option QueueReport → List ℕ
machine_device_lines number None = []
machine_device_lines number (Some d) = with_newline (machine_device_line number d)

-- ---- a processor

abbrev pub processor_line : ℕ → ProcessorReport → List ℕ
processor_line number p =
    words (codes "processor" ∷ decimal number ∷ codes "interrupts" ∷ decimal p.counts.interrupts ∷ codes "timers" ∷ decimal p.counts.timers
    ∷ codes "runs" ∷ decimal p.counts.runs ∷ codes "polls" ∷ decimal p.counts.polls
    ∷ codes "work" ∷ decimal p.counts.work ∷ codes "squeezed" ∷ decimal p.counts.squeezed ∷ codes "late" ∷ decimal p.counts.late
    ∷ codes "refused" ∷ decimal p.counts.refused
    ∷ codes "used" ∷ decimal p.waits.count ∷ waits_text p.waits ∷ [])

-- the idle time: the rest of the processor's time
abbrev pub idle_of : ProcessorReport → ℕ
idle_of p = p.end - p.counts.interrupt_time - p.counts.poll_time - p.counts.use_time

abbrev pub time_line : ℕ → ProcessorReport → List ℕ
time_line number p =
    words (codes "time" ∷ decimal number ∷ codes "end" ∷ decimal p.end ∷ codes "interrupt" ∷ decimal p.counts.interrupt_time
    ∷ codes "poll" ∷ decimal p.counts.poll_time
    ∷ codes "use" ∷ decimal p.counts.use_time ∷ codes "idle" ∷ decimal (idle_of p) ∷ [])

-- ---- the application on its own processor

-- the time of its uses, and the rest of its time up to its last end: without waking and uses, it was idle
unfoldable pub application_of : MachineSettings → ℕ → ProcessorReport → ApplicationReport → ApplicationLine
application_of s number p a =
    let used = saturated (p.waits.count * s.use_time) in
    record { number = number; end = a.end; wakes = a.wakes; used = used; idle = a.end - saturated (a.wakes * s.app_wake) - used }

abbrev pub application_line : ApplicationLine → List ℕ
application_line a =
    words (codes "application" ∷ decimal a.number ∷ codes "end" ∷ decimal a.end ∷ codes "wakes" ∷ decimal a.wakes
    ∷ codes "use" ∷ decimal a.used ∷ codes "idle" ∷ decimal a.idle ∷ [])

abbrev pub application_lines : MachineSettings → ℕ → ProcessorReport → Option ApplicationReport → List ℕ
application_lines s number p None = []
application_lines s number p (Some a) = with_newline (application_line (application_of s number p a))

-- ---- all lines of a processor

abbrev pub processor_lines : MachineSettings → ℕ → Option ProcessorReport → List ℕ
processor_lines s number None = []
processor_lines s number (Some p) =
    with_newline (processor_line number p) ++ (with_newline (time_line number p) ++ application_lines s number p p.application)

-- ---- the total

abbrev pub none_counted : MachineTotals
none_counted = record { devices = 0; arrived = 0; dropped = 0; polled = 0; refused = 0; used = 0 }

abbrev pub plus_device : Option QueueReport → MachineTotals → MachineTotals
plus_device None t = t
plus_device (Some d) t = record t {
  devices = saturated (t.devices + 1);
  arrived = saturated (t.arrived + d.counts.arrived);
  dropped = saturated (t.dropped + d.counts.dropped);
  polled = saturated (t.polled + d.counts.polled);
}

abbrev pub with_processor : Option ProcessorReport → MachineTotals → MachineTotals
with_processor None t = t
with_processor (Some p) t = record t { refused = saturated (t.refused + p.counts.refused); used = saturated (t.used + p.waits.count) }

abbrev pub machine_total_line : MachineTotals → List ℕ
machine_total_line t =
    words (codes "total" ∷ codes "devices" ∷ decimal t.devices ∷ codes "arrived" ∷ decimal t.arrived ∷ codes "dropped" ∷ decimal t.dropped
    ∷ codes "polled" ∷ decimal t.polled ∷ codes "refused" ∷ decimal t.refused ∷ codes "used" ∷ decimal t.used ∷ [])

-- ---- the text

-- the lines and the sums of devices 1 to n
unfoldable pub lines_of_devices : (ℕ → Option QueueReport) → ℕ → List ℕ
lines_of_devices device zero = []
lines_of_devices device (suc n) = lines_of_devices device n ++ machine_device_lines (suc n) (device (suc n))

unfoldable pub sums_of_devices : (ℕ → Option QueueReport) → ℕ → MachineTotals
sums_of_devices device zero = none_counted
sums_of_devices device (suc n) = plus_device (device (suc n)) (sums_of_devices device n)

-- the lines of processors 0 to n - 1, and the sums with their numbers added
unfoldable pub lines_of_processors : MachineSettings → (ℕ → Option ProcessorReport) → ℕ → List ℕ
lines_of_processors s processor zero = []
lines_of_processors s processor (suc n) = lines_of_processors s processor n ++ processor_lines s n (processor n)

unfoldable pub sums_of_processors : (ℕ → Option ProcessorReport) → MachineTotals → ℕ → MachineTotals
sums_of_processors processor t zero = t
sums_of_processors processor t (suc n) = with_processor (processor n) (sums_of_processors processor t n)

-- the report of a processor, if there is one
abbrev pub processor_in : Machine → ℕ → Option ProcessorReport
processor_in machine number = option_map processor_report (slice_get machine number)

-- the lines of the queues for which a packet arrived, by increasing number, then those of the processors, and then the total
abbrev pub machine_text : MachineSettings → Machine → List ℕ
machine_text s machine =
    let device : ℕ → Option QueueReport = λ n. device_report n machine in
    lines_of_devices device (64 * s.processors) ++ (lines_of_processors s (processor_in machine) s.processors
    ++ with_newline (machine_total_line (sums_of_processors (processor_in machine) (sums_of_devices device (64 * s.processors))
    s.processors)))
