-- The parts of the measure of remaining work: those of the queues, of the poll list and of the tasks; and which timer expires
-- first.
use Rattle.std.proofs.{Common.{◌≡◌, ◌∙◌, ℕ, zero, suc, ◌+◌, ◌-◌, ◌*◌, ◌≤◌, Bool, true, false, Option, Some, None, List, [], ◌∷◌, ◌++◌, ◌⊎◌}}
use Rattle.std.proofs.{Common.{inl, inr, length, length-append, drop, ap, refl, arith}, lemmas.Grind.common_steps}
use Rattle.std.specs.{Option.option_map_or, Prelude.{◌==◌, ◌&&◌, ◌||◌, if◌then◌else◌, not, slice_get, sum_by}}
use Rattle.poll_runs.specs.{Turn.asked_for, declared.bench.Next.TheVariants.{Gone, Repoll}}
use Rattle.device_places.specs.Places.{at, changed}
use Rattle.machine_model.proofs.{ListedFacts.{asked-polled, pushed-run}, PlacesFacts.sum-changed, QueueFacts.{armed-by, completed-by}}
use Rattle.machine_model.{proofs.{QueueFacts.interrupted-by, TableFacts.map_at}, specs.Device.{QueueView, armed, asks, asks_later}}
use Rattle.machine_model.specs.Device.{coalesced, is_deferred, expired, expired_phase, finds_packets, handled, has_expired, holding}
use Rattle.machine_model.specs.Device.{interrupted, is_at_once, is_missed, is_owed, is_rescheduled, napi_completed, next_packet, notified}
use Rattle.machine_model.specs.Device.{queue_completed, queue_delivered, queue_polled, raised_again, schedules, timer_of, unmasked_line}
use Rattle.machine_model.specs.{Device.{unmasked_queue, without_held, without_next}, Devices.{QueueViews, asks_at, is_rescheduled_at}}
use Rattle.machine_model.specs.Devices.{next_held_at, next_packet_at, schedules_at, sooner, soonest_from, pulls_at, timer_at}
use Rattle.machine_model.specs.{Shown.listed, Softirq.{RunView, SoftirqView, asked_in, softirq_polled, pushed, poll_ended}, Tasks.runnable}
use Rattle.machine_model.specs.{Tasks.with_application, Waits.saturated, declared.device.Line.{Line, TheVariants.{Coalescing, Raised}}}
use Rattle.machine_model.specs.declared.device.{NapiState.TheVariants.{Idle, Scheduled}, Phase.Phase, QueueCounts.QueueCounts}
use Rattle.machine_model.specs.declared.{devices.Timer.Timer, settings.MachineSettings.MachineSettings, tasks.RunnableTask.RunnableTask}
use Rattle.machine_model.specs.declared.tasks.RunnableTask.TheVariants.{Application, Thread}

-- ---- queues

abbrev pub line_weight : Line → ℕ
line_weight Raised = 3
line_weight (Coalescing until) = 4
line_weight _ = 0

abbrev pub timer_weight : Option ℕ → ℕ
timer_weight None = 0
timer_weight (Some until) = 4

-- its parts: the card's interrupt, the NAPI timer, its expiry, and an instance that will be scheduled again
abbrev pub phase_weight : Phase → ℕ
phase_weight phase =
    line_weight phase.line + timer_weight phase.timer + (if has_expired phase.expiry then 3 else 0)
    + (if is_missed phase then 2 else 0)

-- a cause, for which the card will ask for an interrupt
abbrev pub cause_weight : Option ℕ → ℕ
cause_weight None = 0
cause_weight (Some came) = 4

unfoldable pub weight_of : ℕ → QueueView → ℕ
weight_of w d = w * (2 * length d.ring + length d.taken) + 5 * d.deferrals + phase_weight d.phase + cause_weight d.caused

unfoldable pub weight_at : ℕ → Option QueueView → ℕ
weight_at w None = 0
weight_at w (Some d) = weight_of w d

abbrev pub weights : ℕ → QueueViews → ℕ
weights w devices = sum_by (weight_at w) devices

pub changed-weights : (w : ℕ) (f : QueueView → QueueView) (n : ℕ) (xs : QueueViews)
    → weights w (changed f n xs) + weight_at w (at n xs) ≡ weights w xs + weight_at w (map_at f (at n xs))
changed-weights w f n xs = sum-changed (weight_at w) f n xs

-- a change that adds at most this much to the measure of one queue adds at most this much to that of all queues
pub weights-most : (w more : ℕ) (f : QueueView → QueueView) (n : ℕ) (xs : QueueViews)
    → weight_at w (map_at f (at n xs)) ≤ weight_at w (at n xs) + more → weights w (changed f n xs) ≤ weights w xs + more
weights-most w more f n xs most = omega (arith, changed-weights w f n xs, most)

pub weights-less : (w less : ℕ) (f : QueueView → QueueView) (n : ℕ) (xs : QueueViews)
    → weight_at w (map_at f (at n xs)) + less ≤ weight_at w (at n xs) → weights w (changed f n xs) + less ≤ weights w xs
weights-less w less f n xs most = omega (arith, changed-weights w f n xs, most)

-- what an interrupt takes off: what its work counts, and what the scheduled instance counts
handled-less : (polling : Bool) (phase : Phase) → asks phase ≡ true
    → phase_weight (handled polling phase) + (if polling && schedules phase then 3 else 1) ≤ phase_weight phase
handled-less polling phase up = grind (arith, common_steps)

pub weight-interrupted : (w until : ℕ) (polling : Bool) (o : Option QueueView) → asks_at o ≡ true
    → weight_at w (map_at (interrupted until polling) o) + (if polling && schedules_at o then 3 else 1) ≤ weight_at w o
unfolding map_at weight_at weight_of
weight-interrupted w until polling None up = cc up
weight-interrupted w until polling (Some d) up =
    interrupted-by (λ e. weight_of w e + (if polling && schedules d.phase then 3 else 1) ≤ weight_of w d) until polling d
    (λ fired. omega (arith, handled-less polling d.phase up)) (λ calm. omega (arith, handled-less polling d.phase up))

pub weight-raised : (w : ℕ) (o : Option QueueView) → weight_at w (map_at raised_again o) ≤ weight_at w o + 3
unfolding map_at weight_at weight_of
weight-raised w None = omega arith
weight-raised w (Some d) = grind (arith, common_steps)

pub weight-delivered : (w now came : ℕ) (o : Option QueueView) → weight_at w (map_at (queue_delivered now came) o) ≡ weight_at w o
unfolding map_at weight_at weight_of
weight-delivered w now came None = refl
weight-delivered w now came (Some d) = refl

-- after a packet is taken, one fewer is left
pub drop-first : (xs : List ℕ) (came : ℕ) → slice_get xs 0 ≡ Some came → length (drop 1 xs) + 1 ≡ length xs
drop-first [] came is = cc is
drop-first (x ∷ xs) came is = omega arith

pub drop-none : (xs : List ℕ) → length (drop 1 xs) ≤ length xs
drop-none xs = grind (arith, common_steps)

pub fewer : (w a b : ℕ) → a ≤ b → w * a ≤ w * b
fewer w a b h1 = grind (arith, common_steps)

pub one-fewer : (w a b : ℕ) → a + 1 ≤ b → w * a + w ≤ w * b
one-fewer w a b less = omega (arith, fewer w (a + 1) b less)

-- a packet in the ring counts twice as much as one that left it
weight-parts : (w : ℕ) (d e : QueueView) → e.phase ≡ d.phase → e.deferrals ≡ d.deferrals → e.caused ≡ d.caused
    → 2 * length e.ring + length e.taken + 1 ≤ 2 * length d.ring + length d.taken → weight_of w e + w ≤ weight_of w d
unfolding weight_of
weight-parts w d e h1 h2 h3 h4 = grind (arith, common_steps, one-fewer)

next-less : (backlog : Bool) (d : QueueView) (came : ℕ) → next_packet backlog d ≡ Some came
    → let e = without_next backlog d in 2 * length e.ring + length e.taken + 1 ≤ 2 * length d.ring + length d.taken
next-less backlog d came is = grind (arith, common_steps, drop-first)

next-phase : (backlog : Bool) (d : QueueView)
    → let e = without_next backlog d in (e.phase ≡ d.phase) × (e.deferrals ≡ d.deferrals) × (e.caused ≡ d.caused)
next-phase backlog d = grind (arith, common_steps)

pub taken-less : (w : ℕ) (backlog : Bool) (o : Option QueueView) (came : ℕ) → next_packet_at backlog o ≡ Some came
    → weight_at w (map_at (without_next backlog) o) + w ≤ weight_at w o
unfolding map_at weight_at
taken-less w backlog o came h1 = grind (arith, common_steps, next-less, next-phase, weight-parts)

looked-less : (backlog : Bool) (d : QueueView)
    → let e = without_next backlog d in 2 * length e.ring + length e.taken ≤ 2 * length d.ring + length d.taken
looked-less backlog d = grind (arith, common_steps, drop-none)

pub weight-looked : (w : ℕ) (backlog : Bool) (d : QueueView) → weight_of w (without_next backlog d) ≤ weight_of w d
unfolding weight_of
weight-looked w backlog d = grind (arith, common_steps, looked-less, next-phase)

pub looked-most : (w : ℕ) (backlog : Bool) (o : Option QueueView) → weight_at w (map_at (without_next backlog) o) ≤ weight_at w o + 0
unfolding map_at weight_at
looked-most w backlog None = omega arith
looked-most w backlog (Some d) = omega (arith, weight-looked w backlog d)

-- GRO holds one packet more, or hands one over
holding-less : (d : QueueView) → (length d.ring == 0) ≡ false
    → let e = holding d in 2 * length e.ring + length e.taken + 1 ≤ 2 * length d.ring + length d.taken
holding-less d some = by d.ring (slice_get d.ring 0) refl some
  where
    by : (ring : List ℕ) (first : Option ℕ) → slice_get ring 0 ≡ first → (length ring == 0) ≡ false
        → let e = option_map_or (λ came. record d { ring = drop 1 ring; taken = d.taken ++ came ∷ [] }) first (record d { ring = ring }) in
        2 * length e.ring + length e.taken + 1 ≤ 2 * length ring + length d.taken
    by [] None is some = cc some
    by [] (Some came) is some = cc is
    by (x ∷ ring) None is some = cc is
    by (x ∷ ring) (Some came) is some = omega (arith, length-append d.taken (came ∷ []))

pub held-more : (w batch given : ℕ) (o : Option QueueView) → pulls_at batch given o ≡ true
    → weight_at w (map_at holding o) + w ≤ weight_at w o
unfolding map_at weight_at
held-more w batch given o h1 = grind (arith, common_steps, holding-less, weight-parts)

pub held-less : (w came : ℕ) (o : Option QueueView) → next_held_at o ≡ Some came
    → weight_at w (map_at without_held o) + w ≤ weight_at w o
unfolding map_at weight_at
held-less w came None is = cc is
held-less w came (Some d) is = weight-parts w d (without_held d) refl refl refl (omega (arith, drop-first d.taken came is))

-- the driver unmasks the card, which asks for an interrupt if it has a cause or if packets are left
notified-line : (line : Line) (at_once : Bool) (until : ℕ) → line_weight (if at_once then Raised else coalesced until line) ≤ 4
notified-line line at_once until = grind (arith, common_steps)

unmasked-less : (line : Line) → line_weight (unmasked_line line) ≤ line_weight line
unmasked-less line = grind (arith, common_steps)

weight-notified : (w now : ℕ) (s : MachineSettings) (d : QueueView) → weight_of w (notified now s d) ≤ weight_of w d + 4
unfolding weight_of notified
weight-notified w now s d = omega (arith, notified-line d.phase.line (is_at_once now s d) (asks_later now s d))

abbrev pub packets_left : QueueView → ℕ
packets_left d = if length d.ring == 0 then 0 else 4

owed-weight : (s : MachineSettings) (d : QueueView) → is_owed s d ≡ true → 4 ≤ cause_weight d.caused + packets_left d
owed-weight s d h1 = grind (arith, common_steps)

weight-unmasked : (w : ℕ) (d : QueueView) → weight_of w (unmasked_queue d) + cause_weight d.caused ≤ weight_of w d
unfolding weight_of
weight-unmasked w d = omega (arith, unmasked-less d.phase.line)

weight-armed : (w now : ℕ) (s : MachineSettings) (d : QueueView) → weight_of w (armed now s d) ≤ weight_of w d + packets_left d
weight-armed w now s d =
    armed-by (λ e. weight_of w e ≤ weight_of w d + packets_left d) now s d
    (λ owed. omega (arith, weight-unmasked w d, weight-notified w now s (unmasked_queue d), owed-weight s d owed))
    (λ free. omega (arith, weight-unmasked w d))

-- a poll that completes may leave deferred interrupts, if it processed packets; a missed interrupt doesn't count any more
left-deferrals : (given deferrals defer gro : ℕ)
    → let k = if given == 0 then deferrals else defer in
    5 * (k - 1) + (if not (k == 0) && not (gro == 0) then 4 else 0) ≤ 5 * deferrals + (if given == 0 then 0 else 5 * defer)
left-deferrals given deferrals defer gro = grind (arith, common_steps)

state-weight : (now : ℕ) (waits again : Bool) (gro : ℕ) (phase : Phase)
    → phase_weight (record phase {
      state = if again then Scheduled else Idle;
      timer = if waits && not (is_missed phase) then Some (saturated (now + gro)) else phase.timer;
    })
    + (if is_missed phase then 2 else 0)
    ≤ phase_weight phase + (if waits then 4 else 0)
state-weight now waits again gro phase = grind (arith, common_steps)

-- an instance is scheduled again if it missed an interrupt, or if its driver finds packets that are left
again-packets : (given : ℕ) (s : MachineSettings) (d : QueueView)
    → (if is_rescheduled given s d then 2 else 0) ≤ (if is_missed d.phase then 2 else 0) + packets_left d
again-packets given s d = grind (arith, common_steps)

again-missed : (missed waits found : Bool) → (waits || found) ≡ false
    → ◌≡◌ {A = ℕ} (if missed || found then 2 else 0) (if missed then 2 else 0)
again-missed missed waits found none = grind (arith, common_steps)

weight-napi : (w now given : ℕ) (s : MachineSettings) (d : QueueView)
    → weight_of w (napi_completed now given s d) + (if is_missed d.phase then 2 else 0)
    ≤ weight_of w d + (if given == 0 then 0 else 5 * s.defer_hard_irqs)
unfolding weight_of
weight-napi w now given s d = grind (arith, common_steps, left-deferrals, state-weight)

pub weight-completed : (w now given : ℕ) (s : MachineSettings) (d : QueueView)
    → weight_of w (queue_completed now given s d) + (if is_rescheduled given s d then 2 else 0)
    ≤ weight_of w d + (if given == 0 then 0 else 5 * s.defer_hard_irqs) + packets_left d
weight-completed w now given s d =
    completed-by (λ e. weight_of w e + (if is_rescheduled given s d then 2 else 0)
    ≤ weight_of w d + (if given == 0 then 0 else 5 * s.defer_hard_irqs) + packets_left d) now given s d
    (λ masked. omega (arith, weight-napi w now given s d, again-packets given s d))
    (λ free. omega (
      arith,
      weight-napi w now given s d,
      weight-armed w now s (napi_completed now given s d),
      again-missed (is_missed d.phase) ((is_deferred given s d || is_missed d.phase) && not s.heedless) (finds_packets given s d) free,
    ))

weight-counts : (w : ℕ) (counts : QueueCounts) (d : QueueView) → weight_of w (record d { counts = counts }) ≡ weight_of w d
unfolding weight_of
weight-counts w counts d = refl

packets-left : (none : Bool) (given length defer : ℕ) → (none ≡ true → given ≡ 0) → (none ≡ true → length ≡ 0)
    → (if given == 0 then 0 else 5 * defer) + (if length == 0 then 0 else 4) ≤ (if none then 0 else 5 * defer + 4)
packets-left none given length defer h1 h2 = grind (arith, common_steps)

-- if a poll took no packet, none is left in the ring
abbrev pub EmptyIfNone : ℕ → Option QueueView → Type 0
EmptyIfNone given o = (d : QueueView) → o ≡ Some d → given ≡ 0 → length d.ring ≡ 0

-- if `none`, the poll took no packet, and none is left in the ring
pub record EmptyIf (none : Bool) (given : ℕ) (o : Option QueueView) : Type 0 where
  pub zero : none ≡ true → given ≡ 0
  pub clear : (d : QueueView) → o ≡ Some d → none ≡ true → length d.ring ≡ 0

pub weight-polled : (w now given : ℕ) (s : MachineSettings) (o : Option QueueView) (none : Bool) → EmptyIf none given o
    → weight_at w (map_at (queue_polled now given s) o) + (if not (given == s.weight) && is_rescheduled_at given s o then 2 else 0)
    ≤ weight_at w o + (if given == s.weight then 0 else (if none then 0 else 5 * s.defer_hard_irqs + 4))
unfolding map_at weight_at queue_polled
weight-polled w now given s o none h1 = grind (arith, common_steps, packets-left, weight-completed, weight-counts)

expired-phase : (at : ℕ) (phase : Phase) → timer_of phase ≡ Some at → phase_weight (expired_phase phase) + 1 ≤ phase_weight phase
expired-phase at phase is = grind (arith, common_steps)

pub weight-expired : (w at : ℕ) (d : QueueView) → timer_of d.phase ≡ Some at → weight_of w (expired d) + 1 ≤ weight_of w d
unfolding weight_of
weight-expired w at d is = omega (arith, expired-phase at d.phase is)

pub expired-less : (w number : ℕ) (timer : Timer) (o : Option QueueView) → timer_at number o ≡ Some timer
    → weight_at w (map_at expired o) + 1 ≤ weight_at w o
unfolding map_at weight_at
expired-less w number timer o h1 = grind (arith, common_steps, weight-expired)

-- ---- the timer that expires first is that of its queue

pub either : (a b : Option Timer) (timer : Timer) → sooner a b ≡ Some timer → (a ≡ Some timer) ⊎ (b ≡ Some timer)
either a b timer h1 = grind (arith, common_steps)

pub named : (number : ℕ) (o : Option QueueView) (timer : Timer) → timer_at number o ≡ Some timer → timer.device ≡ number
named number o timer h1 = grind (arith, common_steps)

pub soonest-is : (number : ℕ) (xs : QueueViews) (timer : Timer) → soonest_from number xs ≡ Some timer
    → (number ≤ timer.device) × (timer_at timer.device (at (timer.device - number) xs) ≡ Some timer)
unfolding soonest_from
soonest-is number [] timer is = cc is
soonest-is number (o ∷ more) timer is =
    by (either (timer_at number o) (soonest_from (number + 1) more) timer is) (λ later. soonest-is (number + 1) more timer later)
  where
    by : (timer_at number o ≡ Some timer) ⊎ (soonest_from (number + 1) more ≡ Some timer)
        → (soonest_from (number + 1) more ≡ Some timer
        → (number + 1 ≤ timer.device) × (timer_at timer.device (at (timer.device - (number + 1)) more) ≡ Some timer))
        → (number ≤ timer.device) × (timer_at timer.device (at (timer.device - number) (o ∷ more)) ≡ Some timer)
    by (inl here) below =
        let same = named number o timer here in
        let first : timer.device - number ≡ zero = omega (arith, same) in
        (omega (arith, same), rw first (ap (λ (n : ℕ). timer_at n o) same ∙ here))
    by (inr later) below =
        let rest = below later in
        let next : timer.device - number ≡ suc (timer.device - (number + 1)) = omega (arith, rest.0) in
        (omega (arith, rest.0), rw next rest.1)

-- ---- the poll list, the run and the threads

abbrev pub waiting : Option RunView → ℕ
waiting None = 0
waiting (Some r) = length r.own + length r.repoll

unfoldable pub entries : SoftirqView → ℕ
entries q = length q.list + waiting q.run

-- the poll for which the run asks is listed too
abbrev pub asks_for : SoftirqView → ℕ
asks_for q = length (asked_for (asked_in q.run))

pub entries-listed : (q : SoftirqView) → entries q + asks_for q ≡ listed q
unfolding entries
entries-listed q = grind (arith, common_steps)

entries-pushed : (n : ℕ) (q : SoftirqView) → entries (pushed n q) ≡ entries q + 1
unfolding entries
entries-pushed n q = omega (arith, length-append q.list (n ∷ []))

one-asked : (asked : Option ℕ) → length (asked_for asked) ≤ 1
one-asked asked = grind (arith, common_steps)

entries-polled : (full : Bool) (given : ℕ) (list : List ℕ) (run : Option RunView) (began : ℕ)
    → let q : SoftirqView = record { list = list; run = run; began = began } in
    entries (softirq_polled (record { work = given; next = if full then Repoll else Gone }) q) ≤ entries q + (if full then 1 else 0)
unfolding entries softirq_polled
entries-polled full given list run began = grind (arith, common_steps, length-append, one-asked)

pub entries-over : (n given : ℕ) (full again : Bool) (q : SoftirqView)
    → 2 * entries (poll_ended n given full again q) ≤ 2 * entries q + (if full || again then 2 else 0)
entries-over n given full again q = grind (arith, common_steps, entries-polled, entries-pushed)

pub over-asks : (n given : ℕ) (full again : Bool) (q : SoftirqView) → asked_in (poll_ended n given full again q).run ≡ None
over-asks n given full again q = grind (arith, common_steps, asked-polled, pushed-run)

abbrev pub threads : List RunnableTask → ℕ
threads [] = 0
threads (Application ∷ more) = threads more
threads (Thread number ∷ more) = threads more + 1

threads-append : (xs ys : List RunnableTask) → threads (xs ++ ys) ≡ threads xs + threads ys
threads-append [] ys = omega arith
threads-append (Application ∷ xs) ys = threads-append xs ys
threads-append (Thread n ∷ xs) ys = omega (arith, threads-append xs ys)

pub if-application : (b : Bool) (xs : List RunnableTask) → threads (if b then with_application xs else xs) ≡ threads xs
unfolding with_application
if-application b xs = grind (arith, common_steps, threads-append)

-- a queue that is scheduled is in one place more; so is one that is polled again by a thread
pub entries-put : (n : ℕ) (b threaded : Bool) (q : SoftirqView) (tasks : List RunnableTask)
    → 2 * entries (if b && not threaded then pushed n q else q) + 2 * threads (if b && threaded then tasks ++ Thread n ∷ [] else tasks) + 1
    ≡ 2 * entries q + 2 * threads tasks + (if b then 3 else 1)
entries-put n b threaded q tasks = grind (arith, common_steps, entries-pushed, threads-append)

pub threads-again : (b : Bool) (n : ℕ) (tasks : List RunnableTask)
    → 2 * threads (if b then Thread n ∷ tasks else tasks) ≡ 2 * threads tasks + (if b then 2 else 0)
threads-again true n tasks = omega arith
threads-again false n tasks = omega arith

pub same-runnable : (idle : Bool) (xs : List RunnableTask) → threads (runnable idle xs) ≡ threads xs
same-runnable idle xs = grind (arith, common_steps)
