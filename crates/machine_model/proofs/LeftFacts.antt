-- A measure of the work that remains on a processor. Every event decreases it.
use Rattle.std.proofs.{Common.{◌≡◌, ◌∙◌, ℕ, ◌+◌, ◌-◌, ◌*◌, ◌<◌, ◌≤◌, Bool, true, false, Option, Some, None, List, [], ◌∷◌, drop, length}}
use Rattle.std.proofs.{Common.{ap, refl, sym, arith}, Math.Nat.zero-mod, lemmas.{Bool.{eq-eqb, eqb-true}, Grind.common_steps}}
use Rattle.std.specs.{Option.option_map_or, Prelude.{◌==◌, ◌&&◌, ◌||◌, if◌then◌else◌, nat_le, nat_lt, not, slice_get}}
use Rattle.poll_runs.specs.Turn.{asked_for}
use Rattle.device_places.specs.Places.{at, changed}
use Rattle.machine_model.proofs.{ApplicationFacts.fed-few, KeptFacts.if-none, ListedFacts.{listed-begun, listed-ended, next-keeps}}
use Rattle.machine_model.proofs.{TableFacts.{at-changed, at-kept, map_at}}
use Rattle.machine_model.proofs.{WalkFacts.{Walk, closes-by, either, idle-is, is_scheduling, looks-by, polled-by}}
use Rattle.machine_model.proofs.{WalkFacts.{stirred, stirred-by, stops, walk-any}, WeightFacts.{EmptyIf, EmptyIfNone, held-less, held-more}}
use Rattle.machine_model.proofs.WeightFacts.{cause_weight, changed-weights, phase_weight, weight_of, weight_at, weights, weights-most}
use Rattle.machine_model.proofs.WeightFacts.{weights-less, weight-interrupted, weight-raised, weight-delivered, taken-less, looked-most}
use Rattle.machine_model.proofs.WeightFacts.{weight-polled, expired-less, soonest-is, entries, threads, if-application, same-runnable}
use Rattle.machine_model.proofs.WeightFacts.{asks_for, entries-listed, entries-over, entries-put, over-asks, threads-again}
use Rattle.machine_model.specs.{Application.has_place, Device.{QueueView, queue_delivered, expired, holding, interrupted, next_packet}}
use Rattle.machine_model.specs.{Device.{queue_polled, raised_again, without_held, without_next}, Devices.{QueueViews, is_rescheduled_at}}
use Rattle.machine_model.specs.{Devices.{next_held_at, next_packet_at, soonest_from}, Kept.{IsProcessorKept, polled_by}}
use Rattle.machine_model.specs.Processor.{ProcessorView, delivers, delivers_oldest, disturbed, ends_by, ends_current, ends_interrupt}
use Rattle.machine_model.specs.Processor.{closes_poll, ends_poll, happens, is_busy, is_by, is_due, is_polling, poll_looks, spent}
use Rattle.machine_model.specs.Processor.{step, takes_up}
use Rattle.machine_model.specs.{Processor.upcoming, Shown.listed, Softirq.{SoftirqView, asked_in, begun, run_next, run_ended}}
use Rattle.machine_model.specs.{Waits.saturated, declared.{device.Line.TheVariants.Raised, devices.Timer.Timer}}
use Rattle.machine_model.specs.declared.processor.{ProcessorCounts.ProcessorCounts, Rest.Rest, Upcoming.{Upcoming, TheVariants.Ends}}
use Rattle.machine_model.specs.declared.processor.{Upcoming.TheVariants.{Expires, Never}, Work.{Work, TheVariants.{Nothing, Interrupt}}}
use Rattle.machine_model.specs.declared.{processor.Work.TheVariants.{Poll, Packet, Arm, Use}, settings.MachineSettings.MachineSettings}

-- ---- all remaining work, if a packet counts this much

-- what a packet that left the ring counts: more than all that its poll can cause
abbrev pub load : ℕ
load = 327684

abbrev pub rest_weight : Option Rest → ℕ
rest_weight None = 0
rest_weight (Some rest) = 1

unfoldable pub base : ℕ → ProcessorView → ℕ
base w p = weights w p.devices + length p.application.socket.items + 2 * entries p.softirq + 2 * threads p.tasks + rest_weight p.rest

abbrev is_ring_empty : Option QueueView → Bool
is_ring_empty o = option_map_or (λ d. length d.ring == 0) o true

-- while a poll's completion takes longer, packets may come for it
unfoldable pub left_by : ℕ → QueueViews → Work → ℕ
left_by w ds Nothing = 0
left_by w ds (Poll look) = if look.given == 0 then 2 else w
left_by w ds (Packet packet) = w
left_by w ds (Arm look) = (if look.given == 0 && is_ring_empty (at look.device ds) then 0 else 327681) + 1
left_by w ds _ = 1

unfoldable pub left : ℕ → ProcessorView → ℕ
left w p = base w p + left_by w p.devices p.work

idle-left : (w : ℕ) (p : ProcessorView) → p.work ≡ Nothing → left w p ≡ base w p
unfolding left left_by
idle-left w p nothing = rw nothing (omega arith)

-- ---- when work begins

-- with the poll for which the run asks, at most so much is left
abbrev Within : ℕ → ℕ → ProcessorView → Type 0
Within w most p = base w p + 2 * asks_for p.softirq ≤ most

-- the run moves the numbers that it has
within-moved : (w most : ℕ) (q : SoftirqView) (counts : ProcessorCounts) (p : ProcessorView) → listed q ≡ listed p.softirq → Within w most p
    → Within w most (record p { softirq = q; counts = counts })
unfolding base
within-moved w most q counts p same few = omega (arith, few, same, entries-listed q, entries-listed p.softirq)

left-walk : (w most : ℕ) → Walk (Within w most) (λ p. left w p ≤ most)
unfolding left left_by base
left-walk w most = record {
  interrupt = λ n time counts p free few asks.
      let change = interrupted (saturated (p.clock + time)) (is_polling p.settings) in
      omega (
        arith,
        few,
        entries-put n (is_scheduling n p) p.settings.threaded p.softirq p.tasks,
        weights-less w (if is_scheduling n p then 3 else 1) change n p.devices
            (weight-interrupted w (saturated (p.clock + time)) (is_polling p.settings) (at n p.devices) asks),
      );
  next = λ p free few. within-moved w most (run_next p.softirq) p.counts p (next-keeps p.softirq free.unasked).listed few;
  asks = λ n p few asked. omega (arith, few, ap (λ (o : Option ℕ). length (asked_for o)) asked);
  over = λ counts p free few. within-moved w most (run_ended p.softirq) counts p (listed-ended p.softirq free.unasked) few;
  start = λ p few none polling some.
      let s = p.settings in
      within-moved w most (begun p.clock s.budget s.weight s.window p.softirq) p.counts p
      (listed-begun p.clock s.budget s.weight s.window p.softirq none) few;
  resume = λ rest p free few is quiet. omega (arith, few, ap rest_weight is);
  settle = λ tasks p few is. omega (arith, few, ap threads is, same-runnable (length p.application.socket.items == 0) p.tasks);
  thread = λ n more p free few threaded is. omega (arith, few, ap threads is);
  uses = λ came more p free few none is quiet first. omega (arith, few, ap (λ (xs : List ℕ). length xs) is);
  stays = λ p free few still settled. omega (arith, few, idle-left w p free.nothing);
}

-- less than this is left, and while no work is in progress, the run asks for nothing
pub record After (w most : ℕ) (p : ProcessorView) : Type 0 where
  pub less : left w p < most
  pub unasked : p.work ≡ Nothing → asked_in p.softirq.run ≡ None

after-idle : (w most : ℕ) (p : ProcessorView) → p.work ≡ Nothing → asked_in p.softirq.run ≡ None → base w p < most → After w most p
after-idle w most p nothing none few = record { less = omega (arith, few, idle-left w p nothing); unasked = λ idle. none }

after-takes : (w most : ℕ) (p : ProcessorView) → After w most p → left w (takes_up p) < most
after-takes w most p a = omega (arith, a.less, taken)
  where
    taken : left w (takes_up p) ≤ left w p
    taken =
        walk-any (left-walk w (left w p)) p (λ idle. a.unasked (idle-is p.work idle)) (λ busy. omega arith)
        (λ idle.
        let nothing = idle-is p.work idle in
        omega (arith, idle-left w p nothing, ap (λ (o : Option ℕ). length (asked_for o)) (a.unasked nothing)))

-- ---- when work ends

delivers-most : (w n came : ℕ) (p : ProcessorView) → base w (delivers n came p) ≤ base w p + 1
unfolding base delivers
delivers-most w n came p =
    let same = weights-most w 0 (queue_delivered p.clock came) n p.devices
    (omega (arith, weight-delivered w p.clock came (at n p.devices))) in
    let wakes = p.settings.threaded && not p.settings.apart && has_place p.application in
    omega (arith, same, fed-few p.clock came p.settings p.application, if-application wakes p.tasks)

raised-none : (w : ℕ) (o : Option QueueView) → next_packet_at false o ≡ None → weight_at w (map_at raised_again o) ≤ weight_at w o + 0
unfolding map_at weight_at weight_of
raised-none w None none = omega arith
raised-none w (Some d) none = by d.ring none
  where
    by : (ring : List ℕ) → slice_get ring 0 ≡ None
        → w * (2 * length ring + length d.taken) + 5 * d.deferrals
        + phase_weight (if length ring == 0 then d.phase else record d.phase { line = Raised }) + cause_weight d.caused
        ≤ w * (2 * length ring + length d.taken) + 5 * d.deferrals + phase_weight d.phase + cause_weight d.caused + 0
    by [] none = omega arith
    by (x ∷ xs) none = cc none

-- an interrupt without polling ends
after-lone : (w most n : ℕ) (p : ProcessorView) → load ≤ w → p.work ≡ Nothing → asked_in p.softirq.run ≡ None → base w p < most
    → After w most (ends_interrupt n p)
unfolding ends_interrupt delivers base
after-lone w most n p least nothing none few = by (next_packet_at false (at n p.devices)) refl
  where
    raised : (more : ℕ) (q : ProcessorView) → weight_at w (map_at raised_again (at n q.devices)) ≤ weight_at w (at n q.devices) + more
        → base w (record q { devices = changed raised_again n q.devices }) ≤ base w q + more
    raised more q small = omega (arith, weights-most w more raised_again n q.devices small)

    taken : (came : ℕ) → next_packet_at false (at n p.devices) ≡ Some came
        → base w (record p { devices = changed (without_next false) n p.devices }) + w ≤ base w p
    taken came is = omega (arith, weights-less w w (without_next false) n p.devices (taken-less w false (at n p.devices) came is))

    by : (next : Option ℕ) → next_packet_at false (at n p.devices) ≡ next
        → let q = delivers_oldest n next p in After w most (record q { devices = changed raised_again n q.devices })
    by None is = after-idle w most _ nothing none (omega (arith, few, raised 0 p (raised-none w (at n p.devices) is)))
    by (Some came) is =
        let q = delivers_oldest n (Some came) p in
        after-idle w most _ nothing none (omega (
          arith,
          few,
          least,
          taken came is,
          delivers-most w n came (record p { devices = changed (without_next false) n p.devices }),
          raised 3 q (weight-raised w (at n q.devices)),
        ))

arm-less : (given : ℕ) (o : Option QueueView) → EmptyIfNone given o
    → (if given == 0 && is_ring_empty o then 0 else 327681) ≤ (if given == 0 then 0 else 327681)
arm-less given None empty = grind (arith, common_steps)
arm-less given (Some d) empty = by (given == 0) (length d.ring == 0) refl refl
  where
    by : (none clear : Bool) → (given == 0) ≡ none → (length d.ring == 0) ≡ clear
        → (if none && clear then 0 else 327681) ≤ (if none then 0 else 327681)
    by true true is held = omega arith
    by true false is held = absurd (cc (held, eq-eqb (length d.ring) 0 (empty d refl (eqb-true given 0 is))))
    by false clear is held = omega arith

-- the end of a poll: what its queue may still do, and its next poll
abbrev extra : Bool → ℕ
extra none = if none then 0 else 327681

bound : (defer : ℕ) (full again none : Bool) → defer ≤ 65535 → (full ≡ true → none ≡ true → ⊥)
    → (if full || again then 2 else 0) + (if full then 0 else (if none then 0 else 5 * defer + 4))
    ≤ (if none then 0 else 327681) + (if not full && again then 2 else 0)
bound defer full again none h1 h2 = grind (arith, common_steps)

after-poll : (w most n given : ℕ) (lone : Bool) (p : ProcessorView) → p.work ≡ Nothing
    → (p.settings.threaded ≡ true → asked_in p.softirq.run ≡ None)
    → EmptyIf lone given (at n p.devices) → base w p + extra lone < most → After w most (ends_poll n given p)
unfolding base
after-poll w most n given lone p nothing none empty few =
    let s = p.settings in
    let full = given == s.weight in
    let again = is_rescheduled_at given s (at n p.devices) in
    let all = changed-weights w (queue_polled p.clock given s) n p.devices in
    let own = weight-polled w p.clock given s (at n p.devices) lone empty in
    let small = bound s.defer_hard_irqs full again lone s.defer_hard_irqs_in
    (λ full none. omega (arith, eqb-true given s.weight full, empty.zero none, s.weight_in.0)) in
    polled-by (After w most) n given p
    (λ counts threaded. after-idle w most _ nothing (none threaded) (omega
    (arith, few, all, own, small, threads-again (full || again) n p.tasks)))
    (λ counts single. after-idle w most _ nothing (over-asks n given full again p.softirq) (omega
    (arith, few, all, own, small, entries-over n given full again p.softirq)))

-- a poll is over, whose completion may take longer
after-close : (w most n given : ℕ) (p : ProcessorView) → p.work ≡ Nothing
    → (p.settings.threaded ≡ true → asked_in p.softirq.run ≡ None)
    → EmptyIfNone given (at n p.devices) → base w p + extra (given == 0) + 1 < most → After w most (closes_poll n given p)
unfolding left left_by base
after-close w most n given p nothing none empty few =
    closes-by (After w most) n given p
    (λ less. record { less = omega (arith, few, arm-less given (at n p.devices) empty); unasked = λ idle. cc idle })
    (after-poll w most n given (given == 0) p nothing none
    (record { zero = λ is. eqb-true given 0 is; clear = λ d here is. empty d here (eqb-true given 0 is) }) (omega (arith, few)))

next-some : (n : ℕ) → (n + 1 == 0) ≡ false
next-some n = grind (arith, common_steps)

-- a poll that ends before it took a packet finds none
zero-less : (weight given : ℕ) → 1 ≤ weight → given ≡ 0 → nat_lt given weight ≡ true
zero-less weight given least none = grind (arith, common_steps)

batch-empty : (s : MachineSettings) (given : ℕ) (o : Option QueueView) → stops given s o ≡ true → next_held_at o ≡ None
    → EmptyIfNone given o
batch-empty s given o stop held d is none = by d.taken (rw is at held) (rw (is, none, zero-mod s.gro_batch) at stop)
  where
    by : (taken : List ℕ) → slice_get taken 0 ≡ None → not (nat_lt 0 s.weight && (length taken == 0 && not (length d.ring == 0))) ≡ true
        → length d.ring ≡ 0
    by [] held stop = empty (nat_lt 0 s.weight) (length d.ring) (zero-less s.weight 0 s.weight_in.0 refl) stop
      where
        empty : (less : Bool) (size : ℕ) → less ≡ true → not (less && (true && not (size == 0))) ≡ true → size ≡ 0
        empty less size is stop = grind (arith, common_steps)
    by (x ∷ taken) held stop = cc held

ring-empty : (xs : List ℕ) → slice_get xs 0 ≡ None → length (drop 1 xs) ≡ 0
ring-empty [] none = refl
ring-empty (x ∷ xs) none = cc none

next-empty : (backlog : Bool) (d : QueueView) → next_packet backlog d ≡ None → length (without_next backlog d).ring ≡ 0
next-empty backlog d none = grind (arith, common_steps, ring-empty)

plain-empty : (backlog : Bool) (n given : ℕ) (ds : QueueViews) → next_packet_at backlog (at n ds) ≡ None
    → EmptyIfNone given (at n (changed (without_next backlog) n ds))
unfolding map_at
plain-empty backlog n given ds h1 = grind (arith, common_steps, at-changed, next-empty)

after-looks : (w most n given : ℕ) (p : ProcessorView) → p.work ≡ Nothing → (p.settings.threaded ≡ true → asked_in p.softirq.run ≡ None)
    → base w p + extra (given == 0) + 1 < most → After w most (poll_looks n given p)
unfolding left left_by base
after-looks w most n given p nothing none few =
    let s = p.settings in
    let next = changed (without_next s.backlog) n p.devices in
    looks-by (After w most) n given p (record {
      some = λ plain came is less. record {
        less = omega (arith, few, weights-less w w (without_next s.backlog) n p.devices (taken-less w s.backlog (at n p.devices) came is));
        unasked = λ idle. cc idle;
      };
      none = λ plain out.
          after-close w most n given (record p { devices = next }) nothing none (plain-empty s.backlog n given p.devices out)
          (omega (arith, few, weights-most w 0 (without_next s.backlog) n p.devices (looked-most w s.backlog (at n p.devices))));
      full = λ plain full.
          after-close w most n given p nothing none (λ d is zero. absurd (cc (zero-less s.weight given s.weight_in.0 zero, full))) few;
      takes = λ batch less pulls. record {
        less = rw (next-some given) (omega
            (arith, few, weights-less w w holding n p.devices (held-more w s.gro_batch given (at n p.devices) pulls)));
        unasked = λ idle. cc idle;
      };
      hands = λ batch stop came is. record {
        less = omega (arith, few, weights-less w w without_held n p.devices (held-less w came (at n p.devices) is));
        unasked = λ idle. cc idle;
      };
      over = λ batch stop out. after-close w most n given p nothing none (batch-empty s given (at n p.devices) stop out) few;
    })

arm-empty : (given : ℕ) (o : Option QueueView) → EmptyIf (given == 0 && is_ring_empty o) given o
arm-empty given o = record { zero = zero (given == 0) (is_ring_empty o) refl; clear = ring (given == 0) }
  where
    zero : (none clear : Bool) → (given == 0) ≡ none → (none && clear) ≡ true → given ≡ 0
    zero true clear is held = eqb-true given 0 is
    zero false clear is held = cc held

    ring : (none : Bool) → (d : QueueView) → o ≡ Some d → (none && is_ring_empty o) ≡ true → length d.ring ≡ 0
    ring true d is held = eqb-true (length d.ring) 0 (rw is at held)
    ring false d is held = cc held

after-work : (w most : ℕ) (work : Work) (p : ProcessorView) → load ≤ w → p.work ≡ Nothing
    → asked_in p.softirq.run ≡ (if p.settings.threaded then None else polled_by work) → is_busy work ≡ true
    → base w p + left_by w p.devices work ≤ most → After w most (ends_by work p)
unfolding left_by base delivers
after-work w most Nothing p least nothing asked busy few = cc busy
after-work w most (Interrupt n) p least nothing asked busy few =
    let none : asked_in p.softirq.run ≡ None = asked ∙ if-none p.settings.threaded None refl in
    either (After w most) (is_polling p.settings) p (ends_interrupt n p) (λ e. after-idle w most p nothing none (omega (arith, few)))
    (λ e. after-lone w most n p least nothing none (omega (arith, few)))
after-work w most (Poll look) p least nothing asked busy few =
    after-looks w most look.device look.given p nothing (λ threaded. rw threaded at asked) (omega (arith, few, polled (look.given == 0)))
  where
    polled : (none : Bool) → (if none then 0 else 327681) + 1 < (if none then 2 else w)
    polled true = omega arith
    polled false = omega (arith, least)
after-work w most (Packet packet) p least nothing asked busy few =
    given (delivers packet.device packet.came p) refl refl refl (delivers-most w packet.device packet.came p)
  where
    given : (q : ProcessorView) → q.work ≡ p.work → q.softirq ≡ p.softirq → q.settings ≡ p.settings → base w q ≤ base w p + 1
        → After w most (poll_looks packet.device (packet.given + 1) q)
    given q work soft settings more =
        let one : extra (packet.given + 1 == 0) ≡ 327681 = rw (next-some packet.given) refl in
        after-looks w most packet.device (packet.given + 1) q (work ∙ nothing)
        (λ threaded. rw soft (rw (sym (ap (λ (s : MachineSettings). s.threaded) settings) ∙ threaded) at asked))
        (omega (arith, few, least, more, one))
after-work w most (Arm look) p least nothing asked busy few =
    let o = at look.device p.devices in
    after-poll w most look.device look.given (look.given == 0 && is_ring_empty o) p nothing (λ threaded. rw threaded at asked)
    (arm-empty look.given o) (omega (arith, few))
after-work w most (Use came) p least nothing asked busy few =
    after-idle w most _ nothing (asked ∙ if-none p.settings.threaded None refl) (omega (arith, few))

-- ---- a timer expires

disturbed-less : (w most moment : ℕ) (p : ProcessorView)
    → asked_in p.softirq.run ≡ (if p.settings.threaded then None else polled_by p.work) → left w p < most
    → left w (disturbed moment p) < most
unfolding disturbed left left_by base
disturbed-less w most moment p asked few =
    after-takes w most (stirred moment p) (stirred-by (After w most) moment p
    (λ busy. record { less = few; unasked = λ idle. cc (rw idle at busy) })
    (λ came counts is. after-idle w most _ refl (none (ap polled_by is)) (omega (arith, few, ap (left_by w p.devices) is)))
    (λ n counts idle asking. record { less = few; unasked = λ nothing. none (ap polled_by nothing) })
    (λ idle. record { less = few; unasked = λ nothing. none (ap polled_by nothing) }))
  where
    none : polled_by p.work ≡ None → asked_in p.softirq.run ≡ None
    none unpolled = asked ∙ if-none p.settings.threaded (polled_by p.work) unpolled

-- an expired timer leaves the rings
expired-left : (w n : ℕ) (ds : QueueViews) (work : Work) → left_by w (changed expired n ds) work ≡ left_by w ds work
unfolding left_by
expired-left w n ds Nothing = refl
expired-left w n ds (Interrupt m) = refl
expired-left w n ds (Poll look) = refl
expired-left w n ds (Packet packet) = refl
expired-left w n ds (Arm look) =
    ap (λ (clear : Bool). (if look.given == 0 && clear then 0 else 327681) + 1)
    (at-kept is_ring_empty expired n look.device ds (λ d. refl))
expired-left w n ds (Use came) = refl

expires-less : (w : ℕ) (timer : Timer) (p : ProcessorView) → soonest_from 0 p.devices ≡ Some timer
    → left w (record p { devices = changed expired timer.device p.devices }) < left w p
unfolding left base
expires-less w timer p is =
    let zeroth : timer.device - 0 ≡ timer.device = omega arith in
    let here = rw zeroth at (soonest-is 0 p.devices timer is).1 in
    omega (
      arith,
      weights-less w 1 expired timer.device p.devices (expired-less w timer.device timer (at timer.device p.devices) here),
      expired-left w timer.device p.devices p.work,
    )

-- ---- each step decreases the measure

ends-busy : (soonest : Option Timer) (p : ProcessorView)
    → option_map_or (λ timer. if is_busy p.work && nat_le p.ends timer.at then Ends else Expires timer) soonest
    (if is_busy p.work then Ends else Never) ≡ Ends
    → is_busy p.work ≡ true
ends-busy soonest p is = grind (arith, common_steps)

pub expires-soonest : (soonest : Option Timer) (timer : Timer) (p : ProcessorView)
    → option_map_or (λ timer. if is_busy p.work && nat_le p.ends timer.at then Ends else Expires timer) soonest
    (if is_busy p.work then Ends else Never) ≡ Expires timer
    → soonest ≡ Some timer
expires-soonest soonest timer p is = grind (arith, common_steps)

pub step-asked : (moment : ℕ) (p : ProcessorView) → asked_in p.softirq.run ≡ (if p.settings.threaded then None else polled_by p.work)
    → is_due moment p ≡ true → left load (step p) < left load p
unfolding step ends_current left base
step-asked moment p asked due = by (upcoming p) refl due
  where
    by : (next : Upcoming) → upcoming p ≡ next → is_by moment next p ≡ true → left load (happens next p) < left load p
    by Never is due = cc due
    by Ends is due =
        let q = record p { clock = p.ends; work = Nothing; counts = spent p.work (p.ends - p.clock) p.counts } in
        after-takes load (left load p) (ends_by p.work q)
        (after-work load (left load p) p.work q (omega arith) refl asked (ends-busy (soonest_from 0 p.devices) p is) (omega arith))
    by (Expires timer) is due =
        disturbed-less load (left load p) timer.at (record p { devices = changed expired timer.device p.devices }) asked
        (expires-less load timer p (expires-soonest (soonest_from 0 p.devices) timer p is))

pub step-less : (moment : ℕ) (p : ProcessorView) → IsProcessorKept p → is_due moment p ≡ true → left load (step p) < left load p
step-less moment p kept due = step-asked moment p kept.asked due
