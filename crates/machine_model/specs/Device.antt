-- A receive queue of a card, with its NAPI instance (`struct napi_struct`).
use Rattle.std.specs.Prelude.{ℕ, ◌+◌, ◌-◌, ◌%◌, ◌==◌, ◌||◌, ◌&&◌, not, nat_le, nat_lt, Bool, true, false, List, [], ◌∷◌, ◌++◌, length, drop}
use Rattle.std.specs.Prelude.{slice_get, Option, Some, None, is_some, if◌then◌else◌}
use Rattle.std.specs.Option.{option_map_or}
use Rattle.{machine_model.specs.declared.settings.MachineSettings.MachineSettings}
use Rattle.{machine_model.specs.Waits.{WaitsView, counted, saturated, no_waits}}
use Rattle.machine_model.specs.declared.device.{QueueCounts.QueueCounts, Phase.Phase, TheConstants.{Phase.QUIET, QueueCounts.NONE}}
use Rattle.machine_model.specs.declared.device.{Line.{Line, TheVariants.{Quiet, Coalescing, Raised, Masked}}, NapiState.NapiState}
use Rattle.machine_model.specs.declared.device.NapiState.TheVariants.{Idle, Scheduled, Missed}
use Rattle.machine_model.specs.declared.device.Expiry.{Expiry, TheVariants.{NotExpired, Expired, MetScheduled}}

pub record QueueView : Type 0 where
  -- the arrival times of the packets in its ring, the oldest first; the next field is how many the ring may hold
  pub ring : List ℕ
  pub capacity : ℕ
  -- the packets that are no longer in the ring: with a backlog those that `process_backlog` moved, with `gro-batch` those that GRO holds
  pub taken : List ℕ
  pub phase : Phase
  -- when a packet, or the end of a gap, last made the card ask for an interrupt
  pub asserted : Option ℕ
  -- with `latched`: when the last packet came for which the card set a cause, since the driver last unmasked the card
  pub caused : Option ℕ
  -- when the handler of the card's last interrupt reads the causes, at its end
  pub read : ℕ
  -- the frames since the last interrupt; the next field is how often its interrupt may still be deferred
  pub frames : ℕ
  pub deferrals : ℕ
  pub counts : QueueCounts
  pub waits : WaitsView

abbrev pub new_queue : ℕ → QueueView
new_queue capacity = record {
  ring = [];
  capacity = capacity;
  taken = [];
  phase = QUIET;
  asserted = None;
  caused = None;
  read = 0;
  frames = 0;
  deferrals = 0;
  counts = NONE;
  waits = no_waits;
}

-- ---- its phase

abbrev pub is_masked_line : Line → Bool
is_masked_line Masked = true
is_masked_line _ = false

abbrev pub is_raised : Line → Bool
is_raised Raised = true
is_raised _ = false

abbrev pub is_napi_idle : NapiState → Bool
is_napi_idle Idle = true
is_napi_idle _ = false

abbrev pub is_missed_state : NapiState → Bool
is_missed_state Missed = true
is_missed_state _ = false

abbrev pub has_expired : Expiry → Bool
has_expired NotExpired = false
has_expired _ = true

abbrev pub is_masked : Phase → Bool
is_masked phase = is_masked_line phase.line

-- the NAPI timer expired, and its interrupt wasn't handled yet
abbrev pub is_fired : Phase → Bool
is_fired phase = has_expired phase.expiry

-- the card asks for an interrupt, or the NAPI timer of the queue expired
abbrev pub asks : Phase → Bool
asks phase = is_raised phase.line || has_expired phase.expiry

-- an interrupt of the card came while the instance was scheduled (`NAPI_STATE_MISSED`)
abbrev pub is_missed : Phase → Bool
is_missed phase = is_missed_state phase.state

-- the time of the card's timer, if it is set
abbrev pub card_timer : Line → Option ℕ
card_timer (Coalescing until) = Some until
card_timer _ = None

-- the card's timer is set and expires first, or at the same time as the NAPI timer
abbrev pub is_card_first : Option ℕ → Option ℕ → Bool
is_card_first None napi = false
is_card_first (Some card) None = true
is_card_first (Some card) (Some napi) = nat_le card napi

-- the time of its timer that expires first, if one is set: the card's or the NAPI timer
abbrev pub timer_of : Phase → Option ℕ
timer_of phase = if is_card_first (card_timer phase.line) phase.timer then card_timer phase.line else phase.timer

-- the NAPI timer expires: its interrupt will schedule the instance, unless that is scheduled now (`napi_watchdog`)
abbrev pub after_napi_timer : Phase → Phase
after_napi_timer phase = record phase { timer = None; expiry = if is_napi_idle phase.state then Expired else MetScheduled }

-- the timer that expires first expires; after the card's timer the interrupt is raised
abbrev pub expired_phase : Phase → Phase
expired_phase phase =
    if is_card_first (card_timer phase.line) phase.timer then record phase { line = Raised }
    else (if is_some phase.timer then after_napi_timer phase else phase)

abbrev pub expired : QueueView → QueueView
expired d =
    let card = card_timer d.phase.line in
    record d { phase = expired_phase d.phase; asserted = if is_card_first card d.phase.timer then card else d.asserted }

-- ---- a packet arrives

-- the card delays its interrupt until this time, unless it delays one or asks for one already
abbrev pub coalesced : ℕ → Line → Line
coalesced until Quiet = Coalescing until
coalesced until line = line

-- With `rx-gap`, the card may ask for an interrupt again from this time on: so long after it last did. This is how EITR works in igb
-- and ixgbe, and ITR in e1000 and e1000e (`igb_write_itr`, `ixgbe_write_eitr`, `e1000_set_itr`, `e1000e_write_itr`).
abbrev pub gap_end : ℕ → Option ℕ → ℕ
gap_end gap asserted = option_map_or (λ last. saturated (last + gap)) asserted 0

-- one more frame makes the card ask for an interrupt at once
abbrev pub is_at_once : ℕ → MachineSettings → QueueView → Bool
is_at_once moment s d =
    if s.rx_gap == 0 then s.rx_nsecs == 0 || not (s.rx_frames == 0) && nat_le s.rx_frames (saturated (d.frames + 1))
    else nat_le (gap_end s.rx_gap d.asserted) moment

-- otherwise it asks for one at this time, unless it is to ask earlier
abbrev pub asks_later : ℕ → MachineSettings → QueueView → ℕ
asks_later moment s d = if s.rx_gap == 0 then saturated (moment + s.rx_nsecs) else gap_end s.rx_gap d.asserted

-- the card has one more frame, and asks for an interrupt now or later
unfoldable pub notified : ℕ → MachineSettings → QueueView → QueueView
notified moment s d =
    let at_once = is_at_once moment s d in
    let line = if at_once then Raised else coalesced (asks_later moment s d) d.phase.line in
    let asserted = if at_once && not (is_raised d.phase.line) then Some moment else d.asserted in
    record d { frames = saturated (d.frames + 1); phase = record d.phase { line = line }; asserted = asserted }

abbrev pub has_room : QueueView → Bool
has_room d = nat_lt (length d.ring) d.capacity

-- With `latched`, a packet that finds the interrupt raised or masked only sets a cause in the card: EICR of igb and ixgbe, ICR of e1000
-- and e1000e. Such a cause makes the card ask for an interrupt when the driver unmasks it (`igb_ring_irq_enable`, `e1000_irq_enable`).
abbrev pub is_silent : MachineSettings → Phase → Bool
is_silent s phase = is_masked phase || not (s.latched == 0) && is_raised phase.line

abbrev pub latched_cause : ℕ → MachineSettings → QueueView → Option ℕ
latched_cause moment s d = if s.latched == 0 then d.caused else Some moment

unfoldable pub after_packet : ℕ → MachineSettings → QueueView → QueueView
after_packet moment s d =
    let e = record d { counts = record d.counts { arrived = saturated (d.counts.arrived + 1) } } in
    let f = record e { ring = d.ring ++ moment ∷ [] } in
    if not (has_room d) then record e { counts = record e.counts { dropped = saturated (d.counts.dropped + 1) } }
    else (if is_silent s d.phase then record f { caused = latched_cause moment s d } else notified moment s f)

-- with `early`, a packet comes before the completion of a poll that found the ring empty: its interrupt is only remembered
abbrev pub missed_early : QueueView → QueueView
missed_early d =
    record d { phase = record d.phase { state = Missed }; counts = record d.counts { interrupts = saturated (d.counts.interrupts + 1) } }

-- ---- an interrupt is handled: that of the NAPI timer, or that of the card, which is then masked if there is polling

-- the NAPI timer expired while the instance was scheduled
abbrev pub is_met : Expiry → Bool
is_met MetScheduled = true
is_met _ = false

-- with polling, the interrupt schedules the instance, unless it is scheduled already, or was when the NAPI timer expired
abbrev pub schedules : Phase → Bool
schedules phase = is_napi_idle phase.state && not (is_met phase.expiry)

abbrev pub timer_handled : Phase → Phase
timer_handled phase = record phase { state = if schedules phase then Scheduled else phase.state; expiry = NotExpired }

-- an interrupt of the card while the instance is scheduled is remembered (`napi_schedule_prep`)
abbrev pub prepared : NapiState → NapiState
prepared Idle = Scheduled
prepared _ = Missed

abbrev pub card_handled : Phase → Phase
card_handled phase = record phase { line = Masked; state = prepared phase.state }

-- without polling nothing is masked or scheduled
abbrev pub handled : Bool → Phase → Phase
handled true phase = if is_fired phase then timer_handled phase else card_handled phase
handled false phase = record phase { line = Quiet; expiry = NotExpired }

-- the interrupt's handler ends at this time
unfoldable pub interrupted : ℕ → Bool → QueueView → QueueView
interrupted until polling d =
    let e = record d { phase = handled polling d.phase } in
    let counts = record d.counts { interrupts = saturated (d.counts.interrupts + 1) } in
    if is_fired d.phase then e else record e { frames = 0; counts = counts; read = until }

-- an interrupt without polling ends: it is raised again unless the ring is empty
abbrev pub raised_again : QueueView → QueueView
raised_again d = record d { phase = if length d.ring == 0 then d.phase else record d.phase { line = Raised } }

-- ---- a poll

-- The next packet is taken. With a backlog it is one of those moved before; if there is none, the whole ring is moved first.
abbrev pub spliced : Bool → QueueView → QueueView
spliced backlog d = if backlog && length d.taken == 0 then record d { ring = []; taken = d.ring } else d

abbrev pub next_packet : Bool → QueueView → Option ℕ
next_packet backlog d = let e = spliced backlog d in slice_get (if backlog then e.taken else e.ring) 0

abbrev pub without_next : Bool → QueueView → QueueView
without_next backlog d =
    let e = spliced backlog d in if backlog then record e { taken = drop 1 e.taken } else record e { ring = drop 1 e.ring }

-- With `gro-batch`, a poll that took so many packets takes another one if the ring has one and GRO holds all packets since it last
-- handed over a batch. It hands over each whole batch (`gro_normal_one`), and the rest at the end of the poll (`gro_normal_list`).
abbrev pub pulls : ℕ → ℕ → QueueView → Bool
pulls batch given d = length d.taken == given % batch && not (length d.ring == 0)

-- the oldest packet leaves the ring, and GRO holds it
abbrev pub holding : QueueView → QueueView
holding d = option_map_or (λ came. record d { ring = drop 1 d.ring; taken = d.taken ++ came ∷ [] }) (slice_get d.ring 0) d

-- the oldest packet that GRO holds, which is handed over
abbrev pub next_held : QueueView → Option ℕ
next_held d = slice_get d.taken 0

abbrev pub without_held : QueueView → QueueView
without_held d = record d { taken = drop 1 d.taken }

-- a packet is delivered at the time `now`; it arrived at `came`
abbrev pub queue_delivered : ℕ → ℕ → QueueView → QueueView
queue_delivered now came d =
    record d { counts = record d.counts { polled = saturated (d.counts.polled + 1) }; waits = counted (now - came) d.waits }

abbrev pub unmasked_line : Line → Line
unmasked_line Masked = Quiet
unmasked_line line = line

-- how often the interrupt may still be deferred, after a poll that processed this many packets
abbrev pub deferrals_after : ℕ → MachineSettings → QueueView → ℕ
deferrals_after given s d = if given == 0 then d.deferrals else s.defer_hard_irqs

-- the interrupt is deferred (`napi_complete_done`)
abbrev pub is_deferred : ℕ → MachineSettings → QueueView → Bool
is_deferred given s d = not (deferrals_after given s d == 0) && not (s.gro_flush_timeout == 0)

-- the completion starts the NAPI timer (`hrtimer_start`); an interrupt that a heedless driver's instance missed schedules it instead
abbrev pub starts_timer : ℕ → MachineSettings → QueueView → Bool
starts_timer given s d = is_deferred given s d && not (s.heedless && is_missed d.phase)

-- the driver of a card without causes looks into the ring when it unmasks the card, and masks it again (`virtqueue_napi_complete`)
abbrev pub finds_packets : ℕ → MachineSettings → QueueView → Bool
finds_packets given s d = s.latched == 0 && not s.heedless && not (is_deferred given s d) && not (length d.ring == 0)

-- the instance that completes is scheduled again: it missed an interrupt, or its driver finds packets
abbrev pub is_rescheduled : ℕ → MachineSettings → QueueView → Bool
is_rescheduled given s d = is_missed d.phase || finds_packets given s d

-- The card has a cause. With `latched` 2 those before the end of its last interrupt were cleared, because the handler reads ICR
-- (`e1000_intr`, `e1000_intr_msi`).
abbrev pub has_cause : MachineSettings → QueueView → Bool
has_cause s d = option_map_or (λ came. not (s.latched == 2) || nat_le d.read came) d.caused false

-- the driver unmasks the card, which asks for an interrupt if it has a cause, or, without causes, if packets are left
abbrev pub is_owed : MachineSettings → QueueView → Bool
is_owed s d = if s.latched == 0 then not (length d.ring == 0) else has_cause s d

abbrev pub unmasked_queue : QueueView → QueueView
unmasked_queue d = record d { phase = record d.phase { line = unmasked_line d.phase.line }; caused = None }

unfoldable pub armed : ℕ → MachineSettings → QueueView → QueueView
armed now s d = if is_owed s d then notified now s (unmasked_queue d) else unmasked_queue d

-- `napi_complete_done`: the instance isn't scheduled any more, unless it is scheduled again; if its interrupt is deferred, its timer starts
abbrev pub napi_completed : ℕ → ℕ → MachineSettings → QueueView → QueueView
napi_completed now given s d =
    let starts = is_deferred given s d && not (is_missed d.phase) in
    let timer = if starts then Some (saturated (now + s.gro_flush_timeout)) else d.phase.timer in
    let phase = record d.phase { state = if is_rescheduled given s d then Scheduled else Idle; timer = timer } in
    record d { deferrals = deferrals_after given s d - 1; phase = phase }

-- then the driver unmasks the card, unless the interrupt is deferred or was missed, or it finds packets; a heedless driver unmasks it
-- in any case
abbrev pub stays_masked : ℕ → MachineSettings → QueueView → Bool
stays_masked given s d = (is_deferred given s d || is_missed d.phase) && not s.heedless || finds_packets given s d

unfoldable pub queue_completed : ℕ → ℕ → MachineSettings → QueueView → QueueView
queue_completed now given s d =
    let e = napi_completed now given s d in if stays_masked given s d then e else armed now s e

-- a poll ends: after one of the whole weight the queue is polled again, otherwise it completes
unfoldable pub queue_polled : ℕ → ℕ → MachineSettings → QueueView → QueueView
queue_polled now given s d =
    let e = record d { counts = record d.counts { polls = saturated (d.counts.polls + 1) } } in
    if given == s.weight then e else queue_completed now given s e
