-- What has to be shown of a queue after a change, case by case.
use Rattle.std.proofs.{Common.{◌≡◌, ℕ, ◌+◌, Bool, true, false, Option, Some, None, List, [], ◌∷◌, ◌++◌, drop, length, refl, arith}}
use Rattle.std.{proofs.lemmas.Grind.common_steps, specs.{Option.option_map_or, Prelude.{◌==◌, if◌then◌else◌, slice_get}}}
use Rattle.machine_model.specs.Device.{QueueView, after_packet, armed, handled, has_room, interrupted, is_fired, is_owed, is_silent}
use Rattle.machine_model.specs.Device.{latched_cause, napi_completed, notified, queue_completed, queue_polled, stays_masked, unmasked_queue}
use Rattle.machine_model.specs.{Device.{holding, without_next}, Waits.saturated, declared.settings.MachineSettings.MachineSettings}

-- its interrupt is handled: that of the NAPI timer, or that of the card
pub interrupted-by : (Q : QueueView → Type 0) (until : ℕ) (polling : Bool) (d : QueueView)
    → (is_fired d.phase ≡ true → Q (record d { phase = handled polling d.phase }))
    → (is_fired d.phase ≡ false → Q (record d {
      phase = handled polling d.phase;
      frames = 0;
      counts = record d.counts { interrupts = saturated (d.counts.interrupts + 1) };
      read = until;
    }))
    → Q (interrupted until polling d)
unfolding interrupted
interrupted-by Q until polling d h1 h2 = grind (arith, common_steps)

-- a packet arrives for it: the ring is full, or the packet only sets a cause, or the card asks for an interrupt
pub packet-by : (Q : Bool → QueueView → Type 0) (moment : ℕ) (s : MachineSettings) (d : QueueView)
    → (let e : QueueView = record d { counts = record d.counts { arrived = saturated (d.counts.arrived + 1) } } in
    let f : QueueView = record e { ring = d.ring ++ moment ∷ [] } in
    Q false (record e { counts = record e.counts { dropped = saturated (d.counts.dropped + 1) } })
    × (is_silent s d.phase ≡ true → Q true (record f { caused = latched_cause moment s d }))
    × (is_silent s d.phase ≡ false → Q true (notified moment s f)))
    → Q (has_room d) (after_packet moment s d)
unfolding after_packet
packet-by Q moment s d h1 = grind (arith, common_steps)

-- the driver unmasks its card, which asks for an interrupt or doesn't
pub armed-by : (Q : QueueView → Type 0) (now : ℕ) (s : MachineSettings) (d : QueueView)
    → (is_owed s d ≡ true → Q (notified now s (unmasked_queue d))) → (is_owed s d ≡ false → Q (unmasked_queue d)) → Q (armed now s d)
unfolding armed
armed-by Q now s d h1 h2 = grind (arith, common_steps)

-- it completes: its card stays masked, or is unmasked
pub completed-by : (Q : QueueView → Type 0) (now given : ℕ) (s : MachineSettings) (d : QueueView)
    → (stays_masked given s d ≡ true → Q (napi_completed now given s d))
    → (stays_masked given s d ≡ false → Q (armed now s (napi_completed now given s d))) → Q (queue_completed now given s d)
unfolding queue_completed
completed-by Q now given s d h1 h2 = grind (arith, common_steps)

-- its poll ends: after the whole weight it is polled again, otherwise it completes, and its card stays masked or is unmasked
pub poll-by : (Q : QueueView → Type 0) (now given : ℕ) (s : MachineSettings) (d : QueueView)
    → (let e : QueueView = record d { counts = record d.counts { polls = saturated (d.counts.polls + 1) } } in
    let f : QueueView = napi_completed now given s e in
    ((given == s.weight) ≡ true → Q e) × (stays_masked given s d ≡ true → Q f) × (stays_masked given s d ≡ false → Q (armed now s f)))
    → Q (queue_polled now given s d)
unfolding queue_polled
poll-by Q now given s d each = by (given == s.weight) refl
  where
    e : QueueView
    e = record d { counts = record d.counts { polls = saturated (d.counts.polls + 1) } }

    by : (full : Bool) → (given == s.weight) ≡ full → Q (if full then e else queue_completed now given s e)
    by true is = each.0 is
    by false is = completed-by Q now given s e each.1 each.2

-- its next packet is taken, or GRO holds it: only the packets change
pub next-by : (Q : QueueView → Type 0) (backlog : Bool) (d : QueueView)
    → ((ring taken : List ℕ) → Q (record d { ring = ring; taken = taken })) → Q (without_next backlog d)
next-by Q false d same = same (drop 1 d.ring) d.taken
next-by Q true d same = by (length d.taken == 0)
  where
    by : (none : Bool) → Q (let e = if none then record d { ring = []; taken = d.ring } else d in record e { taken = drop 1 e.taken })
    by true = same [] (drop 1 d.ring)
    by false = same d.ring (drop 1 d.taken)

pub holding-by : (Q : QueueView → Type 0) (d : QueueView) → ((ring taken : List ℕ) → Q (record d { ring = ring; taken = taken }))
    → Q (holding d)
holding-by Q d same = by (slice_get d.ring 0)
  where
    by : (first : Option ℕ) → Q (option_map_or (λ came. record d { ring = drop 1 d.ring; taken = d.taken ++ came ∷ [] }) first d)
    by None = same d.ring d.taken
    by (Some came) = same (drop 1 d.ring) (d.taken ++ came ∷ [])
