-- Law: a card asks for consecutive interrupts at times that are at least `rx-gap` apart.
use Rattle.std.proofs.{Common.{◌≡◌, ◌∙◌, ℕ, ◌+◌, ◌-◌, ◌<◌, ◌≤◌, ◌^◌, Bool, true, false, Option, Some, None, List, [], ◌∷◌, ◌++◌, refl}}
use Rattle.std.proofs.{Common.arith, lemmas.{Bool.{leb-false, leb-true, or_parts}, Grind.common_steps}}
use Rattle.std.specs.Prelude.{◌==◌, ◌&&◌, if◌then◌else◌, nat_le, nat_lt, not, slice_get, unwrap_or}
use Rattle.device_places.specs.Places.{at, changed}
use Rattle.machine_model.proofs.QueueFacts.{armed-by, holding-by, interrupted-by, next-by, packet-by, poll-by}
use Rattle.machine_model.proofs.TableFacts.{at-either, at-keeps, at-same, map_at}
use Rattle.machine_model.specs.Device.{QueueView, after_packet, armed, asks, coalesced, expired, gap_end, interrupted, is_fired}
use Rattle.machine_model.specs.Device.{is_masked, is_masked_line, is_raised, napi_completed, notified, queue_delivered, queue_polled}
use Rattle.machine_model.specs.{Device.{unmasked_line, unmasked_queue}, Devices.asks_at}
use Rattle.machine_model.specs.{Processor.{ProcessorView, is_polling, step, upcoming}, Waits.saturated}
use Rattle.machine_model.specs.declared.device.{Line.{Line, TheVariants.{Coalescing, Masked, Raised}}, Phase.Phase}
use Rattle.machine_model.specs.declared.settings.MachineSettings.{MachineSettings}
use Rattle.machine.proofs.{FateFacts.{at-arrived, made_at}, WorkFacts.{goes-on, same-polling}}
use Rattle.machine.proofs.MoveFacts.{Change, Delivered, Event, Move, arrival-of, changes, event-of, expires, hands, holds, interrupts}
use Rattle.machine.proofs.MoveFacts.{leaves, misses, passes, polled, raises, takes, takes_oldest}
use Rattle.machine.specs.{Gaps.{AreApart, InterruptsAreApart, interrupt_times, interrupts_at, new_interrupt}, Lives.{MachineEvent, behind}}
use Rattle.machine.specs.Lives.{next, packet}

-- ---- a queue

-- the card waits only for the end of its gap
abbrev pub Waits : ℕ → ℕ → Line → Type 0
Waits gap asked (Coalescing until) = saturated (asked + gap) ≡ until
Waits gap asked line = Unit {0}

abbrev pub is_asking : Line → Bool
is_asking Raised = true
is_asking (Coalescing until) = true
is_asking line = false

-- the card asked for its last interrupt at this time, and for one that is raised a gap later
abbrev pub Later : ℕ → Option ℕ → ℕ → Line → Type 0
Later gap None asked line = Unit {0}
Later gap (Some last) asked line = asked < 2 ^ 64 - 1 → (last ≤ asked) × (is_raised line ≡ true → last + gap ≤ asked)

abbrev pub Spaced : ℕ → Option ℕ → Option ℕ → Line → Type 0
Spaced gap last None line = (last ≡ None) × (is_asking line ≡ false)
Spaced gap last (Some asked) line = Later gap last asked line × Waits gap asked line

-- the queue had so many interrupts
abbrev pub Calm : ℕ → Option ℕ → ℕ → QueueView → Type 0
Calm gap last count d = (d.counts.interrupts ≡ count) × Spaced gap last d.asserted d.phase.line

abbrev pub CalmAt : ℕ → Option ℕ → ℕ → Option QueueView → Type 0
CalmAt gap last count None = (0 ≡ count) × (last ≡ None)
CalmAt gap last count (Some d) = Calm gap last count d

-- the card asks for an interrupt now or later
notified-line : (gap moment : ℕ) (last asserted : Option ℕ) (line : Line) (now : Bool)
    → (now ≡ true → gap_end gap asserted ≤ moment) → (now ≡ false → moment < gap_end gap asserted)
    → is_masked_line line ≡ false → Spaced gap last asserted line
    → Spaced gap last (if now && not (is_raised line) then Some moment else asserted)
    (if now then Raised else coalesced (gap_end gap asserted) line)
notified-line gap moment last asserted line now h1 h2 h3 h4 = grind (arith, common_steps)

notified-calm : (moment count : ℕ) (last : Option ℕ) (s : MachineSettings) (d : QueueView) → (s.rx_gap == 0) ≡ false
    → is_masked_line d.phase.line ≡ false
    → Calm s.rx_gap last count d → Calm s.rx_gap last count (notified moment s d)
unfolding notified
notified-calm moment count last s d some clear c = (
  c.0,
  rw some (notified-line s.rx_gap moment last d.asserted d.phase.line (nat_le (gap_end s.rx_gap d.asserted) moment)
      (leb-true (gap_end s.rx_gap d.asserted) moment) (leb-false (gap_end s.rx_gap d.asserted) moment) clear c.1),
)

packet-calm : (moment count : ℕ) (last : Option ℕ) (s : MachineSettings) (d : QueueView) → (s.rx_gap == 0) ≡ false
    → Calm s.rx_gap last count d → Calm s.rx_gap last count (after_packet moment s d)
packet-calm moment count last s d some c =
    let e = record d { counts = record d.counts { arrived = saturated (d.counts.arrived + 1) }; ring = d.ring ++ moment ∷ [] } in
    packet-by (λ room r. Calm s.rx_gap last count r) moment s d (
      c,
      λ silent. c,
      λ clear. notified-calm moment count last s e some ((or_parts (is_masked d.phase) _ clear).0) c,
    )

expired-calm : (gap count : ℕ) (last : Option ℕ) (d : QueueView) → Calm gap last count d → Calm gap last count (expired d)
expired-calm gap count last d c = grind (arith, common_steps)

unmasked-calm : (gap : ℕ) (last asserted : Option ℕ) (line : Line) → Spaced gap last asserted line
    → Spaced gap last asserted (unmasked_line line) × (is_masked_line (unmasked_line line) ≡ false)
unmasked-calm gap last asserted line h1 = grind (arith, common_steps)

armed-calm : (now count : ℕ) (last : Option ℕ) (s : MachineSettings) (d : QueueView) → (s.rx_gap == 0) ≡ false
    → Calm s.rx_gap last count d → Calm s.rx_gap last count (armed now s d)
armed-calm now count last s d some c =
    let u = unmasked-calm s.rx_gap last d.asserted d.phase.line c.1 in
    armed-by (Calm s.rx_gap last count) now s d (λ owed. notified-calm now count last s (unmasked_queue d) some u.1 (c.0, u.0))
    (λ free. (c.0, u.0))

polled-calm : (now given count : ℕ) (last : Option ℕ) (s : MachineSettings) (d : QueueView) → (s.rx_gap == 0) ≡ false
    → Calm s.rx_gap last count d → Calm s.rx_gap last count (queue_polled now given s d)
polled-calm now given count last s d some c =
    let e : QueueView = record d { counts = record d.counts { polls = saturated (d.counts.polls + 1) } } in
    poll-by (Calm s.rx_gap last count) now given s d
    (λ full. c, λ masked. c, λ free. armed-calm now count last s (napi_completed now given s e) some c)

-- ---- the moves of an event, up to an interrupt

abbrev pub IsCalm : MachineSettings → ℕ → Option ℕ → ℕ → ProcessorView → Type 0
IsCalm s n last count p = (p.settings ≡ s) × CalmAt s.rx_gap last count (at n p.devices)

module _ (s : MachineSettings) (n : ℕ) (last : Option ℕ) (count : ℕ) (some : (s.rx_gap == 0) ≡ false) (polling : is_polling s ≡ true)
    (plain : s.early ≡ 0)
  where
    calm-map : (f : QueueView → QueueView) → ((d : QueueView) → Calm s.rx_gap last count d → Calm s.rx_gap last count (f d))
        → (m : ℕ) (p : ProcessorView) → CalmAt s.rx_gap last count (at n p.devices)
        → CalmAt s.rx_gap last count (at n (changed f m p.devices))
    unfolding map_at
    calm-map f keeps m p = at-keeps (CalmAt s.rx_gap last count) f m n p.devices (λ here. by (at n p.devices))
      where
        by : (o : Option QueueView) → CalmAt s.rx_gap last count o → CalmAt s.rx_gap last count (map_at f o)
        by None c = c
        by (Some d) c = keeps d c

    calm-change : (now : ℕ) (o : Option QueueView) (f : QueueView → QueueView) (out : Option ℕ) → Change s now o false f out
        → (d : QueueView) → Calm s.rx_gap last count d → Calm s.rx_gap last count (f d)
    calm-change now o f out expires d c = expired-calm s.rx_gap count last d c
    calm-change now o f out (raises lone) d c = absurd (cc (polling, lone))
    calm-change now o f out (takes first polls single is) d c = next-by (Calm s.rx_gap last count) s.backlog d (λ ring taken. c)
    calm-change now o f out (takes_oldest first lone is) d c = absurd (cc (polling, lone))
    calm-change now o f out (holds polls batch) d c = holding-by (Calm s.rx_gap last count) d (λ ring taken. c)
    calm-change now o f out (hands first is) d c = c
    calm-change now o f out (polled given) d c = polled-calm now given count last s d some c
    calm-change now o f out (misses early) d c = absurd (cc (rw plain at early))

    calm-move : (gives : Option (ℕ × ℕ)) (p q : ProcessorView) → Move p false q → IsCalm s n last count p → IsCalm s n last count q
    calm-move gives p q (passes r settings devices hand) c = (settings ∙ c.0, rw devices c.1)
    calm-move gives p q (changes m f out r change settings devices hand) c =
        (settings ∙ c.0, rw devices (calm-map f (calm-change p.clock (at m p.devices) f out (rw c.0 at change)) m p c.1))

    calm-delivered : (now m came : ℕ) (p q : ProcessorView) → Delivered now m came p q → IsCalm s n last count p → IsCalm s n last count q
    calm-delivered now m came p q h c =
        (h.settings ∙ c.0, rw h.devices (calm-map (queue_delivered now came) (λ d k. k) m p c.1))

-- ---- an interrupt

pub record Follow (gap : ℕ) (times : List ℕ) (o : Option QueueView) : Type 0 where
  pub now : CalmAt gap (slice_get times 0) (interrupts_at o) o
  pub apart : AreApart gap times

-- no interrupt came
quiet-follows : (gap : ℕ) (times : List ℕ) (before o : Option QueueView) → CalmAt gap (slice_get times 0) (interrupts_at before) o
    → AreApart gap times
    → Follow gap (new_interrupt before o ++ times) o
quiet-follows gap times before o h1 h2 = grind (arith, common_steps)

-- the interrupt of the card is the next one in the list, if it is counted
card-spaced : (gap : ℕ) (times : List ℕ) (asserted : Option ℕ) (line : Line) (counted : Bool) → is_raised line ≡ true
    → Spaced gap (slice_get times 0) asserted line → AreApart gap times
    → (let more = (if counted then unwrap_or asserted 0 ∷ [] else []) ++ times in
    Spaced gap (slice_get more 0) asserted Masked × AreApart gap more)
card-spaced gap times asserted line counted h1 h2 h3 = grind (arith, common_steps)

raised-is : (phase : Phase) → asks phase ≡ true → is_fired phase ≡ false → is_raised phase.line ≡ true
raised-is phase asked calm = grind (arith, common_steps)

interrupted-follows : (gap until : ℕ) (times : List ℕ) (before : Option QueueView) (d : QueueView) → asks d.phase ≡ true
    → Calm gap (slice_get times 0) (interrupts_at before) d → AreApart gap times
    → Follow gap (new_interrupt before (Some (interrupted until true d)) ++ times) (Some (interrupted until true d))
interrupted-follows gap until times before d asked c apart =
    interrupted-by (λ e. Follow gap (new_interrupt before (Some e) ++ times) (Some e)) until true d
    (λ fired. quiet-follows gap times before _ (rw fired c) apart)
    (λ calm.
    let new = card-spaced gap times d.asserted d.phase.line (nat_lt (interrupts_at before) (saturated (d.counts.interrupts + 1)))
    (raised-is d.phase asked calm) c.1 apart in
    record { now = (refl, rw calm new.0); apart = new.1 })

last-follows : (s : MachineSettings) (n : ℕ) (times : List ℕ) (before : Option QueueView) (p q : ProcessorView) → is_polling s ≡ true
    → Move p true q → IsCalm s n (slice_get times 0) (interrupts_at before) p → AreApart s.rx_gap times
    → Follow s.rx_gap (new_interrupt before (at n q.devices) ++ times) (at n q.devices)
unfolding map_at
last-follows s n times before p q polling (passes r settings devices hand) c apart =
    rw devices (quiet-follows s.rx_gap times before (at n p.devices) c.1 apart)
last-follows s n times before p q polling (changes m f out r (interrupts until asks) settings devices hand) c apart =
    rw (devices, same-polling s p c.0, polling) (at-either (λ b o. Follow s.rx_gap (new_interrupt before o ++ times) o)
    (interrupted until true) m n p.devices
    (λ here. by (at n p.devices) (at-same (λ o. asks_at o ≡ true) m n p.devices here asks) c.1)
    (λ other. quiet-follows s.rx_gap times before (at n p.devices) c.1 apart))
  where
    by : (o : Option QueueView) → asks_at o ≡ true → CalmAt s.rx_gap (slice_get times 0) (interrupts_at before) o
        → let e = map_at (interrupted until true) o in
        Follow s.rx_gap (new_interrupt before e ++ times) e
    by None asked calm = cc asked
    by (Some d) asked calm = interrupted-follows s.rx_gap until times before d asked calm apart

-- ---- over a processor's life

module _ (s : MachineSettings) (n : ℕ) (polling : is_polling s ≡ true) (plain : s.early ≡ 0) (some : (s.rx_gap == 0) ≡ false) where
  event-follows : (now : ℕ) (times : List ℕ) (before : Option QueueView) (p : ProcessorView) (gives : Option (ℕ × ℕ)) (q : ProcessorView)
      → Event now p gives q → p.settings ≡ s → CalmAt s.rx_gap (slice_get times 0) (interrupts_at before) (at n p.devices)
      → AreApart s.rx_gap times
      → Follow s.rx_gap (new_interrupt before (at n q.devices) ++ times) (at n q.devices)
  event-follows now times before p gives q e settings calm apart =
      let last = slice_get times 0 in
      let count = interrupts_at before in
      last-follows s n times before e.late q polling e.last (leaves now (λ g r. IsCalm s n last count r)
      (calm-delivered s n last count some polling plain now) (calm-move s n last count some polling plain) p gives e.late e.moves
      (settings, calm)) apart

  follow-on : (events : List MachineEvent) → Follow s.rx_gap (interrupt_times n s events) (at n (behind s events).devices)
  unfolding behind step interrupt_times made_at
  follow-on [] = record { now = (refl, refl); apart = tt }
  follow-on (packet moment m ∷ earlier) =
      let p = behind s earlier in
      let goes = goes-on s earlier in
      let f = follow-on earlier in
      let o = at n p.devices in
      let times = interrupt_times n s earlier in
      event-follows moment times o _ None _ (arrival-of s moment m p goes) goes.rests.settings
      (at-arrived (λ b e. CalmAt s.rx_gap (slice_get times 0) (interrupts_at o) e) moment m n p (λ here. rw goes.rests.settings
      (packet-calm moment (interrupts_at o) (slice_get times 0) s (made_at s.ring o) some (made times o f.now))) (λ other. f.now)) f.apart
    where
      made : (times : List ℕ) (o : Option QueueView) → CalmAt s.rx_gap (slice_get times 0) (interrupts_at o) o
          → Calm s.rx_gap (slice_get times 0) (interrupts_at o) (made_at s.ring o)
      made times None c = (refl, (c.1, refl))
      made times (Some d) c = c
  follow-on (next ∷ earlier) =
      let p = behind s earlier in
      let goes = goes-on s earlier in
      let f = follow-on earlier in
      event-follows p.ends (interrupt_times n s earlier) (at n p.devices) p _ _ (event-of s (upcoming p) p goes) goes.rests.settings f.now
      f.apart

pub interrupts-are-apart : InterruptsAreApart
interrupts-are-apart s n events polling plain gap = (follow-on s n polling plain (grind (arith, common_steps)) events).apart
