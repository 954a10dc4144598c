-- A device with its card, the thread that drives it, and packets that arrive. The thread takes three steps: `Driver::next` says
-- what to do, the thread does it, and reports it. Between any two of them, packets may arrive, the card may interrupt, and the
-- device may be opened and stopped; and the thread may forget what it was about to do, done or not, and call `next` again. A
-- report under a number that isn't due changes nothing, so it is no event. A thread that has taken packets may also unmask the card, and
-- then look at it, before it reports the fetch, which it must not forget then. The device has a timer, whose expiry may be reported at any
-- time, also if it isn't set any more.
use Rattle.std.specs.Prelude.{◌≡◌, ◌⊎◌, ◌||◌, ℕ, ◌+◌, ◌-◌, zero, suc, Bool, true, false, not, List, [], ◌∷◌, if◌then◌else◌}
use Rattle.driver_core.specs.Device.{in_stage, after_interrupt, after_look, masked, after_open, after_driver_poll, after_stop, unmasked}
use Rattle.driver_core.specs.Device.{after_timer, timer_set}
use Rattle.driver_core.specs.declared.device.{DriverDevice.DriverDevice, Rearm.TheVariants.{No, Empty, More}}
use Rattle.driver_core.specs.declared.device.Stage.{Stage, TheVariants.{Closed, Masking, Closing, Listed, Unmasking, Looking, Armed}}
use Rattle.driver_core.specs.declared.device.Stage.TheVariants.{Deferring, Deferred}

-- What the thread is doing: nothing; or what `next` asked for, done or not, and not reported yet.
pub data Hand : Type 0 where
  free : Hand
  to_mask : Hand
  to_unmask : Hand
  to_look : Hand
  to_fetch : Hand
  to_set_timer : Hand
  did_mask : Hand
  did_unmask : Hand
  -- it looked at the card, which had packets or had none
  saw : Bool → Hand
  did_set_timer : Hand
  -- It took packets from the card: whether its instance stays scheduled after that, and whether the interrupt is deferred if it
  -- doesn't.
  took : Bool → Bool → Hand
  -- it took packets, and unmasked the card
  rearming : Hand
  -- it looked at the card then, which had none, or had packets
  rearmed_empty : Hand
  rearmed_more : Hand
  -- a turn asked for a fetch that masks the card first
  to_mask_first : Hand

pub record World : Type 0 where
  pub device : DriverDevice
  pub hand : Hand
  -- The card: whether its interrupt is masked, whether it has raised an interrupt that isn't reported yet, and how many packets
  -- it has.
  pub masked : Bool
  pub interrupting : Bool
  pub packets : ℕ
  -- whether the device's timer is set, or has expired and that isn't reported yet
  pub timer : Bool

pub data DriverEvent : Type 0 where
  -- a packet arrives; the card interrupts unless it is masked
  arrives : DriverEvent
  -- an interrupt is reported to the driver
  interrupts : DriverEvent
  -- the thread calls `next`
  says : DriverEvent
  -- the thread calls `turn`, which joins the mask to its fetch
  joins : DriverEvent
  -- the expiry of the timer is reported to the driver
  expires : DriverEvent
  -- the thread does what `next` asked for; a fetch takes this many packets, and the flags are those of `took`
  acts : ℕ → Bool → Bool → DriverEvent
  -- after a fetch the thread also unmasks the card; then it looks at it
  rearms : DriverEvent
  -- the thread reports it
  reports : DriverEvent
  -- the thread calls `next` again, without a report
  forgets : DriverEvent
  opens : DriverEvent
  stops : DriverEvent

abbrev pub said_at : Stage → Hand
said_at Closed = free
said_at (Masking stopping) = to_mask
said_at Closing = to_mask
said_at (Listed stopping) = to_fetch
said_at Unmasking = to_unmask
said_at Looking = to_look
said_at Armed = free
said_at Deferring = to_set_timer
said_at Deferred = free

abbrev pub says_by : Hand → Stage → Hand
says_by free stage = said_at stage
says_by hand stage = hand

-- a mask is joined to its fetch: the device is listed at once
abbrev pub joins_by : Hand → Stage → Hand
joins_by free (Masking stopping) = to_mask_first
joins_by hand stage = hand

abbrev pub joined_at : Hand → Stage → Stage
joined_at free (Masking stopping) = Listed stopping
joined_at hand stage = stage

abbrev pub has_any : ℕ → Bool
has_any zero = false
has_any (suc n) = true

abbrev pub hand_after : ℕ → Bool → Bool → Hand → Hand
hand_after packets stays defers to_mask = did_mask
hand_after packets stays defers to_unmask = did_unmask
hand_after packets stays defers to_look = saw (has_any packets)
hand_after packets stays defers to_fetch = took stays defers
hand_after packets stays defers to_set_timer = did_set_timer
hand_after packets stays defers to_mask_first = to_fetch
hand_after packets stays defers hand = hand

abbrev pub rearm_hand : ℕ → Hand → Hand
rearm_hand packets (took stays defers) = rearming
rearm_hand zero rearming = rearmed_empty
rearm_hand (suc n) rearming = rearmed_more
rearm_hand packets hand = hand

abbrev pub rearm_mask : Hand → Bool → Bool
rearm_mask (took stays defers) masked = false
rearm_mask hand masked = masked

abbrev pub forgotten : Hand → Hand
forgotten rearming = rearming
forgotten rearmed_empty = rearmed_empty
forgotten rearmed_more = rearmed_more
forgotten to_mask_first = to_mask_first
forgotten hand = free

abbrev pub masked_after : Hand → Bool → Bool
masked_after to_mask masked = true
masked_after to_unmask masked = false
masked_after to_mask_first masked = true
masked_after hand masked = masked

abbrev pub timer_after : Hand → Bool → Bool
timer_after to_set_timer timer = true
timer_after hand timer = timer

abbrev pub packets_after : ℕ → Hand → ℕ → ℕ
packets_after taken to_fetch packets = packets - taken
packets_after taken hand packets = packets

abbrev pub reported_hand : Hand → Hand
reported_hand did_mask = free
reported_hand did_unmask = free
reported_hand did_set_timer = free
reported_hand (saw more) = free
reported_hand (took stays defers) = free
reported_hand rearmed_empty = free
reported_hand rearmed_more = free
reported_hand hand = hand

abbrev pub after_message : Hand → DriverDevice → DriverDevice
after_message did_mask d = masked d
after_message did_unmask d = unmasked d
after_message (saw more) d = after_look more d
after_message did_set_timer d = timer_set d
after_message (took stays defers) d = (after_driver_poll stays defers No d).0
after_message rearmed_empty d = (after_driver_poll false false Empty d).0
after_message rearmed_more d = (after_driver_poll false false More d).0
after_message hand d = d

abbrev pub world_step : DriverEvent → World → World
world_step arrives w = record w { packets = w.packets + 1; interrupting = w.interrupting || not w.masked }
world_step interrupts w = record w { device = (if w.interrupting then after_interrupt w.device else w.device); interrupting = false }
world_step says w = record w { hand = says_by w.hand w.device.stage }
world_step joins w = record w {
  hand = joins_by w.hand w.device.stage;
  device = in_stage (joined_at w.hand w.device.stage) w.device.missed;
}
world_step expires w = record w { device = after_timer w.device; timer = false }
world_step (acts taken stays defers) w = record w {
  hand = hand_after w.packets stays defers w.hand;
  masked = masked_after w.hand w.masked;
  packets = packets_after taken w.hand w.packets;
  timer = timer_after w.hand w.timer;
}
world_step reports w = record w { hand = reported_hand w.hand; device = after_message w.hand w.device }
world_step rearms w = record w { hand = rearm_hand w.packets w.hand; masked = rearm_mask w.hand w.masked }
world_step forgets w = record w { hand = forgotten w.hand }
world_step opens w = record w { device = after_open w.device }
world_step stops w = record w { device = after_stop w.device }

abbrev pub world_after : List DriverEvent → World → World
world_after [] w = w
world_after (e ∷ es) w = world_after es (world_step e w)

-- a new device: its card is masked, and may have packets
abbrev pub new_world : ℕ → World
new_world packets = record {
  device = in_stage Closed false;
  hand = free;
  masked = true;
  interrupting = false;
  packets = packets;
  timer = false;
}

-- the card of an open device at rest is unmasked, and has no packets or has an interrupt that isn't reported yet; the card of a
-- closed device is masked; that of a device with a deferred interrupt is masked too, and its timer is set
abbrev pub IsWatched : Stage → World → Type 0
IsWatched Armed w = (w.masked ≡ false) × ((w.packets ≡ 0) ⊎ (w.interrupting ≡ true))
IsWatched Closed w = w.masked ≡ true
IsWatched Deferred w = (w.masked ≡ true) × (w.timer ≡ true)
IsWatched stage w = Unit {0}

-- law: after any events in any order, no packet waits without an interrupt while its device is at rest
abbrev pub NoPacketWaitsUnseen : Type 0
NoPacketWaitsUnseen =
    (packets : ℕ) (events : List DriverEvent) → (world_after events (new_world packets)).hand ≡ free
    → IsWatched (world_after events (new_world packets)).device.stage (world_after events (new_world packets))

-- law: while a device is listed, or closed, its card is masked, unless a fetch has unmasked it and isn't reported yet
abbrev pub IsMaskedWhileListed : Hand → Stage → World → Type 0
IsMaskedWhileListed rearming (Listed stopping) w = Unit {0}
IsMaskedWhileListed rearmed_empty (Listed stopping) w = Unit {0}
IsMaskedWhileListed rearmed_more (Listed stopping) w = Unit {0}
IsMaskedWhileListed to_mask_first (Listed stopping) w = Unit {0}
IsMaskedWhileListed hand (Listed stopping) w = w.masked ≡ true
IsMaskedWhileListed hand Closed w = w.masked ≡ true
IsMaskedWhileListed hand stage w = Unit {0}

abbrev pub ListedIsMasked : Type 0
ListedIsMasked =
    (packets : ℕ) (events : List DriverEvent)
    → IsMaskedWhileListed (world_after events (new_world packets)).hand (world_after events (new_world packets)).device.stage
    (world_after events (new_world packets))
