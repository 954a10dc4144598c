-- An invariant of a device and its card: it holds after any events in any order.
use Rattle.std.proofs.Common.{◌≡◌, ◌⊎◌, inl, inr, ℕ, ◌+◌, zero, suc, Bool, true, false, cond, List, [], ◌∷◌, refl, subst}
use Rattle.std.specs.Prelude.{◌||◌, not}
use Rattle.driver_core.specs.Device.{in_stage, completed_at, after_interrupt, after_open, after_poll_at, after_stop, rearmed_at}
use Rattle.driver_core.specs.Device.{after_timer}
use Rattle.driver_core.specs.World.{Hand, World, DriverEvent, free, to_mask, to_unmask, to_look, to_fetch, did_mask, did_unmask, saw, took}
use Rattle.driver_core.specs.World.{did_set_timer, rearming, rearmed_empty, rearmed_more, to_set_timer, to_mask_first, joins}
use Rattle.driver_core.specs.World.{joins_by, joined_at}
use Rattle.driver_core.specs.World.{arrives, expires, interrupts, says, acts, reports}
use Rattle.driver_core.specs.World.{forgets, opens, rearms, stops, world_step, world_after}
use Rattle.driver_core.specs.World.{new_world}
use Rattle.driver_core.specs.World.{says_by, hand_after, masked_after, packets_after, timer_after, reported_hand, after_message, IsWatched}
use Rattle.driver_core.specs.World.{forgotten, rearm_hand, rearm_mask}
use Rattle.driver_core.specs.World.{NoPacketWaitsUnseen, IsMaskedWhileListed, ListedIsMasked}
use Rattle.driver_core.specs.declared.device.DriverDevice.{DriverDevice}
use Rattle.driver_core.specs.declared.device.{Stage.{Stage, TheVariants.{Closed, Masking, Closing, Listed, Unmasking, Looking, Armed}}}
use Rattle.driver_core.specs.declared.device.Stage.TheVariants.{Deferring, Deferred}

abbrev Quiet : Bool → ℕ → Type 0
Quiet interrupting packets = (packets ≡ 0) ⊎ (interrupting ≡ true)

-- the invariant, for each stage of the device and each thing that the thread may be doing
abbrev Good : Hand → Stage → Bool → Bool → Bool → Bool → ℕ → Type 0
Good free Closed x m i t p = m ≡ true
Good free (Listed s) x m i t p = m ≡ true
Good free Looking x m i t p = m ≡ false
Good free Armed x m i t p = (m ≡ false) × Quiet i p
Good free Deferring x m i t p = m ≡ true
Good free Deferred x m i t p = (m ≡ true) × (t ≡ true)
Good free stage x m i t p = Unit {0}
Good to_mask (Masking s) x m i t p = Unit {0}
Good to_mask Closing x m i t p = Unit {0}
Good to_mask stage x m i t p = ⊥
Good did_mask (Masking s) x m i t p = m ≡ true
Good did_mask Closing x m i t p = m ≡ true
Good did_mask stage x m i t p = ⊥
Good to_unmask Unmasking x m i t p = Unit {0}
Good to_unmask (Masking s) x m i t p = Unit {0}
Good to_unmask Closing x m i t p = Unit {0}
Good to_unmask stage x m i t p = ⊥
Good did_unmask Unmasking x m i t p = m ≡ false
Good did_unmask (Masking s) x m i t p = Unit {0}
Good did_unmask Closing x m i t p = Unit {0}
Good did_unmask stage x m i t p = ⊥
Good to_look Looking x m i t p = m ≡ false
Good to_look (Masking s) x m i t p = Unit {0}
Good to_look Closing x m i t p = Unit {0}
Good to_look stage x m i t p = ⊥
Good (saw true) Looking x m i t p = m ≡ false
Good (saw false) Looking x m i t p = (m ≡ false) × Quiet i p
Good (saw more) (Masking s) x m i t p = Unit {0}
Good (saw more) Closing x m i t p = Unit {0}
Good (saw more) stage x m i t p = ⊥
Good to_set_timer Deferring x m i t p = m ≡ true
Good to_set_timer (Listed s) x m i t p = m ≡ true
Good to_set_timer (Masking s) x m i t p = Unit {0}
Good to_set_timer Closing x m i t p = Unit {0}
Good to_set_timer stage x m i t p = ⊥
Good did_set_timer Deferring x m i t p = (m ≡ true) × (t ≡ true)
Good did_set_timer (Listed s) x m i t p = m ≡ true
Good did_set_timer (Masking s) x m i t p = Unit {0}
Good did_set_timer Closing x m i t p = Unit {0}
Good did_set_timer stage x m i t p = ⊥
Good to_fetch (Listed s) x m i t p = m ≡ true
Good to_fetch stage x m i t p = ⊥
Good (took stays defers) (Listed s) x m i t p = m ≡ true
Good (took stays defers) stage x m i t p = ⊥
Good rearming (Listed s) x m i t p = m ≡ false
Good rearming stage x m i t p = ⊥
Good rearmed_more (Listed s) x m i t p = m ≡ false
Good rearmed_more stage x m i t p = ⊥
Good rearmed_empty (Listed true) x m i t p = m ≡ false
Good rearmed_empty (Listed false) x m i t p = (m ≡ false) × (Quiet i p ⊎ (x ≡ true))
Good rearmed_empty stage x m i t p = ⊥
Good to_mask_first (Listed s) x m i t p = Unit {0}
Good to_mask_first stage x m i t p = ⊥

abbrev GoodAt : Hand → DriverDevice → Bool → Bool → Bool → ℕ → Type 0
GoodAt hand d m i t p = Good hand d.stage d.missed m i t p

abbrev pub IsGood : World → Type 0
IsGood w = GoodAt w.hand w.device w.masked w.interrupting w.timer w.packets

or-unmasked : (m i : Bool) → m ≡ false → (i || not m) ≡ true
or-unmasked true true h = refl
or-unmasked false true h = refl
or-unmasked false false h = refl
or-unmasked true false h = absurd (cc h)

arrived : (hand : Hand) (stage : Stage) (x m i t : Bool) (p : ℕ) → Good hand stage x m i t p → Good hand stage x m (i || not m) t (p + 1)
arrived free Armed x m i t p h = (h.0, inr (or-unmasked m i h.0))
arrived (saw false) Looking x m i t p h = (h.0, inr (or-unmasked m i h.0))
arrived (saw true) Looking x m i t p h = h
arrived rearmed_empty (Listed false) x m i t p h = (h.0, inl (inr (or-unmasked m i h.0)))
arrived hand Armed x m i t p h = h
arrived hand stage x m i t p h = h

interrupted-by : (hand : Hand) (stage : Stage) (missed m i t : Bool) (p : ℕ) → Good hand stage missed m i t p
    → GoodAt hand (cond i (after_interrupt (in_stage stage missed)) (in_stage stage missed)) m false t p
interrupted-by hand stage missed m false t p h = h
interrupted-by free Unmasking missed m true t p h = tt
interrupted-by free Looking missed m true t p h = tt
interrupted-by free Armed missed m true t p h = tt
interrupted-by free Deferring missed m true t p h = tt
interrupted-by free Deferred missed m true t p h = tt
interrupted-by to_set_timer Deferring missed m true t p h = tt
interrupted-by did_set_timer Deferring missed m true t p h = tt
interrupted-by to_unmask Unmasking missed m true t p h = tt
interrupted-by did_unmask Unmasking missed m true t p h = tt
interrupted-by to_look Looking missed m true t p h = tt
interrupted-by (saw true) Looking missed m true t p h = tt
interrupted-by (saw false) Looking missed m true t p h = tt
interrupted-by hand Unmasking missed m true t p h = absurd h
interrupted-by hand Deferring missed m true t p h = absurd h
interrupted-by hand Deferred missed m true t p h = absurd h
interrupted-by hand Looking missed m true t p h = absurd h
interrupted-by hand Armed missed m true t p h = absurd h
interrupted-by rearmed_empty (Listed false) missed m true t p h = (h.0, inr refl)
interrupted-by hand (Listed false) missed m true t p h = h
interrupted-by hand (Masking false) missed m true t p h = h
interrupted-by hand stage missed m true t p h = h

expired-by : (hand : Hand) (stage : Stage) (missed m i t : Bool) (p : ℕ) → Good hand stage missed m i t p
    → GoodAt hand (after_timer (in_stage stage missed)) m i false p
expired-by free Unmasking missed m i t p h = tt
expired-by free Looking missed m i t p h = tt
expired-by free Armed missed m i t p h = tt
expired-by free Deferring missed m i t p h = h
expired-by free Deferred missed m i t p h = h.0
expired-by to_set_timer Deferring missed m i t p h = h
expired-by did_set_timer Deferring missed m i t p h = h.0
expired-by to_unmask Unmasking missed m i t p h = tt
expired-by did_unmask Unmasking missed m i t p h = tt
expired-by to_look Looking missed m i t p h = tt
expired-by (saw true) Looking missed m i t p h = tt
expired-by (saw false) Looking missed m i t p h = tt
expired-by rearmed_empty (Listed false) missed m i t p h = h
expired-by hand Deferring missed m i t p h = absurd h
expired-by hand Deferred missed m i t p h = absurd h
expired-by hand Unmasking missed m i t p h = absurd h
expired-by hand Looking missed m i t p h = absurd h
expired-by hand Armed missed m i t p h = absurd h
expired-by hand stage missed m i t p h = h

said : (hand : Hand) (stage : Stage) (x m i t : Bool) (p : ℕ) → Good hand stage x m i t p → Good (says_by hand stage) stage x m i t p
said free (Masking s) x m i t p h = tt
said free Closing x m i t p h = tt
said free Unmasking x m i t p h = tt
said free Deferring x m i t p h = h
said hand stage x m i t p h = h

joined : (hand : Hand) (stage : Stage) (x m i t : Bool) (p : ℕ) → Good hand stage x m i t p
    → Good (joins_by hand stage) (joined_at hand stage) x m i t p
joined free (Masking s) x m i t p h = tt
joined hand stage x m i t p h = h

acted : (taken : ℕ) (stays defers : Bool) (hand : Hand) (stage : Stage) (x m i t : Bool) (p : ℕ) → Good hand stage x m i t p
    → Good (hand_after p stays defers hand) stage x (masked_after hand m) i (timer_after hand t) (packets_after taken hand p)
acted taken stays defers to_mask (Masking s) x m i t p h = refl
acted taken stays defers to_mask Closing x m i t p h = refl
acted taken stays defers to_mask stage x m i t p h = absurd h
acted taken stays defers to_unmask Unmasking x m i t p h = refl
acted taken stays defers to_unmask (Masking s) x m i t p h = tt
acted taken stays defers to_unmask Closing x m i t p h = tt
acted taken stays defers to_unmask stage x m i t p h = absurd h
acted taken stays defers to_look Looking x m i t zero h = (h, inl refl)
acted taken stays defers to_look Looking x m i t (suc p) h = h
acted taken stays defers to_look (Masking s) x m i t zero h = tt
acted taken stays defers to_look (Masking s) x m i t (suc p) h = tt
acted taken stays defers to_look Closing x m i t zero h = tt
acted taken stays defers to_look Closing x m i t (suc p) h = tt
acted taken stays defers to_look stage x m i t p h = absurd h
acted taken stays defers to_set_timer Deferring x m i t p h = (h, refl)
acted taken stays defers to_set_timer (Listed s) x m i t p h = h
acted taken stays defers to_set_timer (Masking s) x m i t p h = tt
acted taken stays defers to_set_timer Closing x m i t p h = tt
acted taken stays defers to_set_timer stage x m i t p h = absurd h
acted taken stays defers to_fetch (Listed s) x m i t p h = h
acted taken stays defers to_fetch stage x m i t p h = absurd h
acted taken stays defers to_mask_first (Listed s) x m i t p h = refl
acted taken stays defers to_mask_first stage x m i t p h = absurd h
acted taken stays defers hand stage x m i t p h = h

completed-to : (defers stopping missed m i t : Bool) (p : ℕ) → m ≡ true → GoodAt free (completed_at defers stopping missed).0 m i t p
completed-to defers stopping true m i t p h = h
completed-to true false false m i t p h = h
completed-to false false false m i t p h = tt
completed-to defers true false m i t p h = h

polled-to : (stays defers stopping missed m i t : Bool) (p : ℕ) → m ≡ true
    → GoodAt free (after_poll_at stays defers stopping missed).0 m i t p
polled-to true defers false missed m i t p h = h
polled-to true defers true missed m i t p h = completed-to defers true missed m i t p h
polled-to false defers stopping missed m i t p h = completed-to defers stopping missed m i t p h

rearmed-more : (stopping missed m i t : Bool) (p : ℕ) → GoodAt free (rearmed_at true stopping missed) m i t p
rearmed-more stopping true m i t p = tt
rearmed-more true false m i t p = tt
rearmed-more false false m i t p = tt

rearmed-stopped : (missed m i t : Bool) (p : ℕ) → GoodAt free (rearmed_at false true missed) m i t p
rearmed-stopped true m i t p = tt
rearmed-stopped false m i t p = tt

rearm-step : (hand : Hand) (stage : Stage) (x m i t : Bool) (p : ℕ) → Good hand stage x m i t p
    → Good (rearm_hand p hand) stage x (rearm_mask hand m) i t p
rearm-step (took stays defers) (Listed s) x m i t p h = refl
rearm-step (took stays defers) stage x m i t p h = absurd h
rearm-step rearming (Listed true) x m i t zero h = h
rearm-step rearming (Listed true) x m i t (suc n) h = h
rearm-step rearming (Listed false) x m i t zero h = (h, inl (inl refl))
rearm-step rearming (Listed false) x m i t (suc n) h = h
rearm-step rearming stage x m i t p h = absurd h
rearm-step hand stage x m i t p h = h

reported : (hand : Hand) (stage : Stage) (missed m i t : Bool) (p : ℕ) → Good hand stage missed m i t p
    → GoodAt (reported_hand hand) (after_message hand (in_stage stage missed)) m i t p
reported did_mask (Masking s) missed m i t p h = h
reported did_mask Closing missed m i t p h = h
reported did_mask stage missed m i t p h = absurd h
reported did_unmask Unmasking missed m i t p h = h
reported did_unmask (Masking s) missed m i t p h = tt
reported did_unmask Closing missed m i t p h = tt
reported did_unmask stage missed m i t p h = absurd h
reported did_set_timer Deferring missed m i t p h = h
reported did_set_timer (Listed s) missed m i t p h = h
reported did_set_timer (Masking s) missed m i t p h = tt
reported did_set_timer Closing missed m i t p h = tt
reported did_set_timer stage missed m i t p h = absurd h
reported (saw true) Looking missed m i t p h = tt
reported (saw false) Looking missed m i t p h = h
reported (saw true) (Masking s) missed m i t p h = tt
reported (saw false) (Masking s) missed m i t p h = tt
reported (saw true) Closing missed m i t p h = tt
reported (saw false) Closing missed m i t p h = tt
reported (saw more) stage missed m i t p h = absurd h
reported (took stays defers) (Listed s) missed m i t p h = polled-to stays defers s missed m i t p h
reported (took stays defers) stage missed m i t p h = absurd h
reported rearmed_more (Listed s) missed m i t p h = rearmed-more s missed m i t p
reported rearmed_more stage missed m i t p h = absurd h
reported rearmed_empty (Listed true) missed m i t p h = rearmed-stopped missed m i t p
reported rearmed_empty (Listed false) true m i t p h = tt
reported rearmed_empty (Listed false) false m i t p h = (h.0, elim h.1 [ inl quiet ↦ quiet | inr bad ↦ absurd (cc bad) ])
reported rearmed_empty stage missed m i t p h = absurd h
reported hand stage missed m i t p h = h

forgot : (hand : Hand) (stage : Stage) (x m i t : Bool) (p : ℕ) → Good hand stage x m i t p → Good (forgotten hand) stage x m i t p
forgot free stage x m i t p h = h
forgot to_mask (Masking s) x m i t p h = tt
forgot to_mask Closing x m i t p h = tt
forgot to_mask stage x m i t p h = absurd h
forgot did_mask (Masking s) x m i t p h = tt
forgot did_mask Closing x m i t p h = tt
forgot did_mask stage x m i t p h = absurd h
forgot to_unmask Unmasking x m i t p h = tt
forgot to_unmask (Masking s) x m i t p h = tt
forgot to_unmask Closing x m i t p h = tt
forgot to_unmask stage x m i t p h = absurd h
forgot did_unmask Unmasking x m i t p h = tt
forgot did_unmask (Masking s) x m i t p h = tt
forgot did_unmask Closing x m i t p h = tt
forgot did_unmask stage x m i t p h = absurd h
forgot to_look Looking x m i t p h = h
forgot to_look (Masking s) x m i t p h = tt
forgot to_look Closing x m i t p h = tt
forgot to_look stage x m i t p h = absurd h
forgot (saw true) Looking x m i t p h = h
forgot (saw false) Looking x m i t p h = h.0
forgot (saw more) (Masking s) x m i t p h = tt
forgot (saw more) Closing x m i t p h = tt
forgot (saw true) stage x m i t p h = absurd h
forgot (saw false) stage x m i t p h = absurd h
forgot to_set_timer Deferring x m i t p h = h
forgot to_set_timer (Listed s) x m i t p h = h
forgot to_set_timer (Masking s) x m i t p h = tt
forgot to_set_timer Closing x m i t p h = tt
forgot to_set_timer stage x m i t p h = absurd h
forgot did_set_timer Deferring x m i t p h = h.0
forgot did_set_timer (Listed s) x m i t p h = h
forgot did_set_timer (Masking s) x m i t p h = tt
forgot did_set_timer Closing x m i t p h = tt
forgot did_set_timer stage x m i t p h = absurd h
forgot to_fetch (Listed s) x m i t p h = h
forgot to_fetch stage x m i t p h = absurd h
forgot (took stays defers) (Listed s) x m i t p h = h
forgot (took stays defers) stage x m i t p h = absurd h
forgot rearming stage x m i t p h = h
forgot rearmed_empty stage x m i t p h = h
forgot rearmed_more stage x m i t p h = h
forgot to_mask_first stage x m i t p h = h

opened-by : (hand : Hand) (stage : Stage) (missed m i t : Bool) (p : ℕ) → Good hand stage missed m i t p
    → GoodAt hand (after_open (in_stage stage missed)) m i t p
opened-by free Closed missed m i t p h = tt
opened-by (saw true) Closed missed m i t p h = absurd h
opened-by (saw false) Closed missed m i t p h = absurd h
opened-by hand Closed missed m i t p h = absurd h
opened-by hand stage missed m i t p h = h

stopped-by : (hand : Hand) (stage : Stage) (missed m i t : Bool) (p : ℕ) → Good hand stage missed m i t p
    → GoodAt hand (after_stop (in_stage stage missed)) m i t p
stopped-by free (Masking s) missed m i t p h = tt
stopped-by free (Listed s) missed m i t p h = h
stopped-by free Closed missed m i t p h = h
stopped-by free stage missed m i t p h = tt
stopped-by to_mask (Masking s) missed m i t p h = tt
stopped-by to_mask Closing missed m i t p h = tt
stopped-by to_mask stage missed m i t p h = absurd h
stopped-by did_mask (Masking s) missed m i t p h = h
stopped-by did_mask Closing missed m i t p h = h
stopped-by did_mask stage missed m i t p h = absurd h
stopped-by to_unmask Unmasking missed m i t p h = tt
stopped-by to_unmask (Masking s) missed m i t p h = tt
stopped-by to_unmask Closing missed m i t p h = tt
stopped-by to_unmask stage missed m i t p h = absurd h
stopped-by did_unmask Unmasking missed m i t p h = tt
stopped-by did_unmask (Masking s) missed m i t p h = tt
stopped-by did_unmask Closing missed m i t p h = tt
stopped-by did_unmask stage missed m i t p h = absurd h
stopped-by to_look Looking missed m i t p h = tt
stopped-by to_look (Masking s) missed m i t p h = tt
stopped-by to_look Closing missed m i t p h = tt
stopped-by to_look stage missed m i t p h = absurd h
stopped-by (saw true) Looking missed m i t p h = tt
stopped-by (saw true) (Masking s) missed m i t p h = tt
stopped-by (saw true) Closing missed m i t p h = tt
stopped-by (saw true) stage missed m i t p h = absurd h
stopped-by (saw false) Looking missed m i t p h = tt
stopped-by (saw false) (Masking s) missed m i t p h = tt
stopped-by (saw false) Closing missed m i t p h = tt
stopped-by (saw false) stage missed m i t p h = absurd h
stopped-by to_set_timer Deferring missed m i t p h = tt
stopped-by to_set_timer (Listed s) missed m i t p h = h
stopped-by to_set_timer (Masking s) missed m i t p h = tt
stopped-by to_set_timer Closing missed m i t p h = tt
stopped-by to_set_timer stage missed m i t p h = absurd h
stopped-by did_set_timer Deferring missed m i t p h = tt
stopped-by did_set_timer (Listed s) missed m i t p h = h
stopped-by did_set_timer (Masking s) missed m i t p h = tt
stopped-by did_set_timer Closing missed m i t p h = tt
stopped-by did_set_timer stage missed m i t p h = absurd h
stopped-by to_fetch (Listed s) missed m i t p h = h
stopped-by to_fetch stage missed m i t p h = absurd h
stopped-by (took stays defers) (Listed s) missed m i t p h = h
stopped-by (took stays defers) stage missed m i t p h = absurd h
stopped-by to_mask_first (Listed s) missed m i t p h = tt
stopped-by to_mask_first stage missed m i t p h = absurd h
stopped-by rearming (Listed s) missed m i t p h = h
stopped-by rearming stage missed m i t p h = absurd h
stopped-by rearmed_more (Listed s) missed m i t p h = h
stopped-by rearmed_more stage missed m i t p h = absurd h
stopped-by rearmed_empty (Listed true) missed m i t p h = h
stopped-by rearmed_empty (Listed false) missed m i t p h = h.0
stopped-by rearmed_empty stage missed m i t p h = absurd h

keeps : (e : DriverEvent) (w : World) → IsGood w → IsGood (world_step e w)
keeps arrives w g = arrived w.hand w.device.stage w.device.missed w.masked w.interrupting w.timer w.packets g
keeps interrupts w g = interrupted-by w.hand w.device.stage w.device.missed w.masked w.interrupting w.timer w.packets g
keeps says w g = said w.hand w.device.stage w.device.missed w.masked w.interrupting w.timer w.packets g
keeps joins w g = joined w.hand w.device.stage w.device.missed w.masked w.interrupting w.timer w.packets g
keeps expires w g = expired-by w.hand w.device.stage w.device.missed w.masked w.interrupting w.timer w.packets g
keeps (acts taken stays defers) w g =
    acted taken stays defers w.hand w.device.stage w.device.missed w.masked w.interrupting w.timer w.packets g
keeps rearms w g = rearm-step w.hand w.device.stage w.device.missed w.masked w.interrupting w.timer w.packets g
keeps reports w g = reported w.hand w.device.stage w.device.missed w.masked w.interrupting w.timer w.packets g
keeps forgets w g = forgot w.hand w.device.stage w.device.missed w.masked w.interrupting w.timer w.packets g
keeps opens w g = opened-by w.hand w.device.stage w.device.missed w.masked w.interrupting w.timer w.packets g
keeps stops w g = stopped-by w.hand w.device.stage w.device.missed w.masked w.interrupting w.timer w.packets g

good-after : (es : List DriverEvent) (w : World) → IsGood w → IsGood (world_after es w)
good-after [] w g = g
good-after (e ∷ es) w g = good-after es (world_step e w) (keeps e w g)

watched : (stage : Stage) (x : Bool) (w : World) → Good free stage x w.masked w.interrupting w.timer w.packets → IsWatched stage w
watched Armed x w h = h
watched Closed x w h = h
watched Deferred x w h = h
watched stage x w h = tt

masked-while : (hand : Hand) (stage : Stage) (x : Bool) (w : World) → Good hand stage x w.masked w.interrupting w.timer w.packets
    → IsMaskedWhileListed hand stage w
masked-while free Closed x w h = h
masked-while (saw true) Closed x w h = absurd h
masked-while (saw false) Closed x w h = absurd h
masked-while hand Closed x w h = absurd h
masked-while free (Listed s) x w h = h
masked-while to_fetch (Listed s) x w h = h
masked-while to_set_timer (Listed s) x w h = h
masked-while did_set_timer (Listed s) x w h = h
masked-while (took stays defers) (Listed s) x w h = h
masked-while (saw true) (Listed s) x w h = absurd h
masked-while (saw false) (Listed s) x w h = absurd h
masked-while rearming (Listed s) x w h = tt
masked-while rearmed_empty (Listed s) x w h = tt
masked-while rearmed_more (Listed s) x w h = tt
masked-while to_mask_first (Listed s) x w h = tt
masked-while hand (Listed s) x w h = absurd h
masked-while hand stage x w h = tt

pub no-packet-waits : NoPacketWaitsUnseen
no-packet-waits packets events is-free =
    let w = world_after events (new_world packets) in
    let g = good-after events (new_world packets) refl in
    watched w.device.stage w.device.missed w
    (subst (λ (hand : Hand). Good hand w.device.stage w.device.missed w.masked w.interrupting w.timer w.packets) is-free g)

pub listed-is-masked : ListedIsMasked
listed-is-masked packets events =
    let w = world_after events (new_world packets) in
    masked-while w.hand w.device.stage w.device.missed w (good-after events (new_world packets) refl)
