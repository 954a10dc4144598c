-- A law about the least time between interrupts of a card (`rx-gap`).
use Rattle.std.specs.Prelude.{◌≡◌, ◌≤◌, ◌<◌, ℕ, ◌+◌, ◌-◌, ◌^◌, true, List, [], ◌∷◌, ◌++◌, nat_lt, unwrap_or}
use Rattle.std.specs.{Option.option_map_or, Prelude.{Option, if◌then◌else◌}}
use Rattle.machine_model.specs.declared.settings.MachineSettings.{MachineSettings}
use Rattle.device_places.specs.Places.{at}
use Rattle.machine.specs.Lives.{MachineEvent, behind}
use Rattle.machine_model.specs.{Device.QueueView, Processor.is_polling}

abbrev pub interrupts_at : Option QueueView → ℕ
interrupts_at place = option_map_or (λ d. d.counts.interrupts) place 0

-- when the card of the queue last asked for an interrupt
abbrev pub asked_at : Option QueueView → ℕ
asked_at place = option_map_or (λ d. unwrap_or d.asserted 0) place 0

-- the time at which the card asked for the interrupt that an event brought, if it brought one
abbrev pub new_interrupt : Option QueueView → Option QueueView → List ℕ
new_interrupt before after = if nat_lt (interrupts_at before) (interrupts_at after) then asked_at after ∷ [] else []

-- when the card of a queue asked for each of its interrupts, the last one first
unfoldable pub interrupt_times : ℕ → MachineSettings → List MachineEvent → List ℕ
interrupt_times n s [] = []
interrupt_times n s (event ∷ earlier) =
    new_interrupt (at n (behind s earlier).devices) (at n (behind s (event ∷ earlier)).devices) ++ interrupt_times n s earlier

-- each of these times is at least so much later than the one after it in the list, until the clock reaches its end
abbrev pub AreApart : ℕ → List ℕ → Type 0
AreApart gap [] = Unit {0}
AreApart gap (last ∷ []) = Unit {0}
AreApart gap (last ∷ before ∷ more) = (last < 2 ^ 64 - 1 → before + gap ≤ last) × AreApart gap (before ∷ more)

-- Law: with polling, and a driver that asks for interrupts after the completion, a card asks for each two consecutive interrupts of a
-- queue at times that are at least `rx-gap` apart.
abbrev pub InterruptsAreApart : Type 0
InterruptsAreApart = (s : MachineSettings) (n : ℕ) (events : List MachineEvent) → is_polling s ≡ true → s.early ≡ 0 → 0 < s.rx_gap
    → AreApart s.rx_gap (interrupt_times n s events)
