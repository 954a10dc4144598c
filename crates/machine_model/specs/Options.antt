-- The machine's options: the settings that arguments, or values for C, ask for.
use Rattle.std.specs.Prelude.{◌≡◌, ◌≤◌, ◌<◌, ◌+◌, ◌-◌, ◌⊎◌, ◌==◌, ◌&&◌, ◌||◌, not, ℕ, [], ◌∷◌, Bool, List, Option, Some, None}
use Rattle.std.specs.Prelude.{codes, if◌then◌else◌, is_some, nat_lt, unwrap_or}
use Rattle.std.specs.Prelude.{length, map, slice_index_or}
use Rattle.std.specs.List.{AllZip}
use Rattle.text_io.specs.Given.{◌>>=◌, Text, given_by, number_within, or_default, value_of}
use Rattle.machine_model.specs.declared.settings.{MachineOption.MachineOption, MachineSettings.MachineSettings}

-- an option: its name, the setting that it sets, the range of its value, and the value if it isn't given
pub record OptionRule : Type 0 where
  pub name : Text
  pub setting : MachineSettings → ℕ
  pub least : ℕ
  pub most : ℕ
  pub default : ℕ

abbrev pub rule : Text → (MachineSettings → ℕ) → ℕ → ℕ → ℕ → OptionRule
rule name setting least most default = record { name = name; setting = setting; least = least; most = most; default = default }

abbrev pub flag_number : Bool → ℕ
flag_number b = if b then 1 else 0

-- A cost that is another option's unless it is given. Its number is 4294967295 then.
abbrev pub own_cost : ℕ → Option ℕ
own_cost number = if number == 4294967295 then None else Some number

abbrev pub cost_number : Option ℕ → ℕ
cost_number cost = unwrap_or cost 4294967295

-- The options, of which budget, weight and time limit have the kernel's defaults (`net_rx_action`: `netdev_budget`,
-- NAPI_POLL_WEIGHT, `netdev_budget_usecs`, which is two jiffies at HZ 250). Times are in nanoseconds.
unfoldable pub machine_options : List OptionRule
machine_options =
    rule (codes "processors") (λ s. s.processors) 1 64 1
    ∷ rule (codes "queues") (λ s. s.queues) 1 64 1
    ∷ rule (codes "ring") (λ s. s.ring) 1 65536 256
    ∷ rule (codes "socket") (λ s. s.socket) 1 65536 512
    ∷ rule (codes "backlog") (λ s. flag_number s.backlog) 0 1 0
    ∷ rule (codes "budget") (λ s. s.budget) 0 65535 300
    ∷ rule (codes "weight") (λ s. s.weight) 1 64 64
    ∷ rule (codes "window") (λ s. s.window) 1 65535 1024
    ∷ rule (codes "time-limit") (λ s. s.time_limit) 1 1000000000 8000000
    ∷ rule (codes "rx-nsecs") (λ s. s.rx_nsecs) 0 1000000000 0
    ∷ rule (codes "rx-frames") (λ s. s.rx_frames) 0 65535 0
    ∷ rule (codes "defer-hard-irqs") (λ s. s.defer_hard_irqs) 0 65535 0
    ∷ rule (codes "gro-flush-timeout") (λ s. s.gro_flush_timeout) 0 1000000000 0
    ∷ rule (codes "threaded") (λ s. flag_number s.threaded) 0 1 0
    ∷ rule (codes "apart") (λ s. flag_number s.apart) 0 1 0
    ∷ rule (codes "app-wake") (λ s. s.app_wake) 0 1000000000 0
    ∷ rule (codes "interrupt") (λ s. s.interrupt) 0 1000000000 4000
    ∷ rule (codes "poll") (λ s. s.poll) 0 1000000000 1000
    ∷ rule (codes "packet") (λ s. s.packet) 0 1000000000 1000
    ∷ rule (codes "use") (λ s. s.use_time) 0 1000000000 2000
    ∷ rule (codes "wake") (λ s. s.wake) 0 1000000000 0
    ∷ rule (codes "heedless") (λ s. flag_number s.heedless) 0 1 0
    ∷ rule (codes "rx-gap") (λ s. s.rx_gap) 0 1000000000 0
    ∷ rule (codes "timer") (λ s. cost_number s.timer) 0 1000000000 4294967295
    ∷ rule (codes "timer-wake") (λ s. cost_number s.timer_wake) 0 1000000000 4294967295
    ∷ rule (codes "latched") (λ s. s.latched) 0 2 0
    ∷ rule (codes "gro-batch") (λ s. s.gro_batch) 0 64 0
    ∷ rule (codes "take") (λ s. s.take) 0 1000000000 0
    ∷ rule (codes "early") (λ s. s.early) 0 1000000000 0
    ∷ rule (codes "poll-wake") (λ s. s.poll_wake) 0 1000000000 0
    ∷ rule (codes "arm") (λ s. s.arm) 0 1000000000 0
    ∷ []

-- this is that option; its unit and its description are for readers only
pub record IsOption (m : MachineOption) (o : OptionRule) : Type 0 where
  pub name : m.name.now ≡ o.name
  pub least : m.least ≡ o.least
  pub most : m.most ≡ o.most
  pub default : m.default ≡ o.default

-- a row of the table, without its texts for readers
abbrev pub row_of_option : MachineOption → Text × ℕ × ℕ × ℕ
row_of_option m = (m.name.now, m.least, m.most, m.default)

abbrev pub rule_row : OptionRule → Text × ℕ × ℕ × ℕ
rule_row o = (o.name, o.least, o.most, o.default)

abbrev pub option_names : List Text
option_names = map (λ (o : OptionRule). o.name) machine_options

abbrev pub option_defaults : List ℕ
option_defaults = map (λ (o : OptionRule). o.default) machine_options

-- ---- values of all options, in this order

-- the values of settings; a flag is 0 or 1
abbrev pub values_of : MachineSettings → List ℕ
values_of s = map (λ (o : OptionRule). o.setting s) machine_options

-- the default machine: that of a program that is run without options
abbrev pub IsDefault : MachineSettings → Type 0
IsDefault s = values_of s ≡ option_defaults

-- the value is in the range of the option, or its default
abbrev pub IsOptionInRange : OptionRule → ℕ → Type 0
IsOptionInRange o value = ((o.least ≤ value) × (value ≤ o.most)) ⊎ (value ≡ o.default)

-- there is a value for each option, and it is in the range of that option
abbrev pub AreInRange : List ℕ → Type 0
AreInRange values = AllZip IsOptionInRange machine_options values

-- the value at this position, counted from 0, is in the range of its option
abbrev pub IsInRangeAt : List ℕ → ℕ → Type 0
IsInRangeAt values k = (o : OptionRule) (d : ℕ) → IsOptionInRange (slice_index_or machine_options k o) (slice_index_or values k d)

-- the value at this position is out of the range of its option
abbrev pub IsOutAt : List ℕ → ℕ → Type 0
IsOutAt values k = (o : OptionRule) (d : ℕ) → ¬ IsOptionInRange (slice_index_or machine_options k o) (slice_index_or values k d)

-- the value with this number, counted from 1, is the first that is out of the range of its option
pub record IsFirstOut (values : List ℕ) (number : ℕ) : Type 0 where
  pub numbered : (1 ≤ number) × (number ≤ length machine_options)
  pub out : IsOutAt values (number - 1)
  pub first : (k : ℕ) → k + 1 < number → IsInRangeAt values k

-- `rx-gap` excludes `rx-nsecs` and `rx-frames`: a card has a least time between interrupts, or it waits for more frames
abbrev pub excludes : List ℕ → Bool
excludes values =
    not (slice_index_or values 22 0 == 0) && (not (slice_index_or values 9 0 == 0) || not (slice_index_or values 10 0 == 0))

-- `take` is a part of `packet`, so it isn't above it
abbrev pub exceeds : List ℕ → Bool
exceeds values = nat_lt (slice_index_or values 18 0) (slice_index_or values 27 0)

-- `early` excludes `heedless`: a driver that unmasks the card in any case asks for interrupts after the completion
abbrev pub is_early_heedless : List ℕ → Bool
is_early_heedless values = not (slice_index_or values 28 0 == 0) && not (slice_index_or values 21 0 == 0)

-- the number of the value that doesn't fit the others, if one doesn't: that of `rx-gap`, of `take` or of `early`
abbrev pub misfit : List ℕ → Option ℕ
misfit values =
    if excludes values then Some 23 else (if exceeds values then Some 28 else (if is_early_heedless values then Some 29 else None))

-- the values are rejected for the one with this number: the first that is out of its range, or, if none is, the one that doesn't fit
abbrev pub IsRejected : List ℕ → ℕ → Type 0
IsRejected values number = IsFirstOut values number ⊎ (AreInRange values × (misfit values ≡ Some number))

-- ---- arguments

-- the value of an option: the number in its range that one to ten digits denote, or its default; None if it isn't such a number
abbrev pub number_with : (Text → Option Text) → OptionRule → Option ℕ
number_with value o = or_default o.default (number_within 10 o.least o.most) (value o.name)

-- the value of each option; None if one has none
abbrev pub values_with : List OptionRule → (Text → Option Text) → Option (List ℕ)
values_with [] value = Some []
values_with (o ∷ more) value = do
  first ← number_with value o
  rest ← values_with more value
  Some (first ∷ rest)

-- the values of all options; None if one has none, or if they don't fit each other
abbrev pub machine_with : (Text → Option Text) → Option (List ℕ)
machine_with value = values_with machine_options value >>= (λ values. if is_some (misfit values) then None else Some values)

-- the values that the arguments ask for, or None if they are an error
abbrev pub machine_asked_for : List Text → Option (List ℕ)
machine_asked_for words = given_by option_names words >>= (λ given. machine_with (λ name. value_of name given))
