-- The arguments and results of a replay for C.
use Rattle.std.specs.Prelude.{◌≡◌, ◌≢◌, ◌<◌, ◌≤◌, ◌⊎◌, ◌↔◌, ℕ, List, Option, Some, None, Result, Ok, Err, drop, length, take}
use Rattle.files_c.specs.Status.{FILES_OK, FILES_OUT_OF_MEMORY, FILES_BAD_WEIGHT, FILES_NO_ROOM, FILES_BAD_BUDGET}
use Rattle.files_c.specs.Status.{FILES_BAD_TRACE}
use Rattle.text_io.specs.Fault.{replay_fault_number}
use Rattle.text_io.specs.Outside.{IsOutside}
use Rattle.text_io.specs.declared.fault.ReplayFault.{ReplayFault}
use Rattle.text_io.specs.declared.settings.ReplaySettings.{ReplaySettings}
use Rattle.{replay_rows.specs.Answer.replay_of, replay_raised.specs.RaisedTrace.raised_trace}
use Rattle.files_c.specs.ReplayFaults.{fault_status, fault_row}
use Rattle.files_c.specs.declared.replay_calls.FqReplayed.{FqReplayed}
use Rattle.files_c.specs.declared.replay_calls.FqSettings.{FqSettings}

-- the caller set the sizes of both structs
abbrev pub HasReplaySizes : FqSettings → FqReplayed → Type 0
HasReplaySizes asked replayed = (asked.size ≡ 24) × (replayed.size ≡ 24)

-- these settings are asked for; a replay on one thread doesn't use the number of pollers
pub record AreSettingsOf (asked : FqSettings) (s : ReplaySettings) : Type 0 where
  pub budget : s.budget ≡ asked.budget
  pub weight : s.weight ≡ asked.weight
  pub window : s.window ≡ asked.window

abbrev pub HasWeight : FqSettings → Type 0
HasWeight asked = (1 ≤ asked.weight) × (asked.weight ≤ 64)

abbrev pub HasBudget : FqSettings → Type 0
HasBudget asked = ((1 ≤ asked.budget) × (asked.budget ≤ 65535)) × ((1 ≤ asked.window) × (asked.window ≤ 65535))

-- the reason for which settings are rejected
abbrev pub Lacks : FqSettings → ℕ → Type 0
Lacks asked status = ((status ≡ FILES_BAD_WEIGHT) × ¬ HasWeight asked)
    ⊎ ((status ≡ FILES_BAD_BUDGET) × HasWeight asked × ¬ HasBudget asked)

-- what a call computes of the bytes of a trace: a text, or their first error
abbrev pub Computes : Type 0
Computes = ReplaySettings → List ℕ → Result (List ℕ) ReplayFault

-- the report; or with a number of restarts, the trace with the runs that the kernel adds
abbrev pub computed_by : Option ℕ → Computes
computed_by None = replay_of
computed_by (Some restarts) = λ s bytes. raised_trace s (Some restarts) bytes

-- the text is that of these bytes with the requested settings
abbrev pub IsTextOf : Computes → FqSettings → List ℕ → List ℕ → Type 0
IsTextOf computes asked bytes text = (s : ReplaySettings) × AreSettingsOf asked s × (computes s bytes ≡ Ok text)

-- the error is that of these bytes with these settings
abbrev pub IsErrorOf : Computes → FqSettings → List ℕ → ReplayFault → Type 0
IsErrorOf computes asked bytes fault = (s : ReplaySettings) × AreSettingsOf asked s × (computes s bytes ≡ Err fault)

-- an error with the status OUT_OF_MEMORY occurred: it came from outside the trace, or is the result for this trace
abbrev pub LacksMemory : Computes → FqSettings → List ℕ → Type 0
LacksMemory computes asked bytes = (fault : ReplayFault) × (fault_status fault ≡ FILES_OUT_OF_MEMORY)
    × (IsOutside fault ⊎ IsErrorOf computes asked bytes fault)

-- an error is reported by its number and its row; there is no report then
pub record ReportsFault (fault : ReplayFault) (replayed : FqReplayed) : Type 0 where
  pub number : replayed.fault ≡ replay_fault_number fault
  pub row : replayed.row ≡ fault_row fault
  pub length : replayed.length ≡ 0

-- A call's status and results, and the caller's array before and after it. The text that is written is that of the trace with
-- these settings, and an error that is reported is that of the trace.
pub record IsCallResult (computes : Computes) (asked : FqSettings) (trace before after : List ℕ) (replayed : FqReplayed) (status : ℕ)
    : Type 0 where
  pub written : status ≡ FILES_OK → IsTextOf computes asked trace (take replayed.length after)
  pub rest : status ≡ FILES_OK → drop replayed.length after ≡ drop replayed.length before
  pub no_room : status ≡ FILES_NO_ROOM → (text : List ℕ) × IsTextOf computes asked trace text × (replayed.length ≡ length text)
      × (length before < length text)
  pub fault : status ≡ FILES_BAD_TRACE → (fault : ReplayFault) × IsErrorOf computes asked trace fault × ReportsFault fault replayed
  pub memory : status ≢ FILES_OK → status ≢ FILES_NO_ROOM → status ≢ FILES_BAD_TRACE → status ≢ FILES_BAD_WEIGHT
      → status ≢ FILES_BAD_BUDGET → (status ≡ FILES_OUT_OF_MEMORY) × LacksMemory computes asked trace
  -- Settings are rejected exactly if they are out of their ranges. After that, and after every other error, nothing is written.
  pub weight : (status ≡ FILES_BAD_WEIGHT) ↔ ¬ HasWeight asked
  pub budget : (status ≡ FILES_BAD_BUDGET) ↔ (HasWeight asked × ¬ HasBudget asked)
  pub kept : status ≢ FILES_OK → after ≡ before
  -- The other results describe the text or the error; if there is none, they are 0.
  pub faultless : status ≢ FILES_BAD_TRACE → (replayed.fault ≡ 0) × (replayed.row ≡ 0)
  pub no_text : status ≢ FILES_OK → status ≢ FILES_NO_ROOM → replayed.length ≡ 0
