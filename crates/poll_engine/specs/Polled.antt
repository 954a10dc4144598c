-- The effect of polls by a handle on its caller.
use Rattle.std.specs.Prelude.{◌≡◌, ◌||◌, ℕ, Bool, true, List, [], ◌∷◌, Option, Some, None, length, if◌then◌else◌}
use Rattle.{rx_ring.specs.declared.packet.Packet.Packet, napi_calls.specs.{declared.types.Caller.Caller, Dealt.Delivers, Made.Made}}
use Rattle.poll_runs.specs.{Plan.{Action, Follows, given, operations}, Polling.{thread_poll_plan, poll_once_plan}}
use Rattle.poll_runs.specs.{Polls.{is_arrival, is_repoll}}
use Rattle.poll_runs.specs.{Thread.IsThreadPolling, declared.bench.{Next.{Next, TheVariants.Absent}, Once.Once, ThreadReport.ThreadReport}}
use Rattle.poll_shared.specs.Tries.{Tries}

-- One poll with this weight, by a caller that is present, of an instance with its own thread or without. Its caller delivers
-- exactly the packets of the batch.
abbrev pub Polls : Bool → ℕ → Option Caller → Once → List Packet → Option Caller → Type 0
Polls thread weight None once packets after = (once.work ≡ 0) × (once.next ≡ Absent)
Polls thread weight (Some before) once packets None = ⊥
Polls thread weight (Some before) once packets (Some after) =
    (deeds : List (Action Packet)) × Made before.pass (operations deeds) after.pass
    × Follows Tries (poll_once_plan thread weight) deeds (record { once = once; packets = packets })
    × Delivers before.pass packets after.pass × (once.work ≡ length packets) × (once.next ≡ Absent → packets ≡ [])

-- The polling by the instance's own thread, with at most this many polls. Its caller delivers exactly what the polls returned;
-- the batch has the packets of the last poll.
abbrev pub PollsByThread : ℕ → ℕ → Option Caller → ThreadReport → List Packet → Option Caller → Type 0
PollsByThread weight most None report packets after = (report.polls ≡ 0) × (report.next ≡ Absent)
PollsByThread weight most (Some before) report packets None = ⊥
PollsByThread weight most (Some before) report packets (Some after) =
    (polls : List Once) × (deeds : List (Action Packet)) × Made before.pass (operations deeds) after.pass
    × Follows Tries (thread_poll_plan true weight most) deeds (record { polls = polls; packets = packets })
    × Delivers before.pass (given deeds) after.pass × IsThreadPolling weight most polls report

-- the instance goes to the list: it was queued there, or it gets a repoll
abbrev pub handed_on : Next → ℕ → List ℕ
handed_on next number = if is_arrival next || is_repoll next then number ∷ [] else []
