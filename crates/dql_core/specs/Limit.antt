-- The rules of dynamic queue limits in whole numbers that never wrap, from `lib/dynamic_queue_limits.c` of Linux 6.6. `Limit`
-- is the struct of `src/whole.rt`, which describes each number. A `-` stops at 0, like the kernel's `POSDIFF`.
use Rattle.std.specs.Prelude.{ℕ, ◌+◌, ◌-◌, ◌*◌, Bool, ◌&&◌, ◌||◌, not, nat_eq, nat_lt, nat_le, min, max, if◌then◌else◌, Option, Some, None}
use Rattle.std.specs.Prelude.{ℤ, pos, ◌-ℤ◌}
use Rattle.dql_core.specs.{Bounds.{DQL_MAX_OBJECT, most_in_flight}, declared.event.DqlFault.DqlFault}
use Rattle.dql_core.specs.declared.event.{DqlFault.TheVariants.{TooLarge, TooMuchInFlight, MoreThanQueued}, LimitEvent.LimitEvent}
use Rattle.dql_core.specs.declared.{event.LimitEvent.TheVariants.{Queued, Completed, Reset}, whole.Limit.Limit}

-- a new limit with these bounds and this hold time, made at the time now (`dql_init`)
abbrev pub new_limit : ℕ → ℕ → ℕ → ℕ → Limit
new_limit min_limit max_limit hold now = record {
  queued = 0;
  completed = 0;
  last_object = 0;
  limit = min_limit;
  previous_queued = 0;
  previous_over = 0;
  previous_last_object = 0;
  lowest_slack = 4294967295;
  slack_start = now;
  min_limit = min_limit;
  max_limit = max_limit;
  hold = hold;
}

-- the bytes in flight: queued and not yet completed
abbrev pub in_flight_of : Limit → ℕ
in_flight_of s = s.queued - s.completed

-- the bytes that may still be queued; negative if the queue is over its limit (`dql_avail`)
abbrev pub avail_of : Limit → ℤ
avail_of s = pos (s.limit + s.completed) -ℤ pos s.queued

-- the limit after a reset, which keeps its bounds and its hold time (`dql_reset`)
abbrev pub after_reset : Limit → ℕ → Limit
after_reset s now = new_limit s.min_limit s.max_limit s.hold now

-- the limit after an object of count bytes is queued (`dql_queued`)
abbrev pub after_queued : Limit → ℕ → Limit
after_queued s count = record s { queued = s.queued + count; last_object = count }

-- The values that a completion of count bytes computes (`dql_completed`).

-- the bytes in flight over the limit (`ovlimit`)
abbrev pub over_of : Limit → ℕ
over_of s = in_flight_of s - s.limit

-- the bytes still in flight after it (`inprogress`)
abbrev pub in_flight_after : Limit → ℕ → ℕ
in_flight_after s count = s.queued - (s.completed + count)

-- the bytes that the previous completion left in flight (`prev_inprogress`)
abbrev pub previous_left_of : Limit → ℕ
previous_left_of s = s.previous_queued - s.completed

-- this completion completes all that was queued at the previous one (`all_prev_completed`)
abbrev pub completes_previous : Limit → ℕ → Bool
completes_previous s count = nat_le s.previous_queued (s.completed + count)

-- the queue ran empty while it was over its limit, now or at the previous completion: the limit is too low
abbrev pub is_starved : Limit → ℕ → Bool
is_starved s count =
    (not (nat_eq (over_of s) 0) && nat_eq (in_flight_after s count) 0)
    || (not (nat_eq s.previous_over 0) && completes_previous s count)

-- the queue was busy all the time since the previous completion: the limit may be too high
abbrev pub was_busy : Limit → ℕ → Bool
was_busy s count =
    not (nat_eq (in_flight_after s count) 0) && (not (nat_eq (previous_left_of s) 0) && not (completes_previous s count))

-- the bytes in the queue that weren't needed to keep it busy (`slack`)
abbrev pub slack_of : Limit → ℕ → ℕ
slack_of s count =
    max ((s.limit + s.previous_over) - 2 * count)
    (if nat_eq s.previous_over 0 then 0 else s.previous_last_object - s.previous_over)

-- a starved limit grows by the bytes completed beyond those queued at the previous completion, and by the previous excess
abbrev pub grown : Limit → ℕ → ℕ → Limit
grown s count now = record s {
  limit = s.limit + (((s.completed + count) - s.previous_queued) + s.previous_over);
  lowest_slack = 4294967295;
  slack_start = now;
}

-- the lowest slack is recorded; once it has lasted longer than the hold time, the limit shrinks by it
abbrev pub slackened : Limit → ℕ → ℕ → Limit
slackened s lowest now =
    if nat_lt (s.slack_start + s.hold) now then record s { limit = s.limit - lowest; lowest_slack = 4294967295; slack_start = now }
    else record s { lowest_slack = lowest }

-- the limit, its lowest slack and the start of the slack, before the limit is clamped
abbrev pub adjusted : Limit → ℕ → ℕ → Limit
adjusted s count now =
    if is_starved s count then grown s count now
    else (if was_busy s count then slackened s (min s.lowest_slack (slack_of s count)) now else s)

-- clamped between the least and the greatest limit
abbrev pub bounded : Limit → ℕ → ℕ
bounded s limit = max s.min_limit (min limit s.max_limit)

-- the limit after count bytes are completed and the limit is set to aimed; if the limit changes, the recorded excess is 0
abbrev pub limit_settled : Limit → ℕ → Limit → Limit
limit_settled s count aim = record s {
  completed = s.completed + count;
  limit = bounded s aim.limit;
  lowest_slack = aim.lowest_slack;
  slack_start = aim.slack_start;
  previous_queued = s.queued;
  previous_over = if nat_eq (bounded s aim.limit) s.limit then over_of s else 0;
  previous_last_object = s.last_object;
}

-- the limit after count bytes are completed at the time now (`dql_completed`)
abbrev pub after_completed : Limit → ℕ → ℕ → Limit
after_completed s count now = limit_settled s count (adjusted s count now)

-- Whole runs.

-- the first reason why an object of count bytes can't be queued, if there is one
abbrev pub queued_fault : Limit → ℕ → Option DqlFault
queued_fault s count =
    if nat_lt DQL_MAX_OBJECT count then Some TooLarge
    else (if nat_lt most_in_flight (in_flight_of s + count) then Some TooMuchInFlight else None)

-- the reason why count bytes can't be completed, if there is one
abbrev pub completed_fault : Limit → ℕ → Option DqlFault
completed_fault s count = if nat_lt (in_flight_of s) count then Some MoreThanQueued else None

-- the reason why an event fails, if it does
abbrev pub limit_event_fault : Limit → LimitEvent → Option DqlFault
limit_event_fault s (Queued count) = queued_fault s count
limit_event_fault s (Completed count now) = completed_fault s count
limit_event_fault s (Reset now) = None

-- the limit after an event that succeeds
abbrev pub limit_after : Limit → LimitEvent → Limit
limit_after s (Queued count) = after_queued s count
limit_after s (Completed count now) = after_completed s count now
limit_after s (Reset now) = after_reset s now
