-- The numbers that calls return, with their names in `include/fintaqush.h` and their messages.
use Rattle.std.specs.Prelude.{ℕ, ◌==◌, if◌then◌else◌, List, [], ◌∷◌, codes}

-- the statuses below 100: success, errors of a queue limit, and results (`enum fq_status`)
abbrev pub results : List (ℕ × (List ℕ × List ℕ))
results =
    (0, (codes "FQ_OK", codes "done"))
    ∷ (1, (codes "FQ_BAD_BOUNDS", codes "min is above max, or max above 1879048192 bytes"))
    ∷ (2, (codes "FQ_TOO_LARGE", codes "an object of more than 268435455 bytes"))
    ∷ (3, (codes "FQ_TOO_MUCH_IN_FLIGHT", codes "more than 1073741823 bytes would be in flight"))
    ∷ (4, (codes "FQ_MORE_THAN_QUEUED", codes "more bytes are completed than are in flight"))
    ∷ (16, (codes "FQ_GRANTED", codes "the caller owns the instance, and has to queue it"))
    ∷ (17, (codes "FQ_MISSED", codes "already scheduled: one more poll follows, unless the instance is disabled"))
    ∷ (18, (codes "FQ_DISABLED", codes "a disable is pending, and no poll was requested"))
    ∷ (19, (codes "FQ_TAKEN", codes "the caller owns the instance"))
    ∷ (20, (codes "FQ_NOT_THERE", codes "the instance is not queued there, or the number is not on the list"))
    ∷ (21, (codes "FQ_RELEASED", codes "no caller owns the instance any more"))
    ∷ (22, (codes "FQ_AGAIN", codes "a request was missed: the caller has to queue the instance again"))
    ∷ (23, (codes "FQ_HELD", codes "the caller keeps polling"))
    ∷ (24, (codes "FQ_BUSY", codes "another caller owns the instance, or a run has the number"))
    ∷ (25, (codes "FQ_CHANGED", codes "another thread interfered, and nothing is decided: call again"))
    ∷ (26, (codes "FQ_FULL", codes "there is no room"))
    ∷ (27, (codes "FQ_DONE", codes "no poll is left in the run"))
    ∷ (28, (codes "FQ_STOPPED", codes "the limit has stopped the queue"))
    ∷ (30, (codes "FQ_NOT_DUE", codes "this is not due, and nothing has changed"))
    ∷ []

-- the statuses from 100 on: errors (`enum fq_status`)
abbrev pub refusals : List (ℕ × (List ℕ × List ℕ))
refusals =
    (100, (codes "FQ_NOT_ALLOWED", codes "the state of the object does not allow this call"))
    ∷ (101, (codes "FQ_BAD_KIND", codes "the kind is 0 (list) or 1 (thread)"))
    ∷ (110, (codes "FQ_BAD_HANDLE", codes "the handle has no object, or one of another kind"))
    ∷ (111, (codes "FQ_IN_USE", codes "the handle is set already, or the number is listed already"))
    ∷ (112, (codes "FQ_OUT_OF_MEMORY", codes "out of memory"))
    ∷ (113, (codes "FQ_BAD_CAPACITY", codes "the capacity of a ring is 1 to 65536"))
    ∷ (114, (codes "FQ_BAD_WEIGHT", codes "a weight is 1 to 64 packets"))
    ∷ (115, (codes "FQ_NO_ROOM", codes "the array is too short"))
    ∷ (116, (codes "FQ_BAD_BUDGET", codes "budget and window are 1 to 65535"))
    ∷ (117, (codes "FQ_BAD_COUNT", codes "a shared instance has 2 to 8 callers, a driver 1 to 64 devices"))
    ∷ (118, (codes "FQ_BAD_NEXT", codes "how a poll ended is 0 to 4 (enum fq_next)"))
    ∷ (119, (codes "FQ_BAD_WORK", codes "a poll is reported with more packets than the weight"))
    ∷ (120, (codes "FQ_BAD_TRACE", codes "the bytes are not a trace, or a row of it can't be processed"))
    ∷ (121, (codes "FQ_BAD_DEVICE", codes "the driver has no device with this number"))
    ∷ (122, (codes "FQ_BAD_SIZE", codes "a struct's size is not one that the library knows"))
    ∷ (123, (codes "FQ_BAD_SETTING", codes "a setting is out of its range, or doesn't go with another"))
    ∷ (124, (codes "FQ_BAD_ARRIVALS", codes "the bytes are not arrivals"))
    ∷ (125, (codes "FQ_MORE_THAN_SENT", codes "more packets are completed than were sent"))
    ∷ (126, (codes "FQ_NOT_REPORTED", codes "an action waits for its report, and this is not it"))
    ∷ []

-- errors of a trace (`enum fq_fault`)
abbrev pub faults : List (ℕ × List ℕ)
faults =
    (1, codes "BadHeader")
    ∷ (2, codes "BadFields")
    ∷ (3, codes "BadNumber")
    ∷ (4, codes "BadEvent")
    ∷ (5, codes "OutOfRange")
    ∷ (6, codes "UnknownDevice")
    ∷ (7, codes "OpenTwice")
    ∷ (8, codes "WrongState")
    ∷ (9, codes "TooManyRows")
    ∷ (10, codes "ReadFailed")
    ∷ (11, codes "OutOfMemory")
    ∷ (12, codes "Pending")
    ∷ []

-- what a table lists for a number, or this if it has no such number
abbrev pub entry_of : {A : Type 0} → ℕ → List (ℕ × A) → A → A
entry_of number [] other = other
entry_of number (row ∷ rows) other = if number == row.0 then row.1 else entry_of number rows other

-- the name and the message of a status from 100 on; "?" for an unknown number
abbrev pub refusal_texts : ℕ → List ℕ × List ℕ
refusal_texts status = entry_of status refusals (codes "?", codes "?")

-- the name and the message of a status; "?" for an unknown number
abbrev pub status_texts : ℕ → List ℕ × List ℕ
status_texts status = entry_of status results (refusal_texts status)

-- the name of a trace's error; "?" for an unknown number
abbrev pub fault_name : ℕ → List ℕ
fault_name fault = entry_of fault faults (codes "?")
