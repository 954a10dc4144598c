-- The statuses of calls. Each number is used once: 0 for a call that succeeded without another result; 1 to 15 for the errors
-- of a queue limit, as in `DqlFault::number`; 16 to 99 for the result of a call that succeeded; from 100 on for the reason why
-- a call failed.
use Rattle.{std.specs.Prelude.{ℕ, Option, Some, None}, dql_core.specs.{declared.event.DqlFault.DqlFault, Fault.dql_fault_number}}

abbrev pub OK : ℕ
OK = 0

abbrev pub GRANTED : ℕ
GRANTED = 16

abbrev pub MISSED : ℕ
MISSED = 17

abbrev pub DISABLED : ℕ
DISABLED = 18

abbrev pub TAKEN : ℕ
TAKEN = 19

abbrev pub NOT_THERE : ℕ
NOT_THERE = 20

abbrev pub RELEASED : ℕ
RELEASED = 21

abbrev pub AGAIN : ℕ
AGAIN = 22

abbrev pub HELD : ℕ
HELD = 23

abbrev pub BUSY : ℕ
BUSY = 24

abbrev pub CHANGED : ℕ
CHANGED = 25

abbrev pub FULL : ℕ
FULL = 26

abbrev pub DONE : ℕ
DONE = 27

abbrev pub STOPPED : ℕ
STOPPED = 28

abbrev pub NOT_DUE : ℕ
NOT_DUE = 30

abbrev pub NOT_ALLOWED : ℕ
NOT_ALLOWED = 100

abbrev pub BAD_KIND : ℕ
BAD_KIND = 101

abbrev pub BAD_HANDLE : ℕ
BAD_HANDLE = 110

abbrev pub IN_USE : ℕ
IN_USE = 111

abbrev pub OUT_OF_MEMORY : ℕ
OUT_OF_MEMORY = 112

abbrev pub BAD_CAPACITY : ℕ
BAD_CAPACITY = 113

abbrev pub BAD_WEIGHT : ℕ
BAD_WEIGHT = 114

abbrev pub NO_ROOM : ℕ
NO_ROOM = 115

abbrev pub BAD_BUDGET : ℕ
BAD_BUDGET = 116

abbrev pub BAD_COUNT : ℕ
BAD_COUNT = 117

abbrev pub BAD_NEXT : ℕ
BAD_NEXT = 118

abbrev pub BAD_WORK : ℕ
BAD_WORK = 119

abbrev pub BAD_DEVICE : ℕ
BAD_DEVICE = 121

abbrev pub BAD_SIZE : ℕ
BAD_SIZE = 122

abbrev pub BAD_SETTING : ℕ
BAD_SETTING = 123

abbrev pub MORE_THAN_SENT : ℕ
MORE_THAN_SENT = 125

abbrev pub NOT_REPORTED : ℕ
NOT_REPORTED = 126

-- the number of a queue limit's error, or OK if there is none
abbrev pub dql_status : Option DqlFault → ℕ
dql_status None = OK
dql_status (Some fault) = dql_fault_number fault
