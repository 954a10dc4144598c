-- The statuses that these calls return. They are among the statuses of all calls for C.
use Rattle.std.specs.Prelude.{ℕ}

abbrev pub FILES_OK : ℕ
FILES_OK = 0

abbrev pub FILES_OUT_OF_MEMORY : ℕ
FILES_OUT_OF_MEMORY = 112

abbrev pub FILES_BAD_WEIGHT : ℕ
FILES_BAD_WEIGHT = 114

abbrev pub FILES_NO_ROOM : ℕ
FILES_NO_ROOM = 115

abbrev pub FILES_BAD_BUDGET : ℕ
FILES_BAD_BUDGET = 116

abbrev pub FILES_BAD_TRACE : ℕ
FILES_BAD_TRACE = 120

abbrev pub FILES_BAD_SIZE : ℕ
FILES_BAD_SIZE = 122

abbrev pub FILES_BAD_SETTING : ℕ
FILES_BAD_SETTING = 123

abbrev pub FILES_BAD_ARRIVALS : ℕ
FILES_BAD_ARRIVALS = 124
