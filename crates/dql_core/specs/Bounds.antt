-- The bounds of queue limits, as `include/linux/dynamic_queue_limits.h` of Linux 6.6 has them for counters of 32 bits.
use Rattle.std.specs.Prelude.{ℕ}

-- the most bytes of one object: `UINT_MAX / 16`
abbrev pub DQL_MAX_OBJECT : ℕ
DQL_MAX_OBJECT = 268435455

-- the greatest limit: `(UINT_MAX / 2) - DQL_MAX_OBJECT`
abbrev pub DQL_MAX_LIMIT : ℕ
DQL_MAX_LIMIT = 1879048192

-- the most bytes in flight, a quarter of a counter's range; the kernel has no such bound
abbrev pub most_in_flight : ℕ
most_in_flight = 1073741823
