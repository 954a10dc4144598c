-- The bounds of a ring of places.
use Rattle.std.specs.Prelude.{ℕ}

-- the greatest capacity of a ring, in places
abbrev pub most_ring_places : ℕ
most_ring_places = 65536

-- the most places that a claim or a peek gives, a poll's weight (`NAPI_POLL_WEIGHT`, `include/linux/netdevice.h` of Linux 6.6)
abbrev pub most_at_once : ℕ
most_at_once = 64
