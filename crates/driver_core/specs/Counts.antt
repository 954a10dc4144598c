-- The counts of a device's polls. Each count saturates at 64 bits.
use Rattle.std.specs.Prelude.{ℕ, ◌+◌, min}
use Rattle.driver_core.specs.declared.counts.PollCounts.{PollCounts}

abbrev pub no_counts : PollCounts
no_counts = record { polls = 0; packets = 0 }

-- the counts after one more poll, with this many packets
abbrev pub count_one_poll : ℕ → PollCounts → PollCounts
count_one_poll packets c = record {
  polls = min (c.polls + 1) 18446744073709551615;
  packets = min (c.packets + packets) 18446744073709551615;
}
