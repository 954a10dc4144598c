-- The state word. The flags have the bits of `NAPI_STATE_..` in include/linux/netdevice.h; bits 32 and 33, of an instance that
-- is queued and not yet taken, are this project's own.
use Rattle.std.specs.Prelude.{◌≡◌, ◌≢◌, ◌==◌, not, ℕ, ◌+◌, ◌-◌, Bool, true, false, ◌⊎◌, bit_and, Option, Some, None}
use Rattle.napi_model.specs.declared.state.{Flags.Flags, Kind.{Kind, TheVariants.{List, Thread}}, Seen.Seen}

abbrev pub bit_if : Bool → ℕ → ℕ
bit_if true bit = bit
bit_if false bit = 0

abbrev pub flags_word : Flags → ℕ
flags_word f =
    bit_if f.sched 1 + bit_if f.missed 2 + bit_if f.disable 4 + bit_if f.npsvc 8
    + bit_if f.in_busy_poll 64 + bit_if f.threaded 256 + bit_if f.sched_threaded 512

abbrev pub mark_word : Option Kind → ℕ
mark_word None = 0
mark_word (Some List) = 4294967296
mark_word (Some Thread) = 8589934592

-- the sum of the bits of exactly these flags and this mark
unfoldable pub word_of : Seen → ℕ
word_of s = flags_word s.flags + mark_word s.handed

abbrev pub both_marks : ℕ
both_marks = 4294967296 + 8589934592

-- the named bits among the 64, and the unnamed ones
abbrev pub named_bits : ℕ
named_bits = 1 + 2 + 4 + 8 + 64 + 256 + 512 + both_marks

abbrev pub other_bits : ℕ
other_bits = 18446744073709551615 - named_bits

-- an unnamed bit is set, or both marks are
abbrev pub IsMalformed : ℕ → Type 0
IsMalformed word = (bit_and word other_bits ≢ 0) ⊎ (bit_and word both_marks ≡ both_marks)

-- what the named bits decode to
abbrev pub has_bit : ℕ → ℕ → Bool
has_bit word bit = not (bit_and word bit == 0)

abbrev pub mark_in : Bool → Bool → Option Kind
mark_in true b = Some List
mark_in false true = Some Thread
mark_in false false = None

unfoldable pub seen_in : ℕ → Seen
seen_in word = record {
  flags = record {
    sched = has_bit word 1;
    missed = has_bit word 2;
    disable = has_bit word 4;
    npsvc = has_bit word 8;
    in_busy_poll = has_bit word 64;
    threaded = has_bit word 256;
    sched_threaded = has_bit word 512;
  };
  handed = mark_in (has_bit word 4294967296) (has_bit word 8589934592);
}
