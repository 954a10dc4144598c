-- A completion of 0 bytes, and one of more.
use Rattle.std.proofs.Common.{◌≡◌, ℕ, ◌+◌, ◌<◌, Bool, cond, ap, eq-eqb, ne_eqb, arith}
use Rattle.tx_ring.specs.Queue.{TransmitQueue, oldest_bytes, after_bytes, after_done}

pub after_done-none : (t : TransmitQueue) (count now : ℕ) → oldest_bytes t count ≡ 0
    → after_done t count now ≡ record t { done = t.done + count }
unfolding after_done
after_done-none t count now e =
    ap (λ (b : Bool). cond b (record t { done = t.done + count }) (after_bytes t count (oldest_bytes t count) now))
    (eq-eqb (oldest_bytes t count) 0 e)

pub after_done-some : (t : TransmitQueue) (count now : ℕ) → 0 < oldest_bytes t count
    → after_done t count now ≡ after_bytes t count (oldest_bytes t count) now
unfolding after_done
after_done-some t count now h =
    ap (λ (b : Bool). cond b (record t { done = t.done + count }) (after_bytes t count (oldest_bytes t count) now))
    (ne_eqb (oldest_bytes t count) 0 (λ e. omega arith))
