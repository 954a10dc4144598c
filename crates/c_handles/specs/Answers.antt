-- The counts of the results of a caller's calls: each result is counted once,
-- and each count saturates.
use Rattle.std.specs.Prelude.{ℕ, ◌+◌, ◌==◌, if◌then◌else◌}
use Rattle.{rx_ring.specs.ReceiveRing.capped, c_handles.specs.Status.{GRANTED, MISSED}}
use Rattle.c_handles.specs.{Status.{DISABLED, RELEASED, AGAIN, HELD, CHANGED}, declared.answers.FqAnswers.FqAnswers}

abbrev pub no_answers : FqAnswers
no_answers = record { size = 64; granted = 0; missed = 0; disabled = 0; released = 0; again = 0; held = 0; changed = 0 }

-- the count of one result, after a call that returned this status
abbrev pub one_more : ℕ → ℕ → ℕ → ℕ
one_more of said count = if said == of then capped (count + 1) else count

abbrev pub count_answer : ℕ → FqAnswers → FqAnswers
count_answer said a = record {
  size = a.size;
  granted = one_more GRANTED said a.granted;
  missed = one_more MISSED said a.missed;
  disabled = one_more DISABLED said a.disabled;
  released = one_more RELEASED said a.released;
  again = one_more AGAIN said a.again;
  held = one_more HELD said a.held;
  changed = one_more CHANGED said a.changed;
}
