-- The turns of a poller until its queue was closed: nothing is queued for it any more.
use Rattle.{std.specs.Prelude.{Bool, false, List}, poll_runs.specs.Polls.Chain}
use Rattle.poll_engine.specs.{declared.setup.signals.Waker.Waker, Wakers.SawClosed}

-- turns one after the other, each of which polled something or nothing; the poller saw its queue closed before the last one, which
-- polled nothing
pub record IsServed {S : Type 0} (waker : Waker) (turns : S → Bool → S → Type 0) (before after : S) : Type 0 where
  pub found : List Bool
  pub last : S
  pub earlier : Chain turns before found last
  pub closed : SawClosed waker last
  pub empty : turns last false after
