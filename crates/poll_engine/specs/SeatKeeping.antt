-- A poller's handles stay on their instances. (Names with "seat" are about these handles.)
use Rattle.std.specs.{Prelude.{◌≡◌, List, IsSome}, List.AllZip}
use Rattle.{napi_calls.specs.declared.kept.DropBomb.DropBomb, poll_engine.specs.declared.handle.PollHandle.PollHandle}

-- the handle is still on the same instance, with the same waker, and its caller is present again
pub record IsSameSeat (a b : PollHandle) : Type 0 where
  pub number : b.number ≡ a.number
  pub napi : b.napi ≡ a.napi
  pub thread : b.thread ≡ a.thread
  pub caller : IsSome a.caller → IsSome b.caller

abbrev pub AreSameSeats : {R : Type 0} → List (DropBomb R PollHandle) → List (DropBomb R PollHandle) → Type 0
AreSameSeats = AllZip (λ a b. IsSameSeat a.value b.value)
