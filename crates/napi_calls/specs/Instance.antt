-- An instance and its new passes, as contracts see them.
use Rattle.std.specs.Prelude.{◌≡◌, ℕ, Some, []}
use Rattle.rx_ring.specs.{declared.ends.RxCtx.RxCtx, Ends.RingName}
use Rattle.napi_word.specs.{declared.table.Pass.Pass, Passes.{IsPassOf, ring_of_table, first_of_table}}
use Rattle.napi_calls.specs.{declared.types.Napi.Napi, Seats.{pass_number, controller_of, shown, own_list, instance_ring}}
use Rattle.napi_calls.specs.{Packets.delivered}

-- the number of callers, which is also the controller's number
abbrev pub callers_of : Napi → ℕ
callers_of n = n.callers

-- the ring of the context with which the instance was made
abbrev pub ring_of_instance : Napi → RingName
ring_of_instance n = ring_of_table n.table

-- the context with which the instance was made
abbrev pub first_of_instance : Napi → RxCtx
first_of_instance n = first_of_table n.table

-- the pass belongs to this instance
abbrev pub IsSeatOf : Napi → Pass → Type 0
IsSeatOf n p = IsPassOf n.table p

-- a new pass: it has seen no events, and made none
pub record IsNewSeat (n : Napi) (number : ℕ) (p : Pass) : Type 0 where
  pub instance : IsSeatOf n p
  pub number_is : pass_number p ≡ number
  pub controller : controller_of p ≡ callers_of n
  pub ring : instance_ring p ≡ Some (ring_of_instance n)
  pub nothing_shown : shown p ≡ []
  pub nothing_done : own_list p ≡ []
  pub nothing_delivered : delivered p ≡ []
