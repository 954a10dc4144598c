-- The complete history of a closed instance.
use Rattle.std.specs.Prelude.{◌≡◌, ℕ, ◌<◌, ◌≤◌, List, [], ◌∷◌, ◌++◌, length, slice_get, Some, false}
use Rattle.rx_ring.specs.{declared.ends.RxCtx.RxCtx, Ends.{ring_name, received_list}}
use Rattle.napi_model.specs.{declared.{state.Place.TheVariants.Control, event.Event.Event}, Step.opening, History.LegalHistory}
use Rattle.{napi_model.specs.History.{state_after, own, IsAcceptedSchedule}, napi_word.specs.declared.table.Pass.Pass}
use Rattle.napi_word.specs.{declared.history.Delivery.Delivery, Knowledge.{own_deliveries, received_by, deliverers}, Slot.givers}
use Rattle.napi_calls.specs.{declared.types.{Napi.Napi, Caller.Caller}, Seats.{pass_number, shown, own_list}, Instance.callers_of}
use Rattle.napi_calls.specs.{Instance.{ring_of_instance, first_of_instance}, Packets.own_delivered, Served.IsPolledBeforeRelease}
use mathlib.Core.List.{IsPrefix}

-- the callers' passes
abbrev pub seats_of : List Caller → List Pass
seats_of [] = []
seats_of (c ∷ cs) = c.pass ∷ seats_of cs

-- a property of each of these passes
abbrev pub Each : List Pass → (Pass → Type 0) → Type 0
Each seats P = (k : ℕ) (p : Pass) → slice_get seats k ≡ Some p → P p

-- k is the controller's number, and `seats` are the passes of all callers of an instance, including the controller's
pub record IsHistoryOf (k : ℕ) (seats : List Pass) (h : List Event) : Type 0 where
  pub legal : LegalHistory k (opening k) h
  -- the history that a pass has seen is a prefix of h
  pub begins : Each seats (λ p. IsPrefix (shown p) h)
  -- each pass's own list is exactly its number's events in h; each number has a pass, and no other number has an event
  pub exact : Each seats (λ p. own (pass_number p) h ≡ own_list p)
  pub all : (c : ℕ) → c ≤ k → (i : ℕ) × (p : Pass) × (slice_get seats i ≡ Some p) × (pass_number p ≡ c)
  pub only : (c : ℕ) → k < c → own c h ≡ []
  -- the longest history that a pass shows is h itself
  pub longest : Each seats (λ p. Each seats (λ q. length (shown q) ≤ length (shown p)) → shown p ≡ h)
  -- after h, the controller owns the instance
  pub ends : (state_after (opening k) h).place ≡ Control k
  -- every accepted schedule is followed by a Released, and a poll starts before it
  pub served : (front : List Event) (e : Event) (rest : List Event) → h ≡ front ++ e ∷ rest
      → IsAcceptedSchedule (state_after (opening k) front) e → IsPolledBeforeRelease false rest

-- The instance was closed with all its callers: there is exactly one such history, and the context belongs to the ring with
-- which the instance was made.
pub record IsClosed (n : Napi) (callers : List Caller) (control : Pass) (ctx : RxCtx) : Type 0 where
  pub all : length callers ≡ callers_of n
  pub history : List Event
  pub is : IsHistoryOf (callers_of n) (seats_of callers ++ control ∷ []) history
  pub ring : ring_name ctx ≡ ring_of_instance n
  -- one delivery for each event that returned the context to the slot, in order; each caller's own deliveries are those that it
  -- made
  pub deliveries : List Delivery
  pub order : deliverers deliveries ≡ givers (opening (callers_of n)) history
  pub own_exact : Each (seats_of callers ++ control ∷ []) (λ p. own_deliveries (pass_number p) deliveries ≡ own_delivered p)
  pub own_only : (c : ℕ) → callers_of n < c → own_deliveries c deliveries ≡ []
  -- the context has received the packets that it had when the instance was made, followed by those of all deliveries: each
  -- packet once
  pub received : received_list ctx ≡ received_by (first_of_instance n) deliveries
