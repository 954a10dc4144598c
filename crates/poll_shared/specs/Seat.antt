-- The effect of the calls by a caller's handle on a shared instance. Names with "seat" are about such handles.
use Rattle.std.specs.Prelude.{◌≡◌, List, [], ◌∷◌, ◌++◌, Option, Some, None}
use Rattle.rx_ring.specs.{Ends.GivesNext, declared.{ends.RxCtx.RxCtx, packet.Packet.Packet}}
use Rattle.{napi_model.specs.declared.event.Operation.Operation, napi_word.specs.{declared.table.Pass.Pass, Knowledge.packets_of}}
use Rattle.napi_calls.specs.{declared.types.Napi.Napi, Instance.IsSeatOf, Made.Made, Packets.{own_delivered, polled}}
use Rattle.{poll_runs.specs.Plan.{Action, gave, given, made, operations}}
use Rattle.poll_shared.specs.declared.seat.SharedHandle.{SharedHandle}
use Rattle.napi_calls.specs.declared.state.CallerState.{CallerState, TheVariants.{Rests, Granted, Polls, Busy, Gone}}

abbrev pub handle_pass : CallerState → Option Pass
handle_pass (Rests c) = Some c.pass
handle_pass (Granted g) = Some g.pass
handle_pass (Polls w) = Some w.pass
handle_pass (Busy b) = Some b.pass
handle_pass Gone = None

abbrev pub handle_ctx : CallerState → Option RxCtx
handle_ctx (Polls w) = Some w.ctx
handle_ctx (Busy b) = Some b.ctx
handle_ctx _ = None

-- the packets that the caller has polled so far: those that it delivered, and then those that it polled since it took the
-- context
abbrev pub packets_by : CallerState → List Packet
packets_by (Rests c) = packets_of (own_delivered c.pass)
packets_by (Granted g) = packets_of (own_delivered g.pass)
packets_by (Polls w) = packets_of (own_delivered w.pass) ++ polled w.pass w.ctx
packets_by (Busy b) = packets_of (own_delivered b.pass) ++ polled b.pass b.ctx
packets_by Gone = []

-- these operations lead from the first pass to the second
abbrev pub MadeBy : List Operation → Option Pass → Option Pass → Type 0
MadeBy [] p q = q ≡ p
MadeBy (o ∷ os) (Some p) (Some q) = Made p (o ∷ os) q
MadeBy (o ∷ os) _ _ = ⊥

-- Each poll returned the next packets of the context: at least those that the context knew of (up to the weight), at most the
-- weight. The effect of an operation on the context is stated by its call.
abbrev pub GivesEach : Option RxCtx → List (Action Packet) → Option RxCtx → Type 0
GivesEach x [] y = y ≡ x
GivesEach x (made o ∷ deeds) y = (next : Option RxCtx) × GivesEach next deeds y
GivesEach (Some x) (gave weight packets ∷ deeds) y =
    (next : RxCtx) × GivesNext weight x next packets × GivesEach (Some next) deeds y
GivesEach None (gave weight packets ∷ deeds) y = ⊥

abbrev pub IsRest : Napi → CallerState → Type 0
IsRest napi (Rests c) = IsSeatOf napi c.pass
IsRest napi _ = ⊥

abbrev pub IsInHand : Napi → CallerState → Type 0
IsInHand napi (Polls w) = IsSeatOf napi w.pass
IsInHand napi _ = ⊥

abbrev pub IsInBusyHand : Napi → CallerState → Type 0
IsInBusyHand napi (Busy b) = IsSeatOf napi b.pass
IsInBusyHand napi _ = ⊥

module _ {R : Type 0} where
  abbrev pub seat_rests : SharedHandle R → Type 0
  seat_rests s = IsRest s.napi.now s.state

  abbrev pub seat_in_hand : SharedHandle R → Type 0
  seat_in_hand s = IsInHand s.napi.now s.state

  abbrev pub seat_in_busy : SharedHandle R → Type 0
  seat_in_busy s = IsInBusyHand s.napi.now s.state

  -- these actions were taken by this handle: it made the operations, and polled the packets
  pub record SeatDid (s : SharedHandle R) (deeds : List (Action Packet)) (t : SharedHandle R) : Type 0 where
    pub thread : t.thread ≡ s.thread
    pub made : MadeBy (operations deeds) (handle_pass s.state) (handle_pass t.state)
    pub gave : packets_by t.state ≡ packets_by s.state ++ given deeds
    pub each : GivesEach (handle_ctx s.state) deeds (handle_ctx t.state)
