-- An owning pointer can be sent to another thread if its value can be sent.
use mir.Raw.{raw}
use base.Shift.{Keyless}
use denote.{Memory.lone, RawPtr.Ptr, Struct.{Struct.exits_of, Owning.{shape, fields, to}}}
use denote.Param.Send.{IsSend, AllSend, owning_send, struct_send, sendable}
use Rattle.{std.specs.{Prelude.{Option, Some, None}, Global.Global}, std_alloc.proofs.SendSync.{quiet, lies}}
use Rattle.c_handles.{proofs.body.Object.TheSendSync.the_send as body, specs.{Held.held_owns, contracts.held.OwnedPtr.{the_row, the_type}}}
use Rattle.std.proofs.Crossing as heap
use Rattle.std_heap.proofs.Global.TheSendSync as handle
use Rattle.c_handles.specs.contracts.body.Object as Body

keyless : (alloc : Global) (p : Ptr) (o : Option Body.the_row.Denot) → Keyless (held_owns alloc p o)
keyless alloc p None = tt
keyless alloc p (Some x) = (lies Body.the_row body p x, heap.frees.frees alloc (raw (lone Body.the_row.mir)) p)

pub send : IsSend the_row
send =
    let all : AllSend (fields the_type) = (search sendable, (handle.the_field_send, tt)) in
    owning_send the_type all (λ d. keyless d.alloc d.ptr d.body)
    (λ k. quiet (to the_type) (exits_of k (fields the_type)) ((struct_send (shape the_type) all).leaving k))
