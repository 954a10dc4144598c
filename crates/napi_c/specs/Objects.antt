-- Which kind of object a handle has. The exports check it, and return BAD_HANDLE for a handle without an object of their kind.
use Rattle.std.specs.Prelude.{◌≡◌, Bool, true, false, is_some, Option, Some, None}
use Rattle.c_handles.specs.Rings.{ring_counts_in}
use Rattle.c_handles.specs.declared.{body.Object.Object, handle.FqHandle.FqHandle}
use Rattle.napi_calls.specs.declared.state.CallerState.{CallerState}
use Rattle.c_handles.specs.declared.body.Object.TheVariants as body
use Rattle.napi_calls.specs.declared.state.CallerState.TheVariants as caller

-- ---- kinds of objects

-- a ring with both ends
abbrev pub is_ring : Object → Bool
is_ring (body.Ring ring) = true
is_ring _ = false

-- a ring with both ends, or only the input end of one
abbrev pub has_input : Object → Bool
has_input (body.Ring ring) = true
has_input (body.In input) = true
has_input _ = false

-- a ring with both ends, or only the poll end of one
abbrev pub has_poll_end : Object → Bool
has_poll_end (body.Ring ring) = true
has_poll_end (body.Ctx ctx) = true
has_poll_end _ = false

-- the input end of a ring of places, or its output end
abbrev pub is_place_in : Object → Bool
is_place_in (body.PlaceIn input) = true
is_place_in _ = false

abbrev pub is_place_out : Object → Bool
is_place_out (body.PlaceOut output) = true
is_place_out _ = false

-- a transmit ring
abbrev pub is_tx : Object → Bool
is_tx (body.Tx ring) = true
is_tx _ = false

-- a caller of a shared instance
abbrev pub is_caller : Object → Bool
is_caller (body.Caller s) = true
is_caller _ = false

-- the controller of a shared instance
abbrev pub is_controller : Object → Bool
is_controller (body.Controller c) = true
is_controller _ = false

-- the caller polls or busy polls
abbrev pub is_poller : CallerState → Bool
is_poller (caller.Polls polling) = true
is_poller (caller.Busy busy) = true
is_poller _ = false

-- a caller that polls or busy polls
abbrev pub is_polling_caller : Object → Bool
is_polling_caller (body.Caller s) = is_poller s.state
is_polling_caller _ = false

-- an object that has the poll end of a ring, and so the counts of its polls: a ring, its poll end, a caller that polls, the
-- controller of a disabled instance
abbrev pub has_counts : Object → Bool
has_counts x = is_some (ring_counts_in x)

-- ---- the object of a handle

-- whether there is an object, of this kind
abbrev pub is_object : (Object → Bool) → Option Object → Bool
is_object is_kind None = false
is_object is_kind (Some x) = is_kind x

-- the handle has an object of this kind
abbrev pub LeadsToKind : (Object → Bool) → FqHandle → Type 0
LeadsToKind is_kind handle = is_object is_kind handle.held.body ≡ true

-- the handle has no object of this kind: it has none, or one of another kind
abbrev pub LeadsToOther : (Object → Bool) → FqHandle → Type 0
LeadsToOther is_kind handle = is_object is_kind handle.held.body ≡ false
