-- Rings as objects of handles.
use Rattle.rx_ring.specs.{declared.{ends.RxCtx.RxCtx, packet.{Packet.Packet, RxCounts.RxCounts}}, Ends.{GivesNext, SameIn, put_list}}
use Rattle.{rx_ring.specs.Ends.{capacity_of, received_list}}
use Rattle.{c_handles.specs.declared.{body.{Ring.Ring, Object.Object}, input.RingInput.RingInput}}
use Rattle.std.specs.Prelude.{◌≡◌, ℕ, ◌==◌, if◌then◌else◌, List, Option, Some, None, [], ◌++◌, length}
use Rattle.c_handles.specs.Status.{BAD_HANDLE}
use Rattle.c_handles.specs.{declared.handle.FqHandle.FqHandle, Status.{OK, FULL}}
use Rattle.c_handles.specs.CallerCalls.{ctx_counts, caller_counts, controller_counts}
use Rattle.place_ring.specs.Places.{IsPlacePair, input_capacity, output_capacity, published_of, claimed_of, released_of, peeked_of}
use Rattle.place_ring.specs.declared.ends.{PlaceIn.PlaceIn, PlaceOut.PlaceOut}
use Rattle.c_handles.specs.declared.body.Object.TheVariants as body

-- the handle has this ring as its object
abbrev pub LeadsTo : FqHandle → Ring → Type 0
LeadsTo handle ring = handle.held.body ≡ Some (body.Ring ring)

-- the object is a ring with this property
abbrev pub IsRingWith : (Ring → Type 0) → Object → Type 0
IsRingWith P (body.Ring ring) = P ring
IsRingWith P _ = ⊥

-- the handle has a ring with this property as its object
abbrev pub LeadsToRing : (Ring → Type 0) → Option Object → Type 0
LeadsToRing P None = ⊥
LeadsToRing P (Some x) = IsRingWith P x

-- the object is only the input end of a ring with this property, or only the poll end
abbrev pub IsInputWith : (RingInput → Type 0) → Object → Type 0
IsInputWith P (body.In input) = P input
IsInputWith P _ = ⊥

abbrev pub LeadsToInput : (RingInput → Type 0) → Option Object → Type 0
LeadsToInput P None = ⊥
LeadsToInput P (Some x) = IsInputWith P x

-- the object has this input end, alone or as part of a whole ring
abbrev pub HasInput : RingInput → Object → Type 0
HasInput i (body.Ring ring) = ring.input ≡ i
HasInput i (body.In input) = input ≡ i
HasInput i _ = ⊥

abbrev pub LeadsToItsInput : RingInput → Option Object → Type 0
LeadsToItsInput i None = ⊥
LeadsToItsInput i (Some x) = HasInput i x

abbrev pub IsCtxWith : (RxCtx → Type 0) → Object → Type 0
IsCtxWith P (body.Ctx ctx) = P ctx
IsCtxWith P _ = ⊥

abbrev pub LeadsToCtx : (RxCtx → Type 0) → Option Object → Type 0
LeadsToCtx P None = ⊥
LeadsToCtx P (Some x) = IsCtxWith P x

-- a new ring of this capacity
pub record IsNewRing (capacity : ℕ) (ring : Ring) : Type 0 where
  pub capacity_is : capacity_of ring.input.end ≡ capacity
  pub nothing_put : put_list ring.input.end ≡ []
  pub nothing_received : received_list ring.ctx ≡ []

-- the packets were put at the end of the ring, in order
pub record IsAfterPut (before : Ring) (packets : List Packet) (after : Ring) : Type 0 where
  pub put : put_list after.input.end ≡ put_list before.input.end ++ packets
  pub ctx : after.ctx ≡ before.ctx

-- the packets were put, for a ring whose poll end isn't in this object
pub record IsAfterInput (before : RingInput) (packets : List Packet) (after : RingInput) : Type 0 where
  pub ring : SameIn before.end after.end
  pub put : put_list after.end ≡ put_list before.end ++ packets

-- the status of a burst, of which this many packets were put
abbrev pub burst_in : Object → ℕ → List Packet → ℕ
burst_in (body.Ring ring) count packets = if count == length packets then OK else FULL
burst_in (body.In input) count packets = if count == length packets then OK else FULL
burst_in _ count packets = BAD_HANDLE

abbrev pub burst_status : Option Object → ℕ → List Packet → ℕ
burst_status None count packets = BAD_HANDLE
burst_status (Some x) count packets = burst_in x count packets

-- a poll of this weight returned these packets
pub record IsAfterPoll (weight : ℕ) (before : Ring) (given : List Packet) (after : Ring) : Type 0 where
  pub input : after.input ≡ before.input
  pub next : GivesNext weight before.ctx after.ctx given

-- ---- rings of places

-- the object is the input end of a ring of places with this property, or the output end
abbrev pub IsPlaceInWith : (PlaceIn → Type 0) → Object → Type 0
IsPlaceInWith P (body.PlaceIn input) = P input
IsPlaceInWith P _ = ⊥

abbrev pub LeadsToPlaceIn : (PlaceIn → Type 0) → Option Object → Type 0
LeadsToPlaceIn P None = ⊥
LeadsToPlaceIn P (Some x) = IsPlaceInWith P x

abbrev pub IsPlaceOutWith : (PlaceOut → Type 0) → Object → Type 0
IsPlaceOutWith P (body.PlaceOut output) = P output
IsPlaceOutWith P _ = ⊥

abbrev pub LeadsToPlaceOut : (PlaceOut → Type 0) → Option Object → Type 0
LeadsToPlaceOut P None = ⊥
LeadsToPlaceOut P (Some x) = IsPlaceOutWith P x

-- the two ends of a new ring of places of this capacity
pub record AreNewPlaces (capacity : ℕ) (input : PlaceIn) (output : PlaceOut) : Type 0 where
  pub one : IsPlacePair input output
  pub capacity_is : (input_capacity input ≡ capacity) × (output_capacity output ≡ capacity)
  pub nothing_published : (published_of input ≡ 0) × (released_of output ≡ 0)
  pub nothing_owned : (claimed_of input ≡ 0) × (peeked_of output ≡ 0)

-- ---- what is counted

-- the counts of the ring's polls, if the object has its poll end
abbrev pub ring_counts_in : Object → Option RxCounts
ring_counts_in (body.Ring ring) = Some (ctx_counts ring.ctx)
ring_counts_in (body.Ctx ctx) = Some (ctx_counts ctx)
ring_counts_in (body.Caller s) = caller_counts s.state
ring_counts_in (body.Controller controller) = controller_counts controller.state
ring_counts_in _ = None

abbrev pub CountsAre : RxCounts → Option Object → Type 0
CountsAre counts None = ⊥
CountsAre counts (Some x) = ring_counts_in x ≡ Some counts
