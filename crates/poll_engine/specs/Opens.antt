-- The instances of stations.
use Rattle.poll_engine.specs.{Runs.{controller_number, poller_number, thread_number}, declared.station.Station.Station}
use Rattle.poll_engine.specs.{declared.setup.opening.Placed.Placed, declared.setup.opening.Loose.Loose}
use Rattle.poll_engine.specs.{Handles.{AreAtRest, AreUnused, IsUnused, pass_of}, Trails.questions, Wakers.Wakes}
use Rattle.std.specs.Prelude.{◌≡◌, ◌≤◌, [], vec_len, vec_capacity}
use Rattle.napi_calls.specs.{declared.types.Napi.Napi, declared.kept.DropBomb.DropBomb, Seats.pass_number}
use Rattle.napi_calls.specs.Instance.{IsSeatOf, callers_of, first_of_instance, ring_of_instance}
use Rattle.rx_ring.specs.{Ends.{IsOneRing, capacity_of, put_list, received_list, ring_name}, declared.ends.RxCtx.RxCtx}
use Rattle.rx_ring.specs.declared.ends.RxIn.{RxIn}

-- a station's number is 1 to 16, and its ring holds 1 to 65536 packets
pub record IsStation {D : Type 0} (station : Station D) : Type 0 where
  pub number : (1 ≤ station.number) × (station.number ≤ 16)
  pub capacity : (1 ≤ station.capacity) × (station.capacity ≤ 65536)

-- this end puts packets into the ring of the instance
abbrev pub IsInputOf : RxIn → Napi → Type 0
IsInputOf rx napi = (ctx : RxCtx) × (ring_name ctx ≡ ring_of_instance napi) × IsOneRing rx ctx

-- the instance has three callers, and room for them is reserved; its ring had received nothing when the instance was made
pub record IsHome (placed : Placed) : Type 0 where
  pub callers : callers_of placed.napi ≡ 3
  pub nothing_received : received_list (first_of_instance placed.napi) ≡ []
  pub empty : vec_len placed.room ≡ 0
  pub room : 3 ≤ vec_capacity placed.room

module _ {D : Type 0} where
  -- the parts of a station that go to its threads
  pub record IsLoose (station : Station D) (loose : Loose D) : Type 0 where
    pub same_number : loose.number ≡ station.number
    pub same_device : loose.device ≡ station.device
    pub places : capacity_of loose.rx ≡ station.capacity
    pub nothing_put : put_list loose.rx ≡ []
    pub thread : loose.has_thread ≡ station.thread
    pub unused : AreUnused loose.handles
    pub poller : IsUnused poller_number loose.poller
    pub own : IsUnused thread_number loose.thread
    pub unasked : questions loose.asked ≡ []

  -- the parts that go to the threads (or came back from them) and the part that stays with the caller belong to one instance
  -- and one ring
  pub record IsPartOf (loose : Loose D) (placed : Placed) : Type 0 where
    pub number : placed.number ≡ loose.number
    pub handles : AreAtRest placed.napi loose.handles
    pub controller : pass_number (pass_of loose.handles.control) ≡ controller_number
    pub poller : IsSeatOf placed.napi loose.poller.pass
    pub thread : IsSeatOf placed.napi loose.thread.pass
    pub ring : IsInputOf loose.rx placed.napi
    pub home : IsHome placed

  -- the parts belong to one instance; and the instance's own thread, if it has one, waits by the waker that stays with the
  -- caller
  pub record IsSideOf (loose : Loose D) (placed : Placed) : Type 0 where
    pub part : IsPartOf loose placed
    pub name : loose.number ≤ 16
    pub has_thread : placed.has_thread ≡ loose.has_thread
    pub wakes : Wakes placed.waker loose.wait

  module _ {R : Type 0} where
    abbrev pub IsKeptLoose : Station D → DropBomb R (Loose D) → Type 0
    IsKeptLoose station kept = IsLoose station kept.value

    abbrev pub IsKeptPartOf : DropBomb R (Loose D) → DropBomb R Placed → Type 0
    IsKeptPartOf loose placed = IsPartOf loose.value placed.value

    abbrev pub IsKeptSideOf : DropBomb R (Loose D) → DropBomb R Placed → Type 0
    IsKeptSideOf loose placed = IsSideOf loose.value placed.value
