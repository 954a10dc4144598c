-- A closed table: its complete history.
use Rattle.std.specs.Prelude.{◌≡◌, ◌↔◌, ℕ, ◌<◌, ◌≤◌, ◌+◌, Bool, true, false, List, length, slice_get, Option, Some, None, ◌≢◌, [], ◌∷◌}
use Rattle.std.specs.Prelude.{◌++◌}
use Rattle.rx_ring.specs.{declared.ends.RxCtx.RxCtx, Ends.{RingName, ring_name, received_list, SameCtx}}
use Rattle.napi_model.specs.{declared.event.Event.Event, Step.opening, History.{LegalHistory, state_after, own}, Laws.is_owner}
use Rattle.napi_word.specs.declared.{history.{Holds.{Holds, TheVariants.{Nothing, Within, Out}}, Delivery.Delivery}, gathering.Found.Found}
use Rattle.napi_word.specs.declared.{gathering.Gathering.Gathering, table.{Pass.Pass, StateTable.StateTable}}
use Rattle.napi_word.specs.Knowledge.{Knowledge, first_in}
use Rattle.napi_word.specs.Knowledge.{view_delivered, own_deliveries, received_by, last_of, deliverers, view_ring, place_in}
use Rattle.napi_word.specs.Knowledge.{view_controller}
use Rattle.napi_word.specs.Knowledge.{view_shown, mine}
use Rattle.napi_word.specs.{Knowledge.view_number, Slot.givers, Passes.{view_of, controller_of_table, ring_of_table, first_of_table}}
use mathlib.Core.List.{IsPrefix}

-- what a pass with this hold on the slot adds to what was found so far
abbrev pub Finds : Holds → Option RingName → Found → Found → Type 0
Finds Nothing ring before after = after ≡ before
Finds Within ring before after = (x : RxCtx) × (after ≡ record before { ctx = Some x }) × (ring ≡ Some (ring_name x))
Finds Out ring before after = after ≡ record before { out = true }

abbrev pub picked : Bool → Option RxCtx → Option RxCtx → Option RxCtx
picked true held slot = None
picked false (Some x) slot = Some x
picked false None slot = slot

-- one of the passes has taken the context out of the slot
abbrev pub IsOut : List Pass → Type 0
IsOut passes = (k : ℕ) × (p : Pass) × (slice_get passes k ≡ Some p) × (p.holds ≡ Out)

-- the concatenated views of the passes
abbrev pub views_of : List Pass → Knowledge
views_of [] = []
views_of (p ∷ ps) = views_of ps ++ view_of p

abbrev pub IsGatheredOf : StateTable → Gathering → Type 0
IsGatheredOf t g = g.seat.table_id ≡ t.table.shared.table_id

-- one seat has joined the seats of these passes, the last pass first, and this was found in them (a seat is what `atomic_table`
-- gives a thread for its steps)
pub record Gathered (taken : List Pass) (v : Knowledge) (f : Found) : Type 0 where
  pub views : v ≡ views_of taken
  pub some_out : f.out ≡ true → IsOut taken
  pub none_out : f.out ≡ false → (k : ℕ) (p : Pass) → slice_get taken k ≡ Some p → p.holds ≢ Out
  pub none_within : f.ctx ≡ None → (k : ℕ) (p : Pass) → slice_get taken k ≡ Some p → p.holds ≢ Within
  pub ring : (x : RxCtx) → f.ctx ≡ Some x
      → (k : ℕ) × (p : Pass) × (slice_get taken k ≡ Some p) × (view_ring (view_of p) ≡ Some (ring_name x)) × (p.holds ≡ Within)

-- the table was closed with all its passes
pub record IsClosedTable (t : StateTable) (passes : List Pass) (ctx : Option RxCtx) : Type 0 where
  -- the complete history, which is legal
  pub history : List Event
  pub legal : LegalHistory (controller_of_table t) (opening (controller_of_table t)) history
  -- each pass has seen a prefix of the history, and its own list is its number's events in it
  pub begins : (k : ℕ) (p : Pass) → slice_get passes k ≡ Some p → IsPrefix (view_shown (view_of p)) history
  pub exact : (k : ℕ) (p : Pass) → slice_get passes k ≡ Some p → own (view_number (view_of p)) history ≡ mine (view_of p)
  -- the passes are distinct; each number from 0 to the controller's has one of them, and no other number has an event
  pub count : length passes ≡ controller_of_table t + 1
  pub each : (c : ℕ) → c ≤ controller_of_table t → (k : ℕ) × (p : Pass) × (slice_get passes k ≡ Some p) × (view_number (view_of p) ≡ c)
  pub others : (c : ℕ) → controller_of_table t < c → own c history ≡ []
  -- the longest history that a pass shows is the complete history
  pub longest : (k : ℕ) (p : Pass) → slice_get passes k ≡ Some p
      → ((j : ℕ) (q : Pass) → slice_get passes j ≡ Some q → length (view_shown (view_of q)) ≤ length (view_shown (view_of p)))
      → view_shown (view_of p) ≡ history
  -- The packets that each owner of the slot received, in the order in which the owners returned the slot. Each pass has seen a
  -- prefix of these deliveries that includes all of its own; no other caller has a delivery; and the owner of the slot has seen
  -- all of them.
  pub deliveries : List Delivery
  pub firsts : (k : ℕ) (p : Pass) → slice_get passes k ≡ Some p → first_in (view_of p) ≡ Some (first_of_table t)
  pub deliveries_order : deliverers deliveries ≡ givers (opening (controller_of_table t)) history
  pub deliveries_begin : (k : ℕ) (p : Pass) → slice_get passes k ≡ Some p → IsPrefix (view_delivered (view_of p)) deliveries
  pub deliveries_exact : (k : ℕ) (p : Pass) → slice_get passes k ≡ Some p
      → own_deliveries (view_number (view_of p)) deliveries ≡ own_deliveries (view_number (view_of p)) (view_delivered (view_of p))
  pub deliveries_others : (c : ℕ) → controller_of_table t < c → own_deliveries c deliveries ≡ []
  pub deliveries_held : (k : ℕ) (p : Pass) → slice_get passes k ≡ Some p → p.holds ≢ Nothing → view_delivered (view_of p) ≡ deliveries
  -- if no pass owns the slot, the context is the one that was returned last, and has received exactly the packets of these
  -- deliveries
  pub received : (x : RxCtx) → ctx ≡ Some x → ((k : ℕ) (p : Pass) → slice_get passes k ≡ Some p → p.holds ≡ Nothing)
      → (received_list x ≡ received_by (first_of_table t) deliveries) × (x ≡ last_of (first_of_table t) deliveries)
  -- a pass that owns the instance by the history that it has seen owns it at the end
  pub places : (k : ℕ) (p : Pass) → slice_get passes k ≡ Some p → is_owner (view_number (view_of p)) (place_in (view_of p)) ≡ true
      → (state_after (opening (controller_of_table t)) history).place ≡ place_in (view_of p)
  -- each pass knows the controller's number, and the ring of the first context
  pub controllers : (k : ℕ) (p : Pass) → slice_get passes k ≡ Some p → view_controller (view_of p) ≡ controller_of_table t
  pub rings : (k : ℕ) (p : Pass) → slice_get passes k ≡ Some p → view_ring (view_of p) ≡ Some (ring_of_table t)
  -- the context is returned unless a pass has taken it out of the slot; it belongs to that ring
  pub none : (ctx ≡ None) ↔ IsOut passes
  pub same : (x : RxCtx) → ctx ≡ Some x → SameCtx (first_of_table t) x
