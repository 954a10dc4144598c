-- The invariant of a table: there is one legal history, and the word encodes the state after it. Each number's events in it are
-- the own list of one seat (a seat is what `atomic_table` gives a thread for its steps), and every list that a seat shows is a
-- prefix of it.
use Rattle.std.specs.Prelude.{◌≡◌, ◌⊎◌, ℕ, zero, suc, ◌+◌, ◌-◌, ◌<◌, ◌≤◌, true, false, List, [], ◌∷◌, ◌++◌, Some, None}
use Rattle.{atomic_table.specs.Table.State, rx_ring.specs.{declared.ends.RxCtx.RxCtx, Ends.{ring_name, is_beside, received_list}}}
use Rattle.napi_model.specs.{declared.event.Event.Event, Step.{opening, seen_of}, History.{LegalHistory, state_after, own}, Word.word_of}
use Rattle.napi_word.specs.declared.history.{Key.Key, LocalHistory.LocalHistory, Delivery.Delivery}
use Rattle.napi_word.specs.Knowledge.{Knowledge, own_deliveries, received_by, last_of}
use Rattle.napi_word.specs.{Knowledge.deliverers, Slot.{Content, Carried, has_at, is_out, givers}}
use mathlib.Core.List.{IsPrefix}
use lib.ListN.{get_elem?}
use mathlib.Core.Option as maybe

-- the content of the slot while no seat owns it
abbrev pub Homes : Type 0
Homes = List (maybe.Option Content)

-- the slot contains the context of that ring as it was last returned; it has received all packets delivered, and its mark of
-- `beside` is clear, so the next owner's poll reads the ring
abbrev pub Home : RxCtx → List Delivery → Homes → Type 0
Home ring ds homes = (x : RxCtx) × (homes ≡ maybe.some (Some x) ∷ []) × (ring_name x ≡ ring_name ring) × (is_beside x ≡ false)
    × (received_list x ≡ received_by ring ds) × (x ≡ last_of ring ds)

-- the local history of number c, at its position among the seats: no other one has number c, its own list is c's events in the
-- history, and it has seen all of them
pub record Owned (key : Key) (h : List Event) (ds : List Delivery) (seat : ℕ → ℕ × ℕ) (at : ℕ × ℕ) (x : LocalHistory) (c : ℕ) : Type 0 where
  pub whole : own c h ≡ x.mine
  pub shown : own c x.seen ≡ x.mine
  -- c's deliveries are those that it has seen; while c owns the slot, it has seen all deliveries
  pub delivers : own_deliveries c ds ≡ own_deliveries c x.delivered
  pub has : has_at c (state_after (opening key.controller) h).place ≡ true → x.delivered ≡ ds
  pub here : seat c ≡ at
  pub few : c ≤ key.controller

pub record Fits (key : Key) (h : List Event) (ds : List Delivery) (seat : ℕ → ℕ × ℕ) (at : ℕ × ℕ) (x : LocalHistory) : Type 0 where
  pub begins : IsPrefix x.seen h
  pub delivered : IsPrefix x.delivered ds
  pub owned : (c : ℕ) → x.number ≡ Some c → Owned key h ds seat at x c
  pub controller : x.controller ≡ key.controller
  pub ring : x.ring ≡ key.ring.value
  pub begun : x.begun ≡ true

-- the invariant, for the word, the content of the slot and all views
pub record Kept (key : Key) (s : State Content Knowledge) : Type 0 where
  pub history : List Event
  -- the packets that each owner of the slot received, in the order in which the owners returned the slot
  pub deliveries : List Delivery
  -- where each number's local history is: the seat, and the index in its view
  pub seat : ℕ → ℕ × ℕ
  pub legal : LegalHistory key.controller (opening key.controller) history
  pub word : s.words ≡ word_of (seen_of (state_after (opening key.controller) history)) ∷ []
  -- while no caller polls or controls the instance, the context is in the slot; otherwise its owner has it
  pub slot : is_out (state_after (opening key.controller) history).place ≡ false → Home key.ring.value deliveries s.homes
  pub histories : (id : ℕ) (v : Knowledge) → get_elem? s.views id ≡ maybe.some v → (k : ℕ) (x : LocalHistory) → get_elem? v k ≡ maybe.some x
      → Fits key history deliveries seat (id, k) x
  -- only numbers from 0 to the controller's have events
  pub few : (c : ℕ) → key.controller < c → own c history ≡ []
  -- there is one delivery for each event that returned the slot
  pub order : deliverers deliveries ≡ givers (opening key.controller) history
  pub few_deliver : (c : ℕ) → key.controller < c → own_deliveries c deliveries ≡ []

-- ---- how a table is made: the first seat takes the slot for the controller, and splits off a seat for each other number

-- the local history of number c, which has seen and done nothing
abbrev pub new_history : ℕ → RxCtx → ℕ → LocalHistory
new_history controller ring c =
    record { begun = true; number = Some c; seen = []; mine = []; delivered = []; controller = controller; ring = ring }

-- the new local histories of this many numbers, from n on
abbrev pub new_histories_from : ℕ → RxCtx → ℕ → ℕ → Knowledge
new_histories_from controller ring n zero = []
new_histories_from controller ring n (suc k) = new_history controller ring n ∷ new_histories_from controller ring (n + 1) k

-- the local histories of the controller, and of the numbers from n on, which aren't split off yet
abbrev pub maker_at : ℕ → RxCtx → ℕ → Knowledge
maker_at controller ring n = new_history controller ring controller ∷ new_histories_from controller ring n (controller - n)

abbrev pub first_view : Key → Knowledge
first_view key =
    record { begun = false; number = None; seen = []; mine = []; delivered = []; controller = key.controller; ring = key.ring.value } ∷ []

abbrev pub begun_slot : Knowledge → Carried
begun_slot [] = []
begun_slot (x ∷ xs) = (0, Some x.ring) ∷ []

abbrev pub begun_view : Knowledge → Knowledge
begun_view [] = []
begun_view (x ∷ xs) = maker_at x.controller x.ring 0

-- before the first seat takes the slot: the slot contains the context with which the table is made
pub record Starts (key : Key) (s : State Content Knowledge) : Type 0 where
  pub word : s.words ≡ 9 ∷ []
  pub home : s.homes ≡ maybe.some (Some key.ring.value) ∷ []
  pub views : s.views ≡ first_view key ∷ []

abbrev pub Holding : Key → State Content Knowledge → Type 0
Holding key s = Starts key s ⊎ Kept key s

-- ---- how seats are split and joined

-- the view without its second local history, which was split off
abbrev pub left_of : Knowledge → Knowledge
left_of [] = []
left_of (x ∷ []) = x ∷ []
left_of (x ∷ y ∷ ys) = x ∷ ys

abbrev pub right_of : Knowledge → Knowledge
right_of [] = []
right_of (x ∷ []) = []
right_of (x ∷ y ∷ ys) = y ∷ []

-- a copy: the history that a pass shows, without a number
abbrev pub copy : LocalHistory → LocalHistory
copy x = record x { number = None; mine = [] }

abbrev pub copy_of : Knowledge → Knowledge
copy_of [] = []
copy_of (x ∷ xs) = copy x ∷ []

abbrev pub joined : Knowledge → Knowledge → Knowledge
joined v w = v ++ w

abbrev pub spent_view : Knowledge
spent_view = []
